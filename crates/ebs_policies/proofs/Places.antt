-- What is kept of policies, through edits.
use Rattle.std.proofs.Common.{◌≡◌, Bool, true, false, cond, Option, Some, None, is_some, refl, sym, ap, subst, ◌∙◌}
use Rattle.std.proofs.lemmas.Bool.{false≢true}
use Rattle.std.specs.Ordering.{eq_by_cmp}
use Rattle.std.specs.FinMap.{FinMap, get, contains_key, insert, remove, empty, same_map, get-insert, get-remove, get-empty}
use Rattle.ebs_tables.specs.Full.{full, released}
use Rattle.ebs_tables.proofs.MapEdits.{is_same, tied}
use Rattle.ebs_tables.proofs.FullLaws.{get-full, flat, ready-some}
use Rattle.ebs_model.specs.declared.keys.PolicyKey.{PolicyKey}
use Rattle.ebs_model.specs.declared.policy.Policy.{Policy}
use Rattle.ebs_model.specs.Keys.{policy_cmp}
use Rattle.ebs_model.specs.inner.Orders.{policies_total, exact_policies}
use Rattle.ebs_policies.specs.Table.{IsSound, AreSound}

abbrev pub Kept : Type 0
Kept = FinMap policy_cmp Policy

none_is : (p : Policy) → ◌≡◌ {A = Option Policy} None (Some p) → ⊥
none_is p e = cc

some_same : (a b : Policy) → Some a ≡ Some b → a ≡ b
some_same a b e = cc

pub sound-empty : AreSound empty
sound-empty = record { each = λ key p e. absurd (none_is p (sym (get-empty policy_cmp key) ∙ e)) }

pub sound-insert : (m : Kept) (key : PolicyKey) (v : Policy) → AreSound m → IsSound key v → AreSound (insert m key v)
sound-insert m key v s h = record { each = λ q p e. by q p (eq_by_cmp policy_cmp q key) refl (sym (get-insert policies_total m key v q) ∙ e) }
  where
    by : (q : PolicyKey) (p : Policy) (b : Bool) → eq_by_cmp policy_cmp q key ≡ b → cond b (Some v) (get m q) ≡ Some p → IsSound q p
    by q p true t e = subst (λ k. IsSound k p) (sym (is_same exact_policies q key t)) (subst (IsSound key) (some_same v p e) h)
    by q p false t e = s.each q p e

pub sound-remove : (m : Kept) (key : PolicyKey) → AreSound m → AreSound (remove m key)
sound-remove m key s = record { each = λ q p e. by q p (eq_by_cmp policy_cmp q key) (sym (get-remove policies_total m key q) ∙ e) }
  where
    by : (q : PolicyKey) (p : Policy) (b : Bool) → cond b None (get m q) ≡ Some p → IsSound q p
    by q p true e = absurd (none_is p e)
    by q p false e = s.each q p e

-- a policy that is written again
pub again : (m : Kept) (k : PolicyKey) (v : Policy) → insert (remove m k) k v ≡ insert m k v
again m k v = same_map policies_total exact_policies _ _ (λ q.
    get-insert policies_total (remove m k) k v q ∙ ap (cond (eq_by_cmp policy_cmp q k) (Some v)) (get-remove policies_total m k q) ∙ by (eq_by_cmp policy_cmp q k) (get m q) ∙ sym (get-insert policies_total m k v q))
  where
    by : (b : Bool) (x : Option Policy) → cond b (Some v) (cond b None x) ≡ cond b (Some v) x
    by true x = refl
    by false x = refl

gone : {X : Type 0} (m : FinMap policy_cmp X) (k : PolicyKey) → get (remove m k) k ≡ None
gone m k = get-remove policies_total m k k ∙ ap (λ b. cond b None (get m k)) (tied policies_total k)

-- a key that is given back is there with a policy, or isn't
module _ (m : FinMap policy_cmp (Option Policy)) (k : PolicyKey) where
  is-ready : contains_key (full m) k ≡ true → contains_key m k ≡ true
  is-ready e = by (get (full m) k) refl e
    where
      by : (x : Option Policy) → get (full m) k ≡ x → is_some x ≡ true → contains_key m k ≡ true
      by None h e = absurd (false≢true e)
      by (Some v) h e = ready-some policies_total m k v h

  pub released-free : contains_key (released m k) k ≡ contains_key (full (released m k)) k
  released-free = by (contains_key (full m) k) refl
    where
      by : (b : Bool) → contains_key (full m) k ≡ b → contains_key (cond b m (remove m k)) k ≡ contains_key (full (cond b m (remove m k))) k
      by true e = is-ready e ∙ sym e
      by false e = ap is_some (gone m k) ∙ sym (ap is_some (get-full policies_total (remove m k) k ∙ ap flat (gone m k)))
