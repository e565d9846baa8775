-- A number that is given back is there with a value, or isn't.
use Rattle.std.proofs.Common.{◌≡◌, ℕ, Bool, true, false, cond, Option, Some, None, is_some, refl, sym, ap, ◌∙◌}
use Rattle.std.proofs.lemmas.Bool.{false≢true}
use Rattle.std.specs.Cmp.{nat_cmp_total}
use Rattle.std.specs.Ordering.{nat_cmp}
use Rattle.std.specs.FinMap.{FinMap, get, contains_key, remove, get-remove}
use Rattle.std.specs.FinMap.{nat_cmp-IsAntisymmetric}
use Rattle.ebs_tables.specs.Full.{full, released}
use Rattle.ebs_tables.proofs.FullLaws.{get-full, flat, ready-some}
use Rattle.ebs_tables.proofs.MapEdits.{tied}

gone : {X : Type 0} (m : FinMap nat_cmp X) (k : ℕ) → get (remove m k) k ≡ None
gone m k = get-remove nat_cmp_total m k k ∙ ap (λ b. cond b None (get m k)) (tied nat_cmp_total k)

module _ {V : Type 0} (m : FinMap nat_cmp (Option V)) (k : ℕ) where
  is-ready : contains_key (full m) k ≡ true → contains_key m k ≡ true
  is-ready e = by (get (full m) k) refl e
    where
      by : (x : Option V) → get (full m) k ≡ x → is_some x ≡ true → contains_key m k ≡ true
      by None h e = absurd (false≢true e)
      by (Some v) h e = ready-some nat_cmp_total m k v h

  pub released-free : contains_key (released m k) k ≡ contains_key (full (released m k)) k
  released-free = by (contains_key (full m) k) refl
    where
      by : (b : Bool) → contains_key (full m) k ≡ b → contains_key (cond b m (remove m k)) k ≡ contains_key (full (cond b m (remove m k))) k
      by true e = is-ready e ∙ sym e
      by false e = ap is_some (gone m k) ∙ sym (ap is_some (get-full nat_cmp_total (remove m k) k ∙ ap flat (gone m k)))
