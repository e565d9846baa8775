-- What was made ready for nothing, and is released.
use Rattle.std.proofs.Common.{◌≡◌, inl, inr, Bool, true, false, cond, Option, Some, None, is_some, refl, sym, ap, subst, ◌∙◌}
use Rattle.std.specs.FinMap.{contains_key, get, remove}
use Rattle.ebs_tables.specs.Full.{full, released}
use Rattle.ebs_tables.proofs.FullLaws.{ready-some}
use Rattle.ebs_lineage.specs.declared.node_id.NodeId.{NodeId}
use Rattle.ebs_holds.specs.declared.holder.Holder.{Holder}
use Rattle.ebs_holds.specs.Orders.{exact_holders, holders_total}
use Rattle.ebs_holds.specs.Holds.{HeldBy, Slots}
use Rattle.ebs_holds.proofs.Keyed.{cases, stays, gone_at}

module _ (m n : Slots) (key : Holder) (is : n ≡ released m key) (same : full n ≡ full m) where
  there : contains_key (full m) key ≡ true → contains_key m key ≡ true
  there t = by (get (full m) key) refl t
    where
      by : (o : Option NodeId) → get (full m) key ≡ o → is_some o ≡ true → contains_key m key ≡ true
      by None e t = absurd (cc)
      by (Some v) e t = ready-some holders_total m key v e

  left : (b : Bool) → contains_key (full m) key ≡ b → (q : Holder) → contains_key n q ≡ cond b (contains_key m q) (contains_key (remove m key) q)
  left true t q = ap (λ (s : Slots). contains_key s q) (is ∙ ap (λ b. cond b m (remove m key)) t)
  left false t q = ap (λ (s : Slots). contains_key s q) (is ∙ ap (λ b. cond b m (remove m key)) t)

  kept : (q : Holder) → contains_key (full m) q ≡ contains_key (full n) q
  kept q = ap (λ (f : HeldBy). contains_key f q) (sym same)

  pub free_key : contains_key n key ≡ contains_key (full n) key
  free_key = by (contains_key (full m) key) refl
    where
      by : (b : Bool) → contains_key (full m) key ≡ b → contains_key n key ≡ contains_key (full n) key
      by true t = left true t key ∙ there t ∙ sym t ∙ kept key
      by false t = left false t key ∙ ap is_some (gone_at holders_total exact_holders m key) ∙ sym t ∙ kept key

  pub free_other : (q : Holder) → contains_key m q ≡ contains_key (full m) q → contains_key n q ≡ contains_key (full n) q
  free_other q before = elim (cases holders_total exact_holders q key) [
    | inl t ↦ subst (λ (k : Holder). contains_key n k ≡ contains_key (full n) k) (sym t.1) free_key
    | inr t ↦ by (contains_key (full m) key) refl t.1
  ]
    where
      by : (b : Bool) → contains_key (full m) key ≡ b → (q ≡ key → ⊥) → contains_key n q ≡ contains_key (full n) q
      by true t off = left true t q ∙ before ∙ kept q
      by false t off = left false t q ∙ ap is_some (stays holders_total exact_holders m key q off) ∙ before ∙ kept q
