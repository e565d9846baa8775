-- One walk over all that have a node, which stops at each whose array isn't shown.
use Rattle.std.proofs.Common.{◌≡◌, ℕ, Bool, true, false, cond, ◌&&◌, List, [], ◌∷◌, Some, None, IsSome, is_some, Ordering, Less, Equal, Greater, T, refl, sym, ap, subst, ◌∙◌}
use Rattle.std.proofs.lemmas.Bool.{false≢true}
use Rattle.std.specs.List.{filter}
use Rattle.std.specs.Ordering.{is_eq, is_le, is_lt, eq_by_cmp, ordering_reverse}
use Rattle.std.specs.FinMap.{get, remove, entries, entries_sorted, get-entries}
use Rattle.std.specs.FinMap.Entries.{find, is_sorted, below_all, find-where_key, is_sorted-where_key}
use Rattle.ebs_tables.proofs.MapEdits.{is_same, tied}
use Rattle.ebs_model.specs.Rows.{Rows}
use Rattle.ebs_lineage.specs.declared.node_id.NodeId.{NodeId}
use Rattle.ebs_holds.specs.declared.holder.Holder.{Holder}
use Rattle.ebs_holds.specs.Holders.{holder_cmp}
use Rattle.ebs_holds.specs.Orders.{exact_holders, holders_total}
use Rattle.ebs_holds.specs.Holds.{HeldBy}
use Rattle.ebs_kept.specs.inner.Stamps.{is_shown}
use Rattle.ebs_kept.specs.inner.Counted.{IsShownBefore}
use Rattle.ebs_kept.proofs.Live.{holder-first}
use Rattle.ebs_kept.proofs.Unseen.{none-stays}

abbrev Nodes : Type 0
Nodes = List (Holder × NodeId)

-- ---- keys that rise

less_of : (o : Ordering) → T (is_lt o) → o ≡ Less
less_of Less h = refl
less_of Equal h = absurd h
less_of Greater h = absurd h

first_of : (a b : Bool) → T (a && b) → T a
first_of true b h = tt
first_of false b h = h

second_of : (a b : Bool) → T (a && b) → T b
second_of true b h = h
second_of false b h = absurd h

turned : (o : Ordering) → is_le o ≡ false → ordering_reverse o ≡ Less
turned Less e = absurd (false≢true (sym e))
turned Equal e = absurd (false≢true (sym e))
turned Greater e = refl

none-behind : (q x : Holder) → holder_cmp q x ≡ Less → (es : Nodes) → T (below_all holder_cmp x es) → find holder_cmp q es ≡ None
none-behind q x less [] h = refl
none-behind q x less (e ∷ es) h =
    let below : holder_cmp q e.0 ≡ Less = holders_total.trans q x e.0 less (less_of (holder_cmp x e.0) (first_of _ _ h)) in
    ap (λ o. cond (is_eq o) (Some e.1) (find holder_cmp q es)) below ∙ none-behind q x less es (second_of _ _ h)

-- what is below the first key stands nowhere
none-below : (q x : Holder) (n : NodeId) (es : Nodes) → is_le (holder_cmp x q) ≡ false → T (is_sorted holder_cmp ((x, n) ∷ es)) → find holder_cmp q ((x, n) ∷ es) ≡ None
none-below q x n es above rises =
    let less : holder_cmp q x ≡ Less = holders_total.antisymm q x ∙ turned (holder_cmp x q) above in
    ap (λ o. cond (is_eq o) (Some n) (find holder_cmp q es)) less ∙ none-behind q x less es (first_of _ _ rises)

-- ---- the walk

abbrev from_key : Holder → Holder → Bool
from_key from q = is_le (holder_cmp from q)

module _ (now : ℕ) (rows : Rows) (g : HeldBy) where
  -- what isn't shown and has a node is among these
  abbrev pub IsLeft : Nodes → Type 0
  IsLeft es = (q : Holder) → is_shown now rows q ≡ false → get g q ≡ find holder_cmp q es

  -- before the first holder there is none
  pub first-before : (first : Holder) → first ≡ record { is_volume = false; account = 0; number = 0 } → IsShownBefore now rows g first
  first-before first is q before hidden =
      absurd (false≢true (sym before ∙ ap (λ k. is_le (holder_cmp k q)) is ∙ holder-first q q.is_volume refl))

  pub left-from : (from : Holder) → IsShownBefore now rows g from → IsLeft (filter (λ e. is_le (holder_cmp from e.0)) (entries g))
  left-from from before q hidden = by (from_key from q) refl
    where
      found : find holder_cmp q (filter (λ e. is_le (holder_cmp from e.0)) (entries g)) ≡ cond (from_key from q) (find holder_cmp q (entries g)) None
      found = find-where_key holder_cmp (from_key from) q (λ x tie. ap (from_key from) (sym (exact_holders q x tie))) (entries g)

      by : (b : Bool) → from_key from q ≡ b → get g q ≡ find holder_cmp q (filter (λ e. is_le (holder_cmp from e.0)) (entries g))
      by true t = get-entries g q ∙ sym (found ∙ ap (λ b. cond b (find holder_cmp q (entries g)) None) t)
      by false t = before q t hidden ∙ sym (found ∙ ap (λ b. cond b (find holder_cmp q (entries g)) None) t)

  pub rises-from : (from : Holder) → T (is_sorted holder_cmp (filter (λ e. is_le (holder_cmp from e.0)) (entries g)))
  rises-from from = is_sorted-where_key holder_cmp (from_key from) (entries g) (entries_sorted g)

  -- one that is shown is passed by
  pub left-next : (x : Holder) (n : NodeId) (rest tail : Nodes) → rest ≡ (x, n) ∷ tail → is_shown now rows x ≡ true → IsLeft rest → IsLeft tail
  left-next x n rest tail is shows left q hidden = left q hidden ∙ ap (find holder_cmp q) is ∙ by (eq_by_cmp holder_cmp q x) refl
    where
      by : (b : Bool) → eq_by_cmp holder_cmp q x ≡ b → find holder_cmp q ((x, n) ∷ tail) ≡ find holder_cmp q tail
      by true t = absurd (false≢true (sym hidden ∙ ap (is_shown now rows) (is_same exact_holders q x t) ∙ shows))
      by false t = ap (λ b. cond b (Some n) (find holder_cmp q tail)) t

  pub left-none : (rest : Nodes) → rest ≡ [] → IsLeft rest → (q : Holder) → is_shown now rows q ≡ false → get g q ≡ None
  left-none rest is left q hidden = left q hidden ∙ ap (find holder_cmp q) is

  -- before the one that is found there is none
  pub left-before : (x : Holder) (n : NodeId) (rest tail : Nodes) → rest ≡ (x, n) ∷ tail → T (is_sorted holder_cmp rest) → IsLeft rest → IsShownBefore now rows g x
  left-before x n rest tail is rises left q above hidden =
      left q hidden ∙ ap (find holder_cmp q) is ∙ none-below q x n tail above (subst (λ es. T (is_sorted holder_cmp es)) is rises)

  -- and it has a node
  pub left-there : (x : Holder) (n : NodeId) (rest tail : Nodes) → rest ≡ (x, n) ∷ tail → is_shown now rows x ≡ false → IsLeft rest → IsSome (get g x)
  left-there x n rest tail is hidden left =
      ap is_some (left x hidden ∙ ap (find holder_cmp x) is ∙ ap (λ b. cond b (Some n) (find holder_cmp x tail)) (tied holders_total x))

  -- nor where one was taken out
  pub dropped-before : (h : HeldBy) (x from : Holder) → h ≡ remove g x → IsShownBefore now rows g from → IsShownBefore now rows h from
  dropped-before h x from is before q above hidden = ap (λ m. get m q) is ∙ none-stays g x q (before q above hidden)

pub rises-next : (x : Holder) (n : NodeId) (rest tail : Nodes) → rest ≡ (x, n) ∷ tail → T (is_sorted holder_cmp rest) → T (is_sorted holder_cmp tail)
rises-next x n rest tail is rises = second_of _ _ (subst (λ es. T (is_sorted holder_cmp es)) is rises)
