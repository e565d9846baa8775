-- A walk over rows that gives each its node.
use Rattle.std.proofs.Common.{◌≡◌, ◌⊎◌, inl, inr, ℕ, Bool, true, false, cond, List, [], ◌∷◌, Some, None, Ordering, refl, sym, ap, subst, ◌∙◌}
use Rattle.std.specs.List.{AllByRecursion}
use Rattle.std.specs.Cmp.{IsTotalOrder}
use Rattle.std.specs.Ordering.{eq_by_cmp}
use Rattle.std.specs.FinMap.{FinMap, IsAntisymmetric, get, entries, get-entries}
use Rattle.std.specs.FinMap.Entries.{find}
use Rattle.ebs_tables.proofs.MapEdits.{is_same}
use Rattle.ebs_model.specs.declared.keys.SnapKey.{SnapKey}
use Rattle.ebs_model.specs.declared.keys.VolKey.{VolKey}
use Rattle.ebs_model.specs.declared.rows.SnapRow.{SnapRow}
use Rattle.ebs_model.specs.declared.rows.RowStatus.{RowStatus}
use Rattle.ebs_model.specs.declared.rows.RowStatus.TheVariants.{Pending, Completed, Failed}
use Rattle.ebs_model.specs.Time.{status_at}
use Rattle.ebs_model.specs.Rows.{Rows}
use Rattle.ebs_holds.specs.declared.holder.Holder.{Holder}
use Rattle.ebs_holds.specs.Holders.{of_snap}
use Rattle.ebs_holds.specs.Holds.{Holding, KeepsNode}
use Rattle.ebs_catalog.proofs.RunCommits.{entries-in}
use Rattle.ebs_kept.specs.inner.Nodes.{HasNodeBy, HaveNodes}
use Rattle.ebs_kept.specs.inner.Readied.{HasSnapNode, HaveSnapNodes, HaveVolNodes, KeepsArrays}

some_same : {A : Type 0} (a b : A) → Some a ≡ Some b → a ≡ b
some_same a b e = cc

none_some : {A B : Type 0} (x : A) → None ≡ Some x → B
none_some x e = absurd (cc)

-- each row is still to come, or has what it is given
abbrev pub IsWalked : {K X : Type 0} {R : K → K → Ordering} → FinMap R X → (K → X → Type 0) → List (K × X) → Type 0
IsWalked {K} {X} {R} rows Has rest = AllByRecursion (λ (e : K × X). get rows e.0 ≡ Some e.1) rest × ((key : K) (x : X) → get rows key ≡ Some x → (find R key rest ≡ Some x) ⊎ Has key x)

module _ {K X : Type 0} {R : K → K → Ordering} (o : IsTotalOrder R) (same : IsAntisymmetric R) (rows : FinMap R X) where
  pub walked-all : (Has : K → X → Type 0) (rest : List (K × X)) → rest ≡ entries rows → IsWalked rows Has rest
  walked-all Has rest is = (subst (AllByRecursion (λ (e : K × X). get rows e.0 ≡ Some e.1)) (sym is) (entries-in o rows), λ key x found. inl (ap (find R key) is ∙ sym (get-entries rows key) ∙ found))

  pub walked-next : (Has New : K → X → Type 0) (rest tail : List (K × X)) (k : K) (r : X) → rest ≡ (k, r) ∷ tail → IsWalked rows Has rest
      → New k r → ((key : K) (x : X) → eq_by_cmp R key k ≡ false → Has key x → New key x) → IsWalked rows New tail
  walked-next Has New rest tail k r is walked new others = (there.1, λ key x found. by key x found (eq_by_cmp R key k) refl)
    where
      there : AllByRecursion (λ (e : K × X). get rows e.0 ≡ Some e.1) ((k, r) ∷ tail)
      there = subst (AllByRecursion (λ (e : K × X). get rows e.0 ≡ Some e.1)) is walked.0

      by : (key : K) (x : X) → get rows key ≡ Some x → (b : Bool) → eq_by_cmp R key k ≡ b → (find R key tail ≡ Some x) ⊎ New key x
      by key x found true t =
          let it : k ≡ key = sym (is_same same key k t) in
          let row : r ≡ x = some_same r x (sym (there.0) ∙ ap (get rows) it ∙ found) in
          inr (subst (λ (p : K × X). New p.0 p.1) (λ i. (it i, row i)) new)
      by key x found false t = elim (walked.1 key x found) [
        | inl e ↦ inl (sym (ap (λ b. cond b (Some r) (find R key tail)) t) ∙ sym (ap (find R key) is) ∙ e)
        | inr has ↦ inr (others key x t has)
      ]

  pub walked-none : (Has : K → X → Type 0) (rest : List (K × X)) → rest ≡ [] → IsWalked rows Has rest → (key : K) (x : X) → get rows key ≡ Some x → Has key x
  walked-none Has rest is walked key x found = elim (walked.1 key x found) [
    | inl e ↦ none_some x (sym (ap (find R key) is) ∙ e)
    | inr has ↦ has
  ]

-- ---- nodes and arrays through one call

pub keeps-none : (h : Holding) → KeepsArrays h h
keeps-none h = record { arrays = λ q. refl; blocks = λ n. refl; queue = refl }

pub keeps-then : (f g h : Holding) → KeepsArrays f g → KeepsArrays g h → KeepsArrays f h
keeps-then f g h first second = record {
  arrays = λ q. second.arrays q ∙ first.arrays q;
  blocks = λ n. second.blocks n ∙ first.blocks n;
  queue = second.queue ∙ first.queue;
}

pub node-none : (h : Holding) (q : Holder) → KeepsNode h h q
node-none h q = record { is_open = λ x. x; is_closed = λ x. x }

pub node-then : (f g h : Holding) (q : Holder) → KeepsNode f g q → KeepsNode g h q → KeepsNode f h q
node-then f g h q first second = record { is_open = λ x. second.is_open (first.is_open x); is_closed = λ x. second.is_closed (first.is_closed x) }

pub node-kept : (s : RowStatus) (h k : Holding) (q : Holder) → KeepsNode h k q → HasNodeBy s h q → HasNodeBy s k q
node-kept Pending h k q keeps has = keeps.is_open has
node-kept Completed h k q keeps has = keeps.is_closed has
node-kept Failed h k q keeps has = tt

pub snap-kept : (now : ℕ) (h k : Holding) (key : SnapKey) (row : SnapRow) → KeepsNode h k (of_snap key) → HasSnapNode now h key row → HasSnapNode now k key row
snap-kept now h k key row keeps has stays = node-kept (status_at row now) h k (of_snap key) keeps (has stays)

-- both walks
pub have-both : (now : ℕ) (rows : Rows) (h k : Holding) → HaveSnapNodes now rows h → ((key : SnapKey) → KeepsNode h k (of_snap key)) → HaveVolNodes rows k → HaveNodes now rows k
have-both now rows h k snaps keeps vols = record {
  snapshots = λ key row found. snap-kept now h k key row (keeps key) (snaps key row found);
  volumes = λ key row found. vols key row found;
}
