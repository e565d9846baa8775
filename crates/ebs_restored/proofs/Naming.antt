-- Holders that have the nodes that rows name.
use Rattle.std.proofs.Common.{◌≡◌, inl, inr, ℕ, zero, suc, ◌+◌, ◌<◌, List, [], ◌∷◌, ◌++◌, map, length, get_or, drop, Option, None, Some, IsSome, sym, ap, subst, ◌∙◌, arith}
use Rattle.std.specs.Option.{option_map}
use Rattle.std.specs.List.{filter_map, cons_option}
use Rattle.std.specs.FinMap as fin
use Rattle.std.specs.FinMap.{get-empty}
use Rattle.ebs_checkpoints.specs.declared.owned.VolPoint.{VolPoint}
use Rattle.ebs_checkpoints.specs.declared.snapshots.SnapPoint.{SnapPoint}
use Rattle.ebs_lineage.specs.declared.node_id.NodeId.{NodeId}
use Rattle.ebs_node_rules.proofs.Marks.{turn}
use Rattle.ebs_holds.specs.declared.holder.Holder.{Holder}
use Rattle.ebs_holds.specs.Holders.{holder_cmp, of_snap, of_vol}
use Rattle.ebs_holds.specs.Orders.{exact_holders, holders_total}
use Rattle.ebs_holds.specs.Holds.{HeldBy}
use Rattle.ebs_holds.proofs.Keyed.{cases, at_key, off_key}
use Rattle.ebs_regrown.specs.Regrown.{Numbers, up}
use Rattle.ebs_restored.specs.Holders.{AreNumbered, HaveNodes, Named, named, of_snapshot, of_volume}

abbrev number_in : Option NodeId → Option ℕ
number_in o = option_map (λ (n : NodeId). n.number) o

-- nobody has a node
pub none_has : (numbers : Numbers) (nodes : HeldBy) → nodes ≡ fin.empty → HaveNodes numbers fin.empty nodes
none_has numbers nodes is q = ap (λ (m : HeldBy). number_in (fin.get m q)) is ∙ ap number_in (get-empty holder_cmp q) ∙ sym (ap (up numbers) (get-empty holder_cmp q))

-- one holder more
pub one_more : (numbers : Numbers) (names : Named) (old new : HeldBy) (key : Holder) (number made : ℕ) → fin.get numbers number ≡ Some made → new ≡ fin.insert old key (record { number = made })
    → HaveNodes numbers names old → HaveNodes numbers (fin.insert names key number) new
one_more numbers names old new key number made numbered is have q = elim (cases holders_total exact_holders q key) [
  | inl t ↦
      ap (λ (m : HeldBy). number_in (fin.get m q)) is ∙ ap number_in (at_key holders_total exact_holders old key (record { number = made }) q t.1)
      ∙ sym numbered ∙ sym (ap (up numbers) (at_key holders_total exact_holders names key number q t.1))
  | inr t ↦
      ap (λ (m : HeldBy). number_in (fin.get m q)) is ∙ ap number_in (off_key holders_total exact_holders old key (record { number = made }) q t.0)
      ∙ have q ∙ sym (ap (up numbers) (off_key holders_total exact_holders names key number q t.0))
]

-- ---- the numbers of rows

pub later_numbered : (numbers : Numbers) (ms ns : List ℕ) → AreNumbered numbers (ms ++ ns) → AreNumbered numbers ns
later_numbered numbers [] ns are = are
later_numbered numbers (m ∷ ms) ns are = later_numbered numbers ms ns are.1

pub row_numbered : {X : Type 0} (numbers : Numbers) (node : X → ℕ) (rows : List X) (i : ℕ) (d : X) → i < length rows → AreNumbered numbers (map node rows) → IsSome (fin.get numbers (node (get_or rows i d)))
row_numbered numbers node [] i d l are = absurd (omega (arith, l))
row_numbered numbers node (x ∷ rows) zero d l are = are.0
row_numbered numbers node (x ∷ rows) (suc i) d l are = row_numbered numbers node rows i d (omega (arith, l)) are.1

pub some_numbered : (numbers : Numbers) (rows : List SnapPoint) (rest : List ℕ) (i : ℕ) (d : SnapPoint) (number : ℕ) → i < length rows → (get_or rows i d).node ≡ Some number
    → AreNumbered numbers (filter_map (λ (row : SnapPoint). row.node) rows ++ rest) → IsSome (fin.get numbers number)
some_numbered numbers [] rest i d number l e are = absurd (omega (arith, l))
some_numbered numbers (x ∷ rows) rest zero d number l e are =
    (subst (λ (o : Option ℕ). AreNumbered numbers (cons_option o (filter_map (λ (row : SnapPoint). row.node) rows) ++ rest)) e are).0
some_numbered numbers (x ∷ rows) rest (suc i) d number l e are = by (λ later. some_numbered numbers rows rest i d number (omega (arith, l)) e later) x.node are
  where
    by : (AreNumbered numbers (filter_map (λ (row : SnapPoint). row.node) rows ++ rest) → IsSome (fin.get numbers number)) → (o : Option ℕ)
        → AreNumbered numbers (cons_option o (filter_map (λ (row : SnapPoint). row.node) rows) ++ rest) → IsSome (fin.get numbers number)
    by more None later = more later
    by more (Some n) later = more later.1

-- ---- the turns of loops, from the last row on

module _ (numbers : Numbers) (nodes : HeldBy) (volumes : List VolPoint) where
  pub volume_turn : (i : ℕ) (row : VolPoint) (key : Holder) → i < length volumes → row ≡ get_or volumes i row → key ≡ of_vol row.row.key
      → HaveNodes numbers (fin.insert (named [] (drop (i + 1) volumes)) key row.node) nodes → HaveNodes numbers (named [] (drop i volumes)) nodes
  volume_turn i row key l e is have = subst (λ (m : Named). HaveNodes numbers m nodes)
      (ap (λ (k : Holder). fin.insert (named [] (drop (i + 1) volumes)) k row.node) is ∙ ap (λ (r : VolPoint). named [] (r ∷ drop (i + 1) volumes)) e ∙ turn (named []) volumes i row l) have

  module _ (snapshots : List SnapPoint) where
    pub snapshot_turn : (i : ℕ) (row : SnapPoint) (number : ℕ) (key : Holder) → i < length snapshots → row ≡ get_or snapshots i row → row.node ≡ Some number → key ≡ of_snap row.key
        → HaveNodes numbers (fin.insert (named (drop (i + 1) snapshots) volumes) key number) nodes → HaveNodes numbers (named (drop i snapshots) volumes) nodes
    snapshot_turn i row number key l e has is have = subst (λ (m : Named). HaveNodes numbers m nodes)
        (ap (λ (k : Holder). fin.insert (named (drop (i + 1) snapshots) volumes) k number) is
        ∙ ap (λ (o : Option ℕ). fin.from_entries (cons_option (option_map (λ (n : ℕ). (of_snap row.key, n)) o) (filter_map of_snapshot (drop (i + 1) snapshots)) ++ map of_volume volumes)) (sym has)
        ∙ ap (λ (r : SnapPoint). named (r ∷ drop (i + 1) snapshots) volumes) e ∙ turn (λ ss. named ss volumes) snapshots i row l) have

    pub nameless_turn : (i : ℕ) (row : SnapPoint) → i < length snapshots → row ≡ get_or snapshots i row → row.node ≡ None
        → HaveNodes numbers (named (drop (i + 1) snapshots) volumes) nodes → HaveNodes numbers (named (drop i snapshots) volumes) nodes
    nameless_turn i row l e none have = subst (λ (m : Named). HaveNodes numbers m nodes)
        (ap (λ (o : Option ℕ). fin.from_entries (cons_option (option_map (λ (n : ℕ). (of_snap row.key, n)) o) (filter_map of_snapshot (drop (i + 1) snapshots)) ++ map of_volume volumes)) (sym none)
        ∙ ap (λ (r : SnapPoint). named (r ∷ drop (i + 1) snapshots) volumes) e ∙ turn (λ ss. named ss volumes) snapshots i row l) have
