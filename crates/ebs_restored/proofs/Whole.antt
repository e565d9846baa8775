-- What a checkpoint's nodes and rows are in a store, as a whole.
use Rattle.std.proofs.Common.{◌≡◌, ℕ, Bool, true, List, [], ◌∷◌, Option, None, Some, IsSome, is_some, refl, sym, ap, subst, ◌∙◌}
use Rattle.std.proofs.lemmas.Bool.{and_parts}
use Rattle.std.specs.Ordering.{nat_cmp}
use Rattle.std.specs.FinMap as fin
use Rattle.ebs_checkpoints.specs.declared.nodes.NodeRow.{NodeRow}
use Rattle.ebs_checkpoints.specs.declared.owned.VolPoint.{VolPoint}
use Rattle.ebs_checkpoints.specs.declared.snapshots.SnapPoint.{SnapPoint}
use Rattle.ebs_checkpoints.specs.declared.checkpoint.Checkpoint.{Checkpoint}
use Rattle.ebs_row_rules.specs.Order.{is_ordered, has_ordered_rows, has_ordered_blocks, has_ordered_members, has_ordered_accounts, ascends}
use Rattle.ebs_model.specs.Keys.{snap_cmp, vol_cmp}
use Rattle.ebs_lineage.specs.Lines.{Lines, AreLines}
use Rattle.ebs_node_rules.specs.Nodes as forest
use Rattle.ebs_node_rules.specs.Arrays.{arrays_of}
use Rattle.ebs_node_rules.specs.inner.Lookups.{AreChained, set_of}
use Rattle.ebs_node_rules.proofs.Marks.{marks}
use Rattle.ebs_checkpoint_rules.proofs.Ascents.{nodes_of, entries_of}
use Rattle.ebs_lawful_points.proofs.Parts.{three, six}
use Rattle.ebs_holds.specs.Holds.{AreHeld, HeldBy, Holding, array_at, held_in}
use Rattle.ebs_regrown.specs.Regrown.{Numbers, IsRegrown}
use Rattle.ebs_restored.specs.Holders.{AreNumbered, HaveNodes, named, naming}
use Rattle.ebs_restored.specs.Restored.{AreRestored}
use Rattle.ebs_restored.proofs.Named.{AreNew, are_new, numbers, numbers_are}
use Rattle.ebs_restored.proofs.Held.{are_held}
use Rattle.ebs_restored.proofs.Arrays.{array_is}

-- each node that is listed has a number
listed_numbered : (rows : List NodeRow) (keep : ℕ → Bool) (of : Numbers) (l : Lines) → IsRegrown rows keep of l → (ns : List ℕ) → forest.are_listed rows ns ≡ true → AreNumbered of ns
listed_numbered rows keep of l grown [] all = tt
listed_numbered rows keep of l grown (n ∷ ns) all =
    let parts = and_parts (is_some (forest.node_of rows (Some n))) (forest.are_listed rows ns) all in
    (by (forest.node_of rows (Some n)) refl parts.0, listed_numbered rows keep of l grown ns parts.1)
  where
    by : (o : Option NodeRow) → forest.node_of rows (Some n) ≡ o → IsSome o → IsSome (fin.get of n)
    by None is some = absurd (cc)
    by (Some row) is some = let node = grown.each n row is in subst IsSome (sym node.numbered) refl

module _ (point : Checkpoint) (ordered : is_ordered point ≡ true) (wooded : forest.is_forest point ≡ true) where
  abbrev all : List ℕ
  all = forest.names point.snapshots point.volumes

  parts : (forest.have_parents point.nodes ≡ true) × (forest.are_distinct all ≡ true) × (forest.are_listed point.nodes all ≡ true) × (forest.are_writable point.nodes point.volumes ≡ true)
      × (forest.open_are_named point.nodes (forest.is_among all) ≡ true) × (forest.are_needed point.nodes (forest.is_among all) (forest.is_among (forest.parents point.nodes)) ≡ true)
  parts = six (forest.have_parents point.nodes) (forest.are_distinct all) (forest.are_listed point.nodes all) (forest.are_writable point.nodes point.volumes)
      (forest.open_are_named point.nodes (forest.is_among all)) (forest.are_needed point.nodes (forest.is_among all) (forest.is_among (forest.parents point.nodes))) wooded

  pub chained : AreChained point.nodes
  chained = record { ascend = nodes_of point ordered; entries = entries_of point ordered; parents = parts.0 }

  pub open_named : forest.open_are_named point.nodes (fin.contains_key (set_of all)) ≡ true
  open_named = ap (forest.open_are_named point.nodes) (λ i q. marks all q i) ∙ parts.4

  rows_ordered : has_ordered_rows point ≡ true
  rows_ordered = (three (has_ordered_rows point) (has_ordered_blocks point) (has_ordered_members point) ordered).0

  new : AreNew (naming point.snapshots point.volumes)
  new =
      let rest = (and_parts (has_ordered_accounts point.accounts) _ rows_ordered).1 in
      let snaps = and_parts (ascends snap_cmp (λ s. s.key) point.snapshots) _ rest in
      let vols = and_parts (ascends vol_cmp (λ v. v.row.key) point.volumes) _ snaps.1 in
      are_new point.snapshots point.volumes snaps.0 vols.0

  module _ (of : Numbers) (l : Lines) (grown : IsRegrown point.nodes (fin.contains_key (set_of all)) of l) where
    pub all_numbered : AreNumbered of all
    all_numbered = listed_numbered point.nodes (fin.contains_key (set_of all)) of l grown all parts.2

    module _ (nodes : HeldBy) (have : HaveNodes of (named point.snapshots point.volumes) nodes) where
      pub holders_held : AreLines l.table.nodes l.made → AreHeld l.table.nodes l.made nodes
      holders_held lines =
          let es = naming point.snapshots point.volumes in
          let is : numbers es ≡ all = numbers_are point.snapshots point.volumes in
          are_held of es nodes have point.nodes (fin.contains_key (set_of all)) l grown lines
          (λ number. marks all number ∙ ap (λ ns. forest.is_among ns number) (sym is))
          (ap forest.are_distinct is ∙ parts.1) (ap (forest.are_listed point.nodes) is ∙ parts.2) new

      pub restored : (h : Holding) → h.lines ≡ l → held_in h ≡ nodes → AreRestored point h
      restored h lines held = record {
        numbers = of;
        grown = subst (λ m. IsRegrown point.nodes (forest.is_among all) of m) (sym lines) (subst (λ keep. IsRegrown point.nodes keep of l) (λ i q. marks all q i) grown);
        holders = subst (HaveNodes of (named point.snapshots point.volumes)) (sym held) have;
        arrays = λ q. (λ i. array_at (lines i).table.nodes (held i) q) ∙ array_is of l.table.nodes (arrays_of point.nodes) (named point.snapshots point.volumes) nodes grown.arrays have q;
      }

-- the numbers that were marked are those that rows name
pub marked_are : (point : Checkpoint) (ss : List SnapPoint) (vs : List VolPoint) (named items : List ℕ) (kept : fin.FinMap nat_cmp (Unit {0})) → ss ≡ point.snapshots → vs ≡ point.volumes → items ≡ forest.names ss vs → named ≡ items
    → kept ≡ set_of named → kept ≡ set_of (forest.names point.snapshots point.volumes)
marked_are point ss vs named items kept snaps vols names is marked = marked ∙ ap set_of (is ∙ names ∙ (λ i. forest.names (snaps i) (vols i)))

pub grown_is : (rows nodes : List NodeRow) (kept all : fin.FinMap nat_cmp (Unit {0})) (of : Numbers) (l : Lines) → rows ≡ nodes → kept ≡ all → IsRegrown rows (fin.contains_key kept) of l → IsRegrown nodes (fin.contains_key all) of l
grown_is rows nodes kept all of l is same grown = subst (λ (p : List NodeRow × fin.FinMap nat_cmp (Unit {0})). IsRegrown p.0 (fin.contains_key p.1) of l) (λ i. (is i, same i)) grown
