-- The nodes of a checkpoint, of the rows that a lineage gives without the entries that are nobody's.
use Rattle.std.proofs.Common.{◌≡◌, ℕ, true, List, Option, None, Some, IsSome, refl, sym, ap, subst, ◌∙◌}
use Rattle.std.specs.List.{AllByRecursion}
use Rattle.std.specs.FinMap.{get}
use Rattle.ebs_model.specs.declared.array.Block.{Block}
use Rattle.ebs_checkpoints.specs.declared.nodes.EntryRow.{EntryRow}
use Rattle.ebs_checkpoints.specs.declared.nodes.NodeRow.{NodeRow}
use Rattle.ebs_lineage.specs.Table.{NodeMap}
use Rattle.ebs_lineage.specs.Lines.{array}
use Rattle.ebs_node_rules.specs.Nodes.{is_among, node_of}
use Rattle.ebs_node_rules.specs.Arrays.{arrays_of}
use Rattle.ebs_node_rules.specs.inner.Lookups.{AreChained}
use Rattle.ebs_node_rows.specs.Rows.{AreNeeded, AreRowsOf, HaveArrays, IsListed}
use Rattle.ebs_kept.specs.Stamps.{Digests}
use Rattle.ebs_point_rules.specs.Values.{HasNodeValues}
use Rattle.ebs_point.specs.Live.{is_live, live_rows, with_live}
use Rattle.ebs_point.specs.Nodes.{AreLive, AreNodesOf, HasRow}
use Rattle.ebs_point.proofs.Dropped.{array-kept, chained-kept, found-in-kept, named-kept, needed-kept}
use Rattle.ebs_point.proofs.Entered.{live-entries, rows-keep}

some-of : {X : Type 0} (o : Option X) → IsSome o → (x : X) × (o ≡ Some x)
some-of None h = absurd (cc)
some-of (Some x) h = (x, refl)

module _ (nodes : NodeMap) (named : List ℕ) (digests : Digests) (rows : List NodeRow) (each : AreRowsOf nodes rows) (chained : AreChained rows) (arrays : HaveArrays nodes rows)
    (listed : (number : ℕ) → is_among named number ≡ true → IsListed rows number) (needed : AreNeeded rows (is_among named)) (live : AreLive nodes named digests) where
  has-row : (number : ℕ) → is_among named number ≡ true → HasRow nodes (live_rows digests rows) number
  has-row number among =
      let r = some-of (node_of rows (Some number)) (listed number among) in
      let is = each number r.0 r.1 in
      record { row = with_live digests r.0; node = is.node; found = found-in-kept (is_live digests) rows number r.0 r.1; is = is.is; written = is.written }

  array-of : (number : ℕ) → is_among named number ≡ true → get (arrays_of (live_rows digests rows)) number ≡ Some (array nodes number)
  array-of number among = array-kept (is_live digests) rows chained.entries number (array nodes number) (arrays number (listed number among)) (live number among)

  pub nodes-of : (new : List NodeRow) → new ≡ live_rows digests rows → AllByRecursion HasNodeValues new → AreNodesOf nodes named digests new
  nodes-of new is values = subst (λ (ns : List NodeRow). AllByRecursion HasNodeValues ns → AreNodesOf nodes named digests ns) (sym is) (λ values. record {
    each = has-row;
    chained = chained-kept (is_live digests) rows chained;
    arrays = array-of;
    needed = record { open_named = named-kept (is_live digests) (is_among named) rows needed.open_named; needed = needed-kept (is_live digests) (is_among named) rows needed.needed };
    entries = live-entries nodes digests rows (rows-keep nodes rows each chained.ascend);
    values = values;
  }) values
