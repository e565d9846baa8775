use Rattle.std.proofs.Common.{ℕ, ◌+◌, arith, sym, subst, ◌∙◌}
use Rattle.ebs_lineage.specs.Lines.{array}
use Rattle.ebs_lineage.specs.Changed.{differ}
use Rattle.ebs_listing.proofs.Lined.{changed-near}
use Rattle.ebs_kept.specs.Stamps.{Digests}
use Rattle.ebs_kept.proofs.Gathered.{AddsBelow, adds-nothing, adds-one}
use Rattle.ebs_kept.proofs.stamps.add_changes.Goals.{in-Some-block+in_ok-insert, in_default-block}
use Rattle.ebs_kept.proofs.stamps.add_changes.Goals as goal

pub loop-from-preserved : goal.loop-from-preserved
loop-from-preserved c =
    let base = array c.args.lineage.now.table.nodes c.args.base.number in
    let blocks = array c.args.lineage.now.table.nodes c.args.node.number in
    let old = c.args.digests.now in
    let found = c.in-Some.ensures in
    let so = c.loop-from.invariant.0 in
    let is = c.from-from.ensures in
    let near = changed-near base blocks (c.keeps_small.ensures c.args.base.number) (c.keeps_small.ensures c.args.node.number) c.in-Some.index ((λ j. differ (sym found.1 j) (sym found.2 j)) ∙ found.3) in (
      elim c.match-block.branch [
        | in-Some-block+in_ok-insert w ↦ subst (λ (p : ℕ × Digests). AddsBelow blocks (p.0 + 1) old p.1) (sym (λ i. (is i, (w.digests-is ∙ w.in_ok-insert.ensures.ok) i)))
            (adds-one base blocks old c.requires c.loop-from.from c.in-Some.index c.loop-from.digests w.in-Some-block.block so (sym found.2 ∙ w.in-Some-block.is) found.4)
        | in_default-block w ↦ subst (λ (p : ℕ × Digests). AddsBelow blocks (p.0 + 1) old p.1) (sym (λ i. (is i, w.digests-is i)))
            (adds-nothing base blocks old c.requires c.loop-from.from c.in-Some.index c.loop-from.digests so (sym found.2 ∙ w.in_default-block.is) found.4)
      ],
      omega (arith, is, near),
    )
