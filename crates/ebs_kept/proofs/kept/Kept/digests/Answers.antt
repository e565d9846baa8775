use Rattle.std.proofs.Common.{◌≡◌, List, Some, sym, ap, subst, ◌∙◌}
use Rattle.std.specs.List.{AllByRecursion}
use Rattle.std.specs.Ordering.{nat_cmp}
use Rattle.std.specs.FinMap.{FinMap, get, entries}
use Rattle.ebs_tables.specs.Full.{held}
use Rattle.ebs_lineage.specs.declared.node_id.NodeId.{NodeId}
use Rattle.ebs_lineage.specs.Lines.{Lines, array}
use Rattle.ebs_holds.specs.declared.holder.Holder.{Holder}
use Rattle.ebs_holds.specs.Holders.{holder_cmp}
use Rattle.ebs_holds.specs.Orders.{holders_total}
use Rattle.ebs_holds.specs.Holds.{held_in}
use Rattle.ebs_catalog.proofs.RunCommits.{entries-in}
use Rattle.ebs_kept.specs.inner.Shown.{Form, form}
use Rattle.ebs_kept.specs.Stamps.{Digests, AreDigests}
use Rattle.ebs_kept.specs.inner.Stamps.{AddsBlocks, HasStamps, IsDone}
use Rattle.ebs_kept.proofs.Live.{all-holders}
use Rattle.ebs_kept.proofs.Gathered.{Gathers, gathers-none, gathers-shown, base-has, are-digests}
use Rattle.ebs_kept.proofs.kept.Kept.digests.Goals as goal

pub loop-holder-init : goal.loop-holder-init
loop-holder-init c =
    let f = c.args.self.now in
    let whole = c.into_iter-holder-iterator.ensures.into_iter_gives ∙ c.from-holder-items.ensures.values ∙ all-holders c.first_holder.result c.first_holder.ensures (entries (held holder_cmp c.nodes.result.now)) ∙ ap entries c.nodes.ensures ∙ ap (λ (f : Form). entries (held_in f.holding)) c.self.view_is in
    let all = subst (λ (es : List (Holder × NodeId)). AllByRecursion (λ (e : Holder × NodeId). get (held_in f.holding) e.0 ≡ Some e.1) es) (sym whole) (entries-in holders_total (held_in f.holding)) in
    subst (λ (p : Digests × FinMap nat_cmp (Unit {0})). Gathers f p.0 p.1 c.into_iter-holder-iterator.result c.into_iter-holder-iterator.result) (sym (λ i. (c.new-digests.ensures i, c.new-done.ensures i)))
    (gathers-none f c.into_iter-holder-iterator.result all)

pub add_changes-requires : goal.add_changes-requires
add_changes-requires c =
    let k = c.self.inside in
    let n = c.nearest_done-base.result.number in
    let now = c.loop-holder in
    let so = subst (λ (f : Form). Gathers f now.digests now.done now.holder-iterator c.into_iter-holder-iterator.result) (sym c.self.view_is) now.invariant in
    let done = subst (λ (l : Lines). IsDone now.done (array l.table.nodes n) n) c.lineage-lineage.ensures c.nearest_done-base.ensures in
    subst (λ (l : Lines). HasStamps now.digests (array l.table.nodes n)) (sym c.lineage-lineage.ensures) (base-has k now.digests now.done now.holder-iterator c.into_iter-holder-iterator.result n so done)

pub loop-holder-preserved-in_ok-insert : goal.loop-holder-preserved-in_ok-insert
loop-holder-preserved-in_ok-insert c =
    let k = c.self.inside in
    let q = c.in-Some.holder.now in
    let n = c.in-Some.node.now in
    let now = c.loop-holder in
    let new = c.add_changes.new.digests in
    let whole = c.into_iter-holder-iterator.result in
    let so = subst (λ (f : Form). Gathers f now.digests now.done now.holder-iterator whole) (sym c.self.view_is) now.invariant in
    let shows = sym c.is_shown.ensures ∙ c.if-is_shown.true in
    let adds = subst (λ (l : Lines). AddsBlocks (array l.table.nodes n.number) now.digests new) c.lineage-lineage.ensures c.in_ok-add_changes.ensures in
    subst (λ (p : Form × FinMap nat_cmp (Unit {0})). Gathers p.0 new p.1 c.next.new.self whole) (λ i. (c.self.view_is i, sym c.in_ok-insert.ensures.ok i))
    (gathers-shown k now.digests new now.done q n now.holder-iterator c.next.new.self whole c.in-Some.ensures.steps shows adds so)

pub returns : goal.returns
returns c =
    let k = c.self.inside in
    let now = c.loop-holder in
    let whole = c.into_iter-holder-iterator.ensures.into_iter_gives ∙ c.from-holder-items.ensures.values ∙ all-holders c.first_holder.result c.first_holder.ensures (entries (held holder_cmp c.nodes.result.now)) ∙ ap entries c.nodes.ensures in
    let so = subst (λ (f : Form). Gathers f now.digests now.done now.holder-iterator c.into_iter-holder-iterator.result) (sym c.self.view_is) now.invariant in
    subst (λ (f : Form). AreDigests f.machine now.digests) c.self.view_is
    (are-digests k now.digests now.done now.holder-iterator c.in-None.ensures.steps.0 (subst (λ (es : List (Holder × NodeId)). Gathers (form k) now.digests now.done now.holder-iterator es) whole so))
