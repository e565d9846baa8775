use Rattle.std.proofs.Common.{◌&&◌, sym, ap, ◌∙◌}
use Rattle.std.specs.List.{list_any}
use Rattle.std.specs.FinMap.{entries}
use Rattle.ebs_tables.specs.Full.{held}
use Rattle.ebs_lineage.specs.Lines.{Lines, array}
use Rattle.ebs_holds.specs.Holders.{holder_cmp}
use Rattle.ebs_holds.specs.Holds.{held_in}
use Rattle.ebs_kept.specs.inner.Shown.{Form, kept_array}
use Rattle.ebs_kept.specs.inner.Stamps.{has_stamp, is_live}
use Rattle.ebs_kept.proofs.Live.{tested, live-is, all-holders, found-first, found-none, no-snapshot, no-volume}
use Rattle.ebs_kept.proofs.kept.Kept.is_live.Goals as goal

pub returns-then-has_stamp-clause-value : goal.returns-then-has_stamp-clause-value
returns-then-has_stamp-clause-value c =
    let k = c.self.inside in
    let stamp = c.args.stamp in
    let n = c.in-Some.node.now.number in
    let whole = c.into_iter-holder-iterator.ensures.into_iter_gives ∙ c.from-holder-items.ensures.values ∙ all-holders c.first_holder.result c.first_holder.ensures (entries (held holder_cmp c.nodes.result.now)) ∙ ap entries c.nodes.ensures in
    let shows = sym c.is_shown.ensures ∙ c.if-is_shown.true in
    let has = ap (λ (l : Lines). has_stamp stamp (kept_array (array l.table.nodes n))) (sym c.lineage-lineage.ensures) ∙ sym c.has_stamp.ensures ∙ c.if-has_stamp.true in
    let passes = ap (λ (f : Form). tested stamp f (c.in-Some.holder.now, c.in-Some.node.now)) (sym c.self.view_is) ∙ (λ i. shows i && has i) in
    let found = found-first (tested stamp c.args.self.now) _ _ _ whole c.loop-holder.invariant (c.in-Some.holder.now, c.in-Some.node.now) _ c.in-Some.ensures.steps passes in
    sym (ap (λ (f : Form). is_live f.machine c.args.stamp) (sym c.self.view_is) ∙ sym (live-is k c.args.stamp) ∙ ap (λ (f : Form). list_any (tested c.args.stamp f) (entries (held_in k.holdings))) c.self.view_is ∙ found)

pub returns-clause-value : goal.returns-clause-value
returns-clause-value c =
    let k = c.self.inside in
    let whole = c.into_iter-holder-iterator.ensures.into_iter_gives ∙ c.from-holder-items.ensures.values ∙ all-holders c.first_holder.result c.first_holder.ensures (entries (held holder_cmp c.nodes.result.now)) ∙ ap entries c.nodes.ensures in
    let none = found-none (tested c.args.stamp c.args.self.now) _ _ _ whole c.loop-holder.invariant c.in-None.ensures.steps.0 in
    sym (ap (λ (f : Form). is_live f.machine c.args.stamp) (sym c.self.view_is) ∙ sym (live-is k c.args.stamp) ∙ ap (λ (f : Form). list_any (tested c.args.stamp f) (entries (held_in k.holdings))) c.self.view_is ∙ none)

pub returns-clause-snapshots : goal.returns-clause-snapshots
returns-clause-snapshots c _ =
    let k = c.self.inside in
    let whole = c.into_iter-holder-iterator.ensures.into_iter_gives ∙ c.from-holder-items.ensures.values ∙ all-holders c.first_holder.result c.first_holder.ensures (entries (held holder_cmp c.nodes.result.now)) ∙ ap entries c.nodes.ensures in
    let none = found-none (tested c.args.stamp c.args.self.now) _ _ _ whole c.loop-holder.invariant c.in-None.ensures.steps.0 in
    no-snapshot c.args.self.now.machine c.args.stamp (ap (λ (f : Form). is_live f.machine c.args.stamp) (sym c.self.view_is) ∙ sym (live-is k c.args.stamp) ∙ ap (λ (f : Form). list_any (tested c.args.stamp f) (entries (held_in k.holdings))) c.self.view_is ∙ none)

pub returns-clause-volumes : goal.returns-clause-volumes
returns-clause-volumes c _ =
    let k = c.self.inside in
    let whole = c.into_iter-holder-iterator.ensures.into_iter_gives ∙ c.from-holder-items.ensures.values ∙ all-holders c.first_holder.result c.first_holder.ensures (entries (held holder_cmp c.nodes.result.now)) ∙ ap entries c.nodes.ensures in
    let none = found-none (tested c.args.stamp c.args.self.now) _ _ _ whole c.loop-holder.invariant c.in-None.ensures.steps.0 in
    no-volume c.args.self.now.machine c.args.stamp (ap (λ (f : Form). is_live f.machine c.args.stamp) (sym c.self.view_is) ∙ sym (live-is k c.args.stamp) ∙ ap (λ (f : Form). list_any (tested c.args.stamp f) (entries (held_in k.holdings))) c.self.view_is ∙ none)
