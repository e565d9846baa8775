use Rattle.ebs_holds.specs.Holds.{held_in}
use Rattle.ebs_catalog.specs.Held.{rows_in}
use Rattle.ebs_kept.proofs.Ended.{keeps-same, keeps-both, keeps-dropped, none-blocks, fewer-held}
use Rattle.ebs_kept.proofs.Walked.{first-before, dropped-before}
use Rattle.ebs_kept.proofs.collecting.drop_unshown.Goals as goal

pub loop-holder-init : goal.loop-holder-init
loop-holder-init c =
    let now = c.args.now.second in
    let rows = rows_in c.args.catalog.now in
    record {
      keeps = keeps-same now rows c.args.holdings.now;
      before = first-before now rows (held_in c.args.holdings.now) c.first_holder-from.result c.first_holder-from.ensures;
    }

pub next_unshown-requires : goal.next_unshown-requires
next_unshown-requires c = c.loop-holder.invariant.before

pub loop-holder-preserved : goal.loop-holder-preserved
loop-holder-preserved c =
    let now = c.args.now.second in
    let rows = rows_in c.args.catalog.now in
    record {
      keeps = keeps-both now rows c.args.holdings.now c.loop-holder.holdings c.drop_array.new.self c.loop-holder.invariant.keeps
          (keeps-dropped now rows c.loop-holder.holdings c.drop_array.new.self c.in-Some.holder c.in-Some.ensures.hidden c.drop_array.ensures.arrays c.drop_array.ensures.blocks c.drop_array.ensures.grows);
      before = dropped-before now rows (held_in c.loop-holder.holdings) (held_in c.drop_array.new.self) c.in-Some.holder c.in-Some.holder c.drop_array.ensures.held c.in-Some.ensures.before;
    }

pub loop-holder-smaller : goal.loop-holder-smaller
loop-holder-smaller c = fewer-held (held_in c.loop-holder.holdings) (held_in c.drop_array.new.self) c.in-Some.holder c.in-Some.ensures.there c.drop_array.ensures.held

pub returns-clause-keeps : goal.returns-clause-keeps
returns-clause-keeps c = c.loop-holder.invariant.keeps

pub returns-clause-shown : goal.returns-clause-shown
returns-clause-shown c = λ q unseen. none-blocks c.loop-holder.holdings q (c.in_default.ensures.none q unseen)
