use Rattle.std.proofs.Common.{refl, sym, ap, ◌∙◌}
use Rattle.std.specs.Option.{is_some}
use Rattle.ebs_row_rules.proofs.Sets.{empty_has, push, distinct_more, repeated}
use Rattle.ebs_row_rules.proofs.number_lists.are_distinct.Goals as goal

pub loop-number-init : goal.loop-number-init
loop-number-init c = (empty_has c.new-seen.result c.new-seen.ensures, refl)

pub returns-then-is_some : goal.returns-then-is_some
returns-then-is_some c =
    sym (repeated c.args.list.now c.loop-number.number-index c.loop-number-test.true c.loop-number.invariant.1
    (sym (c.loop-number.invariant.0 _) ∙ ap is_some (sym c.in_ok-insert.ensures.old) ∙ sym c.is_some.ensures ∙ c.if-is_some.true))

pub loop-number-preserved : goal.loop-number-preserved
loop-number-preserved c = (
  push c.loop-number.seen c.insert.new.self c.args.list.now c.loop-number.number-index c.loop-number-test.true c.loop-number.invariant.0 c.in_ok-insert.ensures.ok,
  distinct_more c.args.list.now c.loop-number.number-index c.loop-number-test.true c.loop-number.invariant.1
      (sym (c.loop-number.invariant.0 _) ∙ ap is_some (sym c.in_ok-insert.ensures.old) ∙ sym c.is_some.ensures ∙ c.if-is_some.false),
)
