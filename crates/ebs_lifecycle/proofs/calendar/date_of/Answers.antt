use Rattle.std.proofs.Common.{arith, ◌≤◌, ◌/◌, ◌+ℤ◌, ◌∙◌, pos, ap}
use Rattle.std.proofs.lemmas.Result.{IfOk-at_ok}
use Rattle.jiff_core.specs.Date.{epoch_day}
use Rattle.jiff_core.specs.Calendar.{IsEpochDay}
use Rattle.jiff.proofs.SpanFacts.{signed_arith, date_add-days, can_add-days}
use Rattle.ebs_lifecycle.proofs.Days.{first_day, days_only, zero_plus}
use Rattle.ebs_lifecycle.proofs.calendar.date_of.Goals as goal

pub unwrap-requires : goal.unwrap-requires
unwrap-requires c =
    let n = c.args.moment.second / 86400 in
    let few : n ≤ 800000 = omega (arith, c.requires) in
    let first = first_day c.date.result c.date.ensures.0 c.date.ensures.1 c.date.ensures.2 in
    let day : IsEpochDay (epoch_day c.date.result +ℤ pos n) = omega (arith, signed_arith, first, few) in
    c.checked_add.ensures.succeeds.1 ((can_add-days c.date.result (pos n) c.days.result (days_only n c.days.result few c.days.ensures)).1 day)

pub returns : goal.returns
returns c =
    let n = c.args.moment.second / 86400 in
    let few : n ≤ 800000 = omega (arith, c.requires) in
    let first = first_day c.date.result c.date.ensures.0 c.date.ensures.1 c.date.ensures.2 in
    IfOk-at_ok _ c.unwrap.ensures c.checked_add.ensures.value ∙ date_add-days c.date.result (pos n) c.days.result (days_only n c.days.result few c.days.ensures) ∙ ap (λ z. z +ℤ pos n) first ∙ zero_plus n
