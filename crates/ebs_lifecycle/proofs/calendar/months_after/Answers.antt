use Rattle.std.proofs.Common.{arith, ◌≡◌, ◌≤◌, ◌+◌, ◌*◌, ◌/◌, ◌%◌, ◌∙◌, pos, ap, sym, subst, unsigned_abs, ◌≤ℤ◌}
use Rattle.std.proofs.lemmas.Result.{IfOk-at_ok}
use Rattle.jiff_core.specs.declared.civil.date.Date.{Date}
use Rattle.jiff_core.specs.Date.{epoch_day}
use Rattle.jiff_span.specs.Months.{add_months}
use Rattle.jiff.proofs.SpanFacts.{signed_arith}
use Rattle.ebs_lifecycle.proofs.Days.{months_only, can_shift, shifted_in, can_add-months, date_add-months, not_before, months_are, cast_is, small_abs}
use Rattle.ebs_lifecycle.proofs.calendar.months_after.Goals as goal

pub unwrap-later-requires : goal.unwrap-later-requires
unwrap-later-requires c =
    let n = c.args.start.second / 86400 in
    let k = c.args.months in
    let few : n ≤ 800000 = omega (arith, c.requires.start) in
    let can = can_shift n k c.date_of.result c.date_of.ensures few c.requires.months in
    let only = months_only k c.from.result c.months-span.result c.requires.months c.from.ensures c.months-span.ensures in
    c.checked_add.ensures.succeeds.1 (can_add-months c.date_of.result (pos k) c.months-span.result only can (shifted_in c.date_of.result (pos k) can))

pub overflow_cast-days : goal.overflow_cast-days
overflow_cast-days c =
    let n = c.args.start.second / 86400 in
    let k = c.args.months in
    let few : n ≤ 800000 = omega (arith, c.requires.start) in
    let can = can_shift n k c.date_of.result c.date_of.ensures few c.requires.months in
    let only = months_only k c.from.result c.months-span.result c.requires.months c.from.ensures c.months-span.ensures in
    let r = c.to_unix_epoch_day-days.result in
    let value : r ≡ add_months c.date_of.result (pos k) = c.to_unix_epoch_day-days.ensures.value ∙ ap (λ (d : Date). epoch_day d) c.to_plain.ensures ∙ IfOk-at_ok _ c.unwrap-later.ensures c.checked_add.ensures.value ∙ date_add-months c.date_of.result (pos k) c.months-span.result only in
    let low : pos 0 ≤ℤ r = subst (λ z. pos 0 ≤ℤ z) (sym value) (not_before n k c.date_of.result c.date_of.ensures can) in
    let high = c.to_unix_epoch_day-days.ensures.bound in
    rw (cast_is r high) (omega (arith, signed_arith, low, high.0, high.1), small_abs r low high.1)

pub returns : goal.returns
returns c =
    let n = c.args.start.second / 86400 in
    let k = c.args.months in
    let only = months_only k c.from.result c.months-span.result c.requires.months c.from.ensures c.months-span.ensures in
    let r = c.to_unix_epoch_day-days.result in
    let value : r ≡ add_months c.date_of.result (pos k) = c.to_unix_epoch_day-days.ensures.value ∙ ap (λ (d : Date). epoch_day d) c.to_plain.ensures ∙ IfOk-at_ok _ c.unwrap-later.ensures c.checked_add.ensures.value ∙ date_add-months c.date_of.result (pos k) c.months-span.result only in
    ap (λ z. 86400 * unsigned_abs z + c.args.start.second % 86400) (cast_is r c.to_unix_epoch_day-days.ensures.bound ∙ value)
    ∙ ap (λ x. 86400 * x + c.args.start.second % 86400) (months_are n k c.date_of.result c.date_of.ensures)
