use Rattle.std.proofs.Common.{ℕ, List, ◌++◌}
use Rattle.std.proofs.lemmas.Result.{err_from_is_err_and}
use Rattle.ebs_model.specs.declared.keys.Moment.{Moment}
use Rattle.ebs_model.specs.declared.request.Request.{Request}
use Rattle.std.specs.declared.option.Option.{Option}
use Rattle.ebs_records.specs.declared.record.AcceptedCall.{AcceptedCall}
use Rattle.ebs_records.specs.inner.Apart.{apart_pair}
use Rattle.ebs_records.specs.Fields.{long, IsMoment, IsAccount, moment}
use Rattle.ebs_records.specs.inner.Keys.{apart_moment, apart_account}
use Rattle.ebs_records.specs.Calls.{IsAsked, called_in}
use Rattle.ebs_records.proofs.Views.{unread_by, first_unread, second_unread}
use Rattle.ebs_records.proofs.record.AcceptedCallCodec.read.Goals as goal

abbrev Head : Type 0
Head = Moment × ℕ

abbrev IsHead : Head → Type 0
IsHead h = IsMoment h.0 × IsAccount h.1

abbrev head : Head → List ℕ
head h = moment h.0 ++ long h.1

abbrev parts : AcceptedCall → Head × (Request × Option ℕ)
parts a = ((a.at, a.account), (a.request, a.slot))

pub returns-in_err-at : goal.returns-in_err-at
returns-in_err-at c =
    let p = err_from_is_err_and c.from_residual.result c.from_residual.ensures.1 in
    rw (p.1, p.2) (unread_by parts (λ q. IsHead q.0 × IsAsked q.1) (λ q. head q.0 ++ called_in q.1) c.args.input.now c.read.new.input c.in_err-at.field-0.0
    (first_unread IsHead head IsAsked called_in c.args.input.now c.read.new.input c.read.new.input c.in_err-at.field-0.0 c.in_err-at.ensures))

pub returns-in_err-request : goal.returns-in_err-request
returns-in_err-request c =
    let p = err_from_is_err_and c.from_residual-in_err-request.result c.from_residual-in_err-request.ensures.1 in
    rw (p.1, p.2) (unread_by parts (λ q. IsHead q.0 × IsAsked q.1) (λ q. head q.0 ++ called_in q.1) c.args.input.now c.read_asked.new.input c.in_err-request.field-0.0
    (second_unread IsHead head IsAsked called_in (apart_pair IsMoment moment IsAccount long apart_moment apart_account) (c.in_ok-at.at, c.in_ok-at.account) c.in_ok-at.ensures.0
    c.args.input.now c.read.new.input c.read_asked.new.input c.in_err-request.field-0.0 c.in_ok-at.ensures.1 c.in_err-request.ensures))
