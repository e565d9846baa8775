use Rattle.std.proofs.Common.{◌≡◌, ap, sym, ◌∙◌, subst}
use Rattle.ebs_world.specs.View.{Leaves}
use Rattle.ebs_model.specs.declared.answer.Answer.TheVariants.{Refused}
use Rattle.ebs_model.specs.declared.answer.Refusal.TheVariants.{Unavailable}
use Rattle.ebs_model.specs.declared.request.Request.{Request}
use Rattle.ebs_model.specs.Quotas.{Rose}
use Rattle.ebs_model.specs.Limits.{bad_member}
use Rattle.ebs_recovery.specs.Made.{called}
use Rattle.ebs_disk_store.specs.inner.Told.{at_reading, called_at}
use Rattle.ebs_disk_store.specs.inner.Turned.{MayLeave, Turn}
use Rattle.ebs_disk_store.specs.inner.Applied.{Applied, fetched, put}
use Rattle.ebs_disk_store.specs.inner.Fetched.{IsFetch, Fetched, answer_of}
use Rattle.ebs_disk_store.proofs.Applies.{applied_cause}
use Rattle.ebs_disk_store.proofs.Left.{left_before}
use Rattle.ebs_desk.specs.declared.task.Task.{Task}
use Rattle.ebs_desk.specs.Tasks.{request_of, IsPrepared, RanFor}
use Rattle.ebs_desk.proofs.task.apply_task.Goals as goal

pub returns-in-Put-clause-told : goal.returns-in-Put-clause-told
returns-in-Put-clause-told g c = let is = ap request_of c.in-Put.is in put c.in-Put.head c.in-Put.block is (ap bad_member is ∙ subst IsPrepared c.in-Put.is c.requires.prepared) c.put-answer.ensures.told

pub returns-in-Put-clause-cause : goal.returns-in-Put-clause-cause
returns-in-Put-clause-cause g c = let is = ap request_of c.in-Put.is in
    applied_cause _ _ (g.D.Disk.view c.args.disk.now) c.args.store.now c.put-answer.new.self c.args.account (at_reading c.args.store.now c.args.reading) (request_of c.args.task) c.put-answer.result
    (put c.in-Put.head c.in-Put.block is (ap bad_member is ∙ subst IsPrepared c.in-Put.is c.requires.prepared) c.put-answer.ensures.told)

pub returns-in-Put-clause-step : goal.returns-in-Put-clause-step
returns-in-Put-clause-step g c sound told honest =
    subst (λ (r : Request). Turn (g.D.Disk.view c.args.disk.now) (g.D.Disk.view c.put-answer.new.disk) c.args.store.now c.put-answer.new.self c.args.account c.args.reading r c.put-answer.result) (sym (ap request_of c.in-Put.is)) (c.put-answer.ensures.step sound told honest)

pub returns-in-Put-clause-moments : goal.returns-in-Put-clause-moments
returns-in-Put-clause-moments g c sound told honest =
    subst (λ (r : Request). Leaves (g.D.Disk.view c.args.disk.now) (g.D.Disk.view c.put-answer.new.disk) (MayLeave (c.put-answer.result ≡ Refused Unavailable) (g.D.Disk.view c.args.disk.now) (g.D.Disk.view c.put-answer.new.disk) c.args.store.now c.put-answer.new.self
    (called (called_at c.args.account (at_reading c.args.store.now c.args.reading) r)))) (sym (ap request_of c.in-Put.is)) (c.put-answer.ensures.moments sound told honest)

pub returns-in-Put-clause-ran : goal.returns-in-Put-clause-ran
returns-in-Put-clause-ran g c = subst (λ (task : Task). RanFor task c.args.store.now.slots (g.D.Disk.view c.args.disk.now) (g.D.Disk.view c.put-answer.new.disk)) (sym c.in-Put.is) c.put-answer.ensures.ran

pub load-loaded-requires-clause-fetch : goal.load-loaded-requires-clause-fetch
load-loaded-requires-clause-fetch g c = subst IsPrepared c.in-Fetch.is c.requires.prepared

pub returns-in-Fetch-clause-told : goal.returns-in-Fetch-clause-told
returns-in-Fetch-clause-told g c = fetched (subst IsFetch (sym (ap request_of c.in-Fetch.is)) (subst IsPrepared c.in-Fetch.is c.requires.prepared))
    (subst (λ (r : Request). Fetched (c.load-loaded.new.disk ≡ c.args.disk.now) (Rose (g.D.Disk.view c.args.disk.now).faults (g.D.Disk.view c.load-loaded.new.disk).faults) (g.D.Disk.view c.args.disk.now) c.args.store.now c.load-loaded.new.self c.args.account
    (at_reading c.args.store.now c.args.reading) r (answer_of c.load-loaded.result)) (sym (ap request_of c.in-Fetch.is)) c.load-loaded.ensures.told)

pub returns-in-Fetch-clause-cause : goal.returns-in-Fetch-clause-cause
returns-in-Fetch-clause-cause g c =
    applied_cause _ _ (g.D.Disk.view c.args.disk.now) c.args.store.now c.load-loaded.new.self c.args.account (at_reading c.args.store.now c.args.reading) c.in-Fetch.request (answer_of c.load-loaded.result)
    (fetched (subst IsPrepared c.in-Fetch.is c.requires.prepared) c.load-loaded.ensures.told)

pub returns-in-Fetch-clause-step : goal.returns-in-Fetch-clause-step
returns-in-Fetch-clause-step g c sound told honest =
    subst (λ (r : Request). Turn (g.D.Disk.view c.args.disk.now) (g.D.Disk.view c.load-loaded.new.disk) c.args.store.now c.load-loaded.new.self c.args.account c.args.reading r (answer_of c.load-loaded.result)) (sym (ap request_of c.in-Fetch.is)) (c.load-loaded.ensures.step sound told honest)

pub returns-in-Fetch-clause-moments : goal.returns-in-Fetch-clause-moments
returns-in-Fetch-clause-moments g c sound told honest =
    left_before (answer_of c.load-loaded.result ≡ Refused Unavailable) (g.D.Disk.view c.args.disk.now) (g.D.Disk.view c.load-loaded.new.disk) c.args.store.now c.load-loaded.new.self
    (called (called_at c.args.account (at_reading c.args.store.now c.args.reading) (request_of c.args.task))) (c.load-loaded.ensures.moments sound told honest)

pub returns-in-Fetch-clause-ran : goal.returns-in-Fetch-clause-ran
returns-in-Fetch-clause-ran g c = subst (λ (task : Task). RanFor task c.args.store.now.slots (g.D.Disk.view c.args.disk.now) (g.D.Disk.view c.load-loaded.new.disk)) (sym c.in-Fetch.is) c.load-loaded.ensures.ran

pub returns-in-Call-clause-told : goal.returns-in-Call-clause-told
returns-in-Call-clause-told g c =
    subst (λ (r : Request). Applied (c.apply-answer.new.disk ≡ c.args.disk.now) (Rose (g.D.Disk.view c.args.disk.now).faults (g.D.Disk.view c.apply-answer.new.disk).faults) (g.D.Disk.view c.args.disk.now) c.args.store.now c.apply-answer.new.self c.args.account
    (at_reading c.args.store.now c.args.reading) r c.apply-answer.result) (sym (ap request_of c.in-Call.is)) c.apply-answer.ensures.told

pub returns-in-Call-clause-step : goal.returns-in-Call-clause-step
returns-in-Call-clause-step g c sound told honest =
    subst (λ (r : Request). Turn (g.D.Disk.view c.args.disk.now) (g.D.Disk.view c.apply-answer.new.disk) c.args.store.now c.apply-answer.new.self c.args.account c.args.reading r c.apply-answer.result) (sym (ap request_of c.in-Call.is)) (c.apply-answer.ensures.step sound told honest)

pub returns-in-Call-clause-moments : goal.returns-in-Call-clause-moments
returns-in-Call-clause-moments g c sound told honest =
    subst (λ (r : Request). Leaves (g.D.Disk.view c.args.disk.now) (g.D.Disk.view c.apply-answer.new.disk) (MayLeave (c.apply-answer.result ≡ Refused Unavailable) (g.D.Disk.view c.args.disk.now) (g.D.Disk.view c.apply-answer.new.disk) c.args.store.now c.apply-answer.new.self
    (called (called_at c.args.account (at_reading c.args.store.now c.args.reading) r)))) (sym (ap request_of c.in-Call.is)) (c.apply-answer.ensures.moments sound told honest)

pub returns-in-Call-clause-ran : goal.returns-in-Call-clause-ran
returns-in-Call-clause-ran g c = subst (λ (task : Task). RanFor task c.args.store.now.slots (g.D.Disk.view c.args.disk.now) (g.D.Disk.view c.apply-answer.new.disk)) (sym c.in-Call.is) c.apply-answer.ensures.ran
