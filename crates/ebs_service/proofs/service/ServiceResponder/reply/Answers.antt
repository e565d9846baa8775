use Rattle.std.proofs.Common.{◌≡◌, Err, refl, ap, subst}
use Rattle.ebs_model.specs.declared.answer.Answer.TheVariants.{Refused}
use Rattle.ebs_model.specs.declared.answer.Refusal.{Refusal}
use Rattle.ebs_rest.specs.CallOf.{call_of}
use Rattle.ebs_recovery.specs.inner.Fits.{Seen}
use Rattle.ebs_service.specs.inner.Served.{served_on, refused, applied}
use Rattle.ebs_service.proofs.service.ServiceResponder.reply.Goals as goal

pub returns-in-Ok-clause-replies : goal.returns-in-Ok-clause-replies
returns-in-Ok-clause-replies g c =
    subst (λ (s : Seen). served_on g.S.Promise.sound g.D.Disk.view s c.args.disk.now c.args.message c.args.reading c.apply.result c.apply.new.self c.apply.new.disk) c.self.view_is
    (applied c.in-Ok.call c.in-Ok.ensures.value (record {
      within = c.in-Ok.ensures.limits;
      told = c.apply.ensures.told;
      cause = c.apply.ensures.cause;
      pending = c.apply.ensures.pending;
      ran = c.apply.ensures.ran;
      step = c.apply.ensures.step;
      recorded = c.apply.ensures.recorded;
      moments = c.apply.ensures.moments;
    }))

pub returns-in-Err-Refused-clause-replies : goal.returns-in-Err-Refused-clause-replies
returns-in-Err-Refused-clause-replies g c =
    let makes : call_of c.args.message ≡ Err c.in-Err-Refused.refusal = rw c.in-Err-Refused.field-0-is at c.in-Err-Refused.ensures.value in
    refused c.in-Err-Refused.refusal makes (ap (λ (r : Refusal). Refused r) c.in-Err-Refused.refusal-is) refl refl
