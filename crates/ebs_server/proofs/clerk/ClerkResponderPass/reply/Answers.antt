use Rattle.std.proofs.Common.{◌≡◌, Err, refl, ap}
use Rattle.ebs_model.specs.declared.answer.Answer.TheVariants.{Refused}
use Rattle.ebs_model.specs.declared.answer.Refusal.{Refusal}
use Rattle.ebs_rest.specs.CallOf.{call_of}
use Rattle.ebs_server.specs.Answers.{called, refused}
use Rattle.ebs_server.proofs.clerk.ClerkResponderPass.reply.Goals as goal

pub returns-then-is_some-clause-replies : goal.returns-then-is_some-clause-replies
returns-then-is_some-clause-replies g c = (refl, called c.in-Ok.call c.call-receipt.result c.in-Ok.ensures.value c.in-Ok.ensures.limits refl c.call-receipt.ensures.same c.call-receipt.ensures.called)

pub returns-else-changes-clause-replies : goal.returns-else-changes-clause-replies
returns-else-changes-clause-replies g c = (refl, called c.in-Ok.call c.call-receipt.result c.in-Ok.ensures.value c.in-Ok.ensures.limits refl c.call-receipt.ensures.same c.call-receipt.ensures.called)

pub returns-in-Err-Refused-clause-replies : goal.returns-in-Err-Refused-clause-replies
returns-in-Err-Refused-clause-replies g c =
    let makes : call_of c.args.message ≡ Err c.in-Err-Refused.refusal = rw c.in-Err-Refused.field-0-is at c.in-Err-Refused.ensures.value in
    (refl, refused c.in-Err-Refused.refusal makes (ap (λ (r : Refusal). Refused r) c.in-Err-Refused.refusal-is) refl)
