use Rattle.std.proofs.Common.{Result, Err, subst}
use Rattle.ebs_model.specs.Kept.{same}
use Rattle.ebs_model.specs.Limits.{bad_member}
use Rattle.ebs_model.specs.Refuse.{refuse_bad}
use Rattle.ebs_model.specs.inner.Follows.{Agrees}
use Rattle.ebs_model.specs.Machine.{advance}
use Rattle.ebs_model.specs.Step.{act}
use Rattle.ebs_kept.specs.inner.Requests as requests
use Rattle.ebs_recovery.specs.inner.Fits.{Seen}
use Rattle.ebs_disk_store.specs.inner.Fetched.{Finds}
use Rattle.ebs_disk_store.proofs.Fetches.{find_failed}
use Rattle.ebs_model.specs.declared.array.Block.{Block}
use Rattle.ebs_model.specs.declared.answer.Failure.{Failure}
use Rattle.ebs_catalog.specs.Wants.{OnMemory}
use Rattle.ebs_disk_store.proofs.store.Store.find.Goals as goal

pub returns-in-Err-find : goal.returns-in-Err-find
returns-in-Err-find g c =
    let at = advance c.self.inside.kept.machine c.args.now in
    let passed = subst (λ r. Agrees r (refuse_bad (bad_member c.args.request.now))) c.in_default.is c.check_members.ensures.within in
    let found = subst (λ r. requests.Finds at r (act same at c.args.account c.args.request.now)) c.in-Err-find.is c.find.ensures.finds in
    let never = subst (λ (r : Result Block Failure). OnMemory r ⊥) c.in-Err-find.is c.find.ensures.memory in
    subst (λ (s : Seen). Finds (advance s.recorded c.args.now) c.args.account c.args.request.now (Err c.in-Err-find.failure)) c.self.view_is
    (find_failed at c.args.account c.args.request.now c.in-Err-find.failure passed found never)
