use Rattle.std.proofs.Common.{Err, sym, subst}
use Rattle.ebs_model.specs.Kept.{same}
use Rattle.ebs_model.specs.Machine.{advance}
use Rattle.ebs_model.specs.Step.{finish}
use Rattle.ebs_model.specs.inner.Follows.{Follows}
use Rattle.ebs_kept.specs.inner.Requests.{with_digest, Settles}
use Rattle.ebs_catalog.specs.Wants.{OnMemory, IsAccepted}
use Rattle.ebs_model.specs.declared.change.Decision.{Decision}
use Rattle.ebs_model.specs.declared.answer.Answer.{Answer}
use Rattle.ebs_kept.proofs.Settled.{follows-err}
use Rattle.ebs_kept.proofs.Wants.{weaker, wants-settled, wants-read}
use Rattle.ebs_kept.specs.inner.Counted.{PutsAsAsked}
use Rattle.ebs_kept.proofs.Counted.{counted_as}
use Rattle.ebs_kept.proofs.kept.Kept.finish.Goals as goal

pub returns-in-Err-clause-follows : goal.returns-in-Err-clause-follows
returns-in-Err-clause-follows c =
    let old = c.args.self.now.machine in
    let new = c.settle.new.self.machine in
    let at = advance old c.args.now in
    let digest = c.args.digest in
    let request = c.args.request.now in
    let change = c.in-Change.change in
    let left = follows-err old new at digest request change c.in-Change.answer c.in-Err.failure (subst (Settles old new at digest request change) c.in-Err.is c.settle.ensures.settles) in
    subst (λ d. Follows old new (Err c.in-Err.failure) (finish same at (with_digest digest request) d)) (sym c.in-Change.is) left

pub returns-in-Err-clause-memory : goal.returns-in-Err-clause-memory
returns-in-Err-clause-memory c =
    let at = advance c.args.self.now.machine c.args.now in
    let digest = c.args.digest in
    let request = c.args.request.now in
    subst (λ (d : Decision). OnMemory {A = Answer} (Err c.in-Err.failure) (IsAccepted (finish same at (with_digest digest request) d))) (sym c.in-Change.is)
    (weaker Answer _ _ c.settle.result c.in-Err.failure c.in-Err.is (wants-settled at digest request c.in-Change.change c.in-Change.answer) c.settle.ensures.memory)

pub returns-in-Err-read-clause-memory : goal.returns-in-Err-read-clause-memory
returns-in-Err-read-clause-memory c =
    let at = advance c.args.self.now.machine c.args.now in
    let digest = c.args.digest in
    let request = c.args.request.now in
    subst (λ (d : Decision). OnMemory {A = Answer} (Err c.in-Err-read.failure) (IsAccepted (finish same at (with_digest digest request) d))) (sym c.in-Read.is)
    (weaker Answer _ _ c.read.result c.in-Err-read.failure c.in-Err-read.is (wants-read at digest request c.in-Read.row) c.read.ensures.memory)

pub returns-in-Ok-clause-counted : goal.returns-in-Ok-clause-counted
returns-in-Ok-clause-counted c =
    counted_as c.args.self.now c.settle.new.self c.in-Change.change.request c.args.request.now (subst (PutsAsAsked c.args.request.now) c.in-Change.is c.requires.asked) c.settle.ensures.counted

pub returns-in-Err-clause-counted : goal.returns-in-Err-clause-counted
returns-in-Err-clause-counted c =
    counted_as c.args.self.now c.settle.new.self c.in-Change.change.request c.args.request.now (subst (PutsAsAsked c.args.request.now) c.in-Change.is c.requires.asked) c.settle.ensures.counted
