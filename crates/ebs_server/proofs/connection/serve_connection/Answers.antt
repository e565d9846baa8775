use Rattle.std.proofs.Common.{subst}
use Rattle.ebs_turns.specs.Known.{IsAt}
use Rattle.ebs_server.specs.Answers.{IsAnswered}
use Rattle.ebs_server.proofs.Sames.{same_along}
use Rattle.ebs_server.proofs.Talks.{talked, told}
use Rattle.ebs_server.proofs.connection.serve_connection.Goals as goal

pub returns-clause-at : goal.returns-clause-at
returns-clause-at g c =
    let talks = talked (λ p. p.inner.seat.me.0) (λ clerk v message reading answer w. IsAnswered g.S.Promise.sound g.D.Disk.view clerk.desk.now.turns.board.shared.key.first.value v message reading answer w)
    c.session.ensures.session.exchanges _ c.session.new.responder c.args.pass.now c.session.new.world c.session.ensures.session.went in
    subst (λ clerk. IsAt clerk.desk.now.turns.board.shared clerk.desk.now.turns.passes c.session.new.world.inner.seat) talks.0 c.session.ensures.ready

pub returns-clause-session : goal.returns-clause-session
returns-clause-session g c =
    told _ _ _ _ _ _ _ _ _ _ (λ exchanges went. (talked (λ p. p.inner.seat.me.0) (λ clerk v message reading answer w. IsAnswered g.S.Promise.sound g.D.Disk.view clerk.desk.now.turns.board.shared.key.first.value v message reading answer w)
    exchanges _ c.session.new.responder c.args.pass.now c.session.new.world went).1) c.session.ensures.session

pub returns-clause-same : goal.returns-clause-same
returns-clause-same g c =
    let exchanges = c.session.ensures.session.exchanges in
    let talks = talked (λ p. p.inner.seat.me.0) (λ clerk v message reading answer w. IsAnswered g.S.Promise.sound g.D.Disk.view clerk.desk.now.turns.board.shared.key.first.value v message reading answer w)
    exchanges _ c.session.new.responder c.args.pass.now c.session.new.world c.session.ensures.session.went in
    same_along g.S.Promise.sound g.D.Disk.view c.args.desk.now.turns.board.shared.key.first.value exchanges _ _ talks.1
