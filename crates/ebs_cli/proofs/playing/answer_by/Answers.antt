use Rattle.std.proofs.Common.{subst}
use Rattle.std.specs.Prelude.{List}
use Rattle.ebs_exchanges.specs.Exchanges.{Exchange}
use Rattle.ebs_session.specs.Session.{Chain}
use Rattle.ebs_session.specs.inner.Session.{session_with}
use Rattle.ebs_service.specs.inner.Served.{served_on}
use Rattle.ebs_cli.proofs.Keeping.{chain_alike, chain_split}
use Rattle.ebs_cli.proofs.playing.answer_by.Goals as goal

pub returns-clause-session : goal.returns-clause-session
returns-clause-session g c = session_with (λ xs chain.
    let alike = chain_alike g.D.Disk.view g.S.Promise.sound xs c.args.service c.session.new.responder c.args.disk.now c.session.new.world chain in (
      record {
        tells = alike.tells;
        honest = alike.honest;
        counted = c.failures_are_counted.ensures c.args.service c.session.new.responder c.args.disk.now c.session.new.world xs chain;
        last = c.session.new.responder;
        stood = c.sessions_stand.ensures c.args.service c.session.new.responder c.args.disk.now c.session.new.world xs chain c.session.ensures.ready c.requires.clean;
      },
      λ front back is.
          let parts = chain_split g.D.Disk.view g.S.Promise.sound front back c.args.service c.session.new.responder c.args.disk.now c.session.new.world
          (subst (λ (ys : List Exchange). Chain (served_on g.S.Promise.sound g.D.Disk.view) c.args.service c.args.disk.now ys c.session.new.responder c.session.new.world) is chain) in
          (parts.0, parts.1, parts.2, c.answers_stay.ensures c.args.service parts.0 c.session.new.responder c.args.disk.now parts.1 c.session.new.world front back parts.2 parts.3 c.session.ensures.ready c.requires.clean),
      record { last = c.session.new.responder; replies = chain },
    ))
    c.session.ensures.session
