use Rattle.std.proofs.Common.{refl}
use Rattle.ebs_cli.specs.OnDisk.{answered, unbegun}
use Rattle.ebs_session.specs.inner.Session.{session_with}
use Rattle.ebs_cli.proofs.Going as lemma
use Rattle.ebs_cli.proofs.Whole.{are_whole}
use Rattle.ebs_cli.proofs.playing.session_on_disk.Goals as goal

pub returns-in-Ok-clause-played : goal.returns-in-Ok-clause-played
returns-in-Ok-clause-played g c =
    let laws : lemma.Laws = record {
      on = c.life_goes_on.ensures.on;
      again = c.life_goes_on.ensures.again;
      untold = c.life_goes_on.ensures.untold;
      read_back = c.read_back.ensures;
      is_run = c.run_is_of_calls.ensures;
    } in
    answered c.answer_by.result refl (session_with (λ xs by. (
      lemma.went_where laws g.S.Promise.sound (g.D.Disk.view c.args.disk.now) (g.D.Disk.view c.ready_service.new.disk) (g.D.Disk.view c.answer_by.new.disk) c.in-Ok.service xs
          (g.met.D.Disk.true_to_itself c.answer_by.new.disk) c.in-Ok.ensures.ran c.in-Ok.ensures.machine c.in-Ok.ensures.moments by.0,
      lemma.keeps_all g.D.Disk.view laws g.S.Promise.sound c.args.disk.now c.ready_service.new.disk c.answer_by.new.disk c.in-Ok.service xs
          (record { ran = c.in-Ok.ensures.ran; unwritten = c.in-Ok.ensures.unwritten }) c.in-Ok.ensures.read c.in-Ok.ensures.machine by.1 by.2,
      are_whole g.D.Disk.view g.S.Promise.sound xs c.in-Ok.service by.2.last c.ready_service.new.disk c.answer_by.new.disk by.2.replies,
    )) c.answer_by.ensures.session)

pub returns-in-Err-clause-played : goal.returns-in-Err-clause-played
returns-in-Err-clause-played g c = unbegun c.in-Err.refusal refl
    (record { cause = c.in-Err.ensures.refused; opening = record { ran = c.in-Err.ensures.ran; unwritten = c.in-Err.ensures.unwritten }; stays = λ told honest m stands all image since. (c.in-Err.ensures.moments told honest m stands all).each image since })
    (refl, refl, refl)

pub returns-in-Err-clause-complete : goal.returns-in-Err-clause-complete
returns-in-Err-clause-complete g c = λ text messages left splits few no_input no_output no_disk told m stands.
    lemma.whole (g.D.Disk.view c.args.disk.now) (g.D.Disk.view c.ready_service.new.disk) c.in-Err.refusal c.in-Err.ensures.refused no_disk (c.in-Err.ensures.stood told m stands)
