use Rattle.std.proofs.Common.{◌∙◌, ◌∷◌, [], refl, arith, ap, length, length-append}
use Rattle.ebs_world.specs.inner.Runs.{ran_on}
use Rattle.ebs_journal.specs.Opening.{OffMaking}
use Rattle.ebs_journal.specs.Format.{head_of}
use Rattle.ebs_journal.proofs.Gates.{length-head}
use Rattle.ebs_journal.proofs.Made.{making_first, making_second, unmade_moments, making_moments, made_there, made_settled}
use Rattle.ebs_journal.proofs.journal.Journal.make.Goals as goal

pub returns-in_err-write_first-clause-any_moment : goal.returns-in_err-write_first-clause-any_moment
returns-in_err-write_first-clause-any_moment g c told honest unmade =
    unmade_moments _ _ c.args.checkpoint.now c.requires c.write_first.ensures.ran told honest unmade

pub returns-in_err-write_mark-clause-any_moment : goal.returns-in_err-write_mark-clause-any_moment
returns-in_err-write_mark-clause-any_moment g c told honest unmade =
    let mid = c.write_first.ensures.ran.told ∙ told in
    let fair = c.write_first.ensures.ran.kept_honest ∙ honest in
    let spelled = c.in_ok-write_first.ensures.written _ (c.deref.ensures.value ∙ c.in_ok-bytes.ensures) told in
    making_moments _ _ c.args.checkpoint.now c.requires c.write_first.ensures.ran told honest unmade spelled (c.in_ok-write_first.ensures.durable told honest) _ (c.write_mark.ensures.any_moment mid fair)

pub returns-in_err-write_mark-clause-ran : goal.returns-in_err-write_mark-clause-ran
returns-in_err-write_mark-clause-ran g c = ran_on OffMaking _ _ _ (making_first _ _ c.write_first.ensures.ran) (making_second _ _ c.write_mark.ensures.ran)

pub returns-clause-ran : goal.returns-clause-ran
returns-clause-ran g c = ran_on OffMaking _ _ _ (making_first _ _ c.write_first.ensures.ran) (making_second _ _ c.write_mark.ensures.ran)

pub returns-clause-any_moment : goal.returns-clause-any_moment
returns-clause-any_moment g c told honest unmade =
    let mid = c.write_first.ensures.ran.told ∙ told in
    let fair = c.write_first.ensures.ran.kept_honest ∙ honest in
    let spelled = c.in_ok-write_first.ensures.written _ (c.deref.ensures.value ∙ c.in_ok-bytes.ensures) told in
    making_moments _ _ c.args.checkpoint.now c.requires c.write_first.ensures.ran told honest unmade spelled (c.in_ok-write_first.ensures.durable told honest) _ (c.write_mark.ensures.any_moment mid fair)

pub returns-clause-made : goal.returns-clause-made
returns-clause-made g c told =
    let mid = c.write_first.ensures.ran.told ∙ told in
    let spelled = c.in_ok-write_first.ensures.written _ (c.deref.ensures.value ∙ c.in_ok-bytes.ensures) told in
    made_there _ _ c.args.checkpoint.now c.requires c.write_mark.ensures.ran mid spelled (c.in_ok-write_mark.ensures.closed mid) (c.in_ok-write_mark.ensures.marked mid)

pub returns-clause-settled : goal.returns-clause-settled
returns-clause-settled g c told honest =
    let mid = c.write_first.ensures.ran.told ∙ told in
    let fair = c.write_first.ensures.ran.kept_honest ∙ honest in
    let spelled = c.in_ok-write_first.ensures.written _ (c.deref.ensures.value ∙ c.in_ok-bytes.ensures) told in
    let made = made_there _ _ c.args.checkpoint.now c.requires c.write_mark.ensures.ran mid spelled (c.in_ok-write_mark.ensures.closed mid) (c.in_ok-write_mark.ensures.marked mid) in
    made_settled _ _ c.args.checkpoint.now c.requires c.write_mark.ensures.ran mid fair (c.in_ok-write_first.ensures.durable told honest) (c.in_ok-write_mark.ensures.durable mid fair).0 (c.in_ok-write_mark.ensures.durable mid fair).1 made (c.in_ok-write_mark.ensures.closed mid) _ refl

pub write_first-requires : goal.write_first-requires
write_first-requires g c =
    let size = ap length (c.deref.ensures.value ∙ c.in_ok-bytes.ensures) in
    omega (arith, size, c.requires, length-head 1 c.args.checkpoint.now, length-append (head_of 1 c.args.checkpoint.now) (0 ∷ []))
