use Rattle.std.proofs.Common.{◌∙◌, inl}
use Rattle.ebs_world.specs.inner.Runs.{ran_on}
use Rattle.ebs_world.specs.Image.{IsOutside}
use Rattle.ebs_world.specs.declared.area.Area.TheVariants.{Journal1, Archive}
use Rattle.ebs_journal.specs.inner.Standing.{OffMarks}
use Rattle.ebs_journal.proofs.Made.{marks_first, marks_second, marking_first, marking, durable_off, one_archive}
use Rattle.ebs_journal.proofs.making.write_mark.Goals as goal

pub returns-in_err-write_durably-clause-any_moment : goal.returns-in_err-write_durably-clause-any_moment
returns-in_err-write_durably-clause-any_moment g c told honest = marking_first _ _ c.write_durably.ensures.ran honest

pub returns-in_err-write_durably-2-clause-ran : goal.returns-in_err-write_durably-2-clause-ran
returns-in_err-write_durably-2-clause-ran g c = ran_on OffMarks _ _ _ (marks_first _ _ c.write_durably.ensures.ran) (marks_second _ _ c.write_durably-2.ensures.ran)

pub returns-in_err-write_durably-2-clause-any_moment : goal.returns-in_err-write_durably-2-clause-any_moment
returns-in_err-write_durably-2-clause-any_moment g c told honest =
    marking _ _ _ c.write_durably.ensures.ran c.write_durably-2.ensures.ran honest (c.in_ok-write_durably.ensures.durable told honest) (c.in_ok-write_durably.ensures.written told).0

pub returns-clause-ran : goal.returns-clause-ran
returns-clause-ran g c = ran_on OffMarks _ _ _ (marks_first _ _ c.write_durably.ensures.ran) (marks_second _ _ c.write_durably-2.ensures.ran)

pub returns-clause-any_moment : goal.returns-clause-any_moment
returns-clause-any_moment g c told honest =
    marking _ _ _ c.write_durably.ensures.ran c.write_durably-2.ensures.ran honest (c.in_ok-write_durably.ensures.durable told honest) (c.in_ok-write_durably.ensures.written told).0

pub returns-clause-closed : goal.returns-clause-closed
returns-clause-closed g c told =
    c.write_durably-2.ensures.ran.kept (c.write_durably.ensures.ran.told ∙ told) Journal1 0 (inl one_archive) ∙ (c.in_ok-write_durably.ensures.written told).0

pub returns-clause-marked : goal.returns-clause-marked
returns-clause-marked g c told = (c.in_ok-write_durably-2.ensures.written (c.write_durably.ensures.ran.told ∙ told)).0

pub returns-clause-durable : goal.returns-clause-durable
returns-clause-durable g c told honest =
    let mid = c.write_durably.ensures.ran.told ∙ told in
    let fair = c.write_durably.ensures.ran.kept_honest ∙ honest in
    (durable_off Journal1 (IsOutside Archive 0 1) _ _ c.write_durably-2.ensures.ran (λ i. inl one_archive) mid fair (c.in_ok-write_durably.ensures.durable told honest), c.in_ok-write_durably-2.ensures.durable mid fair)
