use Rattle.std.proofs.Common.{◌∙◌, ◌+◌, take, ap, length, ◌-◌}
use Rattle.ebs_journal.specs.inner.Line.{line}
use Rattle.ebs_world.specs.inner.Runs.{ran_on}
use Rattle.ebs_journal.specs.Opening.{OffJournal}
use Rattle.ebs_journal.proofs.Rotation.{off_ran}
use Rattle.ebs_journal.proofs.Steps.{still_settled, first_moments, gate_pending, moments, settled}
use Rattle.ebs_journal.proofs.journal.Journal.append.Goals as goal

pub returns-in_default-clause-refused_clean : goal.returns-in_default-clause-refused_clean
returns-in_default-clause-refused_clean g c clean checkpoint rs s =
    still_settled _ _ (line c.args.self.now) _ c.write_durably.ensures.ran c.args.self.now.in_journal checkpoint rs s

pub returns-in_default-clause-any_moment : goal.returns-in_default-clause-any_moment
returns-in_default-clause-any_moment g c checkpoint rs s =
    first_moments _ _ (line c.args.self.now) _ c.write_durably.ensures.ran c.args.self.now.in_journal checkpoint rs s c.args.payload.now

pub returns-in_default-write_durably-clause-refused_unclean : goal.returns-in_default-write_durably-clause-refused_unclean
returns-in_default-write_durably-clause-refused_unclean g c unclean checkpoint rs s =
    let piece = ap (take (length c.args.payload.now + 5)) c.deref.ensures.value ∙ c.spell_into.ensures.spelled in
    gate_pending _ _ (line c.args.self.now) _ c.write_durably.ensures.ran c.args.self.now.in_journal checkpoint rs s
    c.args.payload.now c.requires.record c.requires.end piece (c.in-Ok.ensures.written s.tells) (c.in-Ok.ensures.durable s.tells s.honest) _ c.write_durably-2.ensures.ran

pub returns-in_default-write_durably-clause-any_moment : goal.returns-in_default-write_durably-clause-any_moment
returns-in_default-write_durably-clause-any_moment g c checkpoint rs s =
    let piece = ap (take (length c.args.payload.now + 5)) c.deref.ensures.value ∙ c.spell_into.ensures.spelled in
    moments _ _ (line c.args.self.now) _ c.write_durably.ensures.ran c.args.self.now.in_journal checkpoint rs s
    c.args.payload.now c.requires.record c.requires.end piece (c.in-Ok.ensures.written s.tells) (c.in-Ok.ensures.durable s.tells s.honest) _ c.write_durably-2.ensures.ran

pub returns-clause-acknowledged : goal.returns-clause-acknowledged
returns-clause-acknowledged g c checkpoint rs s =
    let piece = ap (take (length c.args.payload.now + 5)) c.deref.ensures.value ∙ c.spell_into.ensures.spelled in
    let mid = still_settled _ _ (line c.args.self.now) _ c.write_durably.ensures.ran c.args.self.now.in_journal checkpoint rs s in
    settled _ _ (line c.args.self.now) _ c.write_durably.ensures.ran c.args.self.now.in_journal checkpoint rs s
    c.args.payload.now c.requires.record c.requires.end piece (c.in-Ok.ensures.written s.tells) (c.in-Ok.ensures.durable s.tells s.honest) _ c.write_durably-2.ensures.ran
    (c.in-Ok-write_durably.ensures.written mid.tells) (c.in-Ok-write_durably.ensures.durable mid.tells mid.honest)

pub returns-clause-any_moment : goal.returns-clause-any_moment
returns-clause-any_moment g c checkpoint rs s =
    let piece = ap (take (length c.args.payload.now + 5)) c.deref.ensures.value ∙ c.spell_into.ensures.spelled in
    moments _ _ (line c.args.self.now) _ c.write_durably.ensures.ran c.args.self.now.in_journal checkpoint rs s
    c.args.payload.now c.requires.record c.requires.end piece (c.in-Ok.ensures.written s.tells) (c.in-Ok.ensures.durable s.tells s.honest) _ c.write_durably-2.ensures.ran

pub returns-in_default-write_durably-clause-ran : goal.returns-in_default-write_durably-clause-ran
returns-in_default-write_durably-clause-ran g c =
    ran_on OffJournal _ _ _ (off_ran c.args.self.now.area c.args.self.now.end _ _ _ c.args.self.now.in_journal c.write_durably.ensures.ran)
    (off_ran c.args.self.now.area (c.args.self.now.end - 1) 1 _ _ c.args.self.now.in_journal c.write_durably-2.ensures.ran)
