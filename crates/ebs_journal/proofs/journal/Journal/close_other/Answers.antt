use Rattle.ebs_journal.specs.inner.Line.{line}
use Rattle.ebs_journal.proofs.Rotation.{closing_moments}
use Rattle.ebs_journal.proofs.journal.Journal.close_other.Goals as goal

pub returns-in_default-clause-any_moment : goal.returns-in_default-clause-any_moment
returns-in_default-clause-any_moment g c checkpoint rs s =
    closing_moments _ _ (line c.args.self.now) c.args.self.now.in_journal checkpoint rs s (rw (← c.other.ensures) c.write_durably.ensures.ran) c.if-self.false

pub returns-clause-any_moment : goal.returns-clause-any_moment
returns-clause-any_moment g c checkpoint rs s =
    closing_moments _ _ (line c.args.self.now) c.args.self.now.in_journal checkpoint rs s (rw (← c.other.ensures) c.write_durably.ensures.ran) c.if-self.false
