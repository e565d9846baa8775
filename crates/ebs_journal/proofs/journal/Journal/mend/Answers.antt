use Rattle.ebs_journal.specs.inner.Line.{line}
use Rattle.ebs_journal.proofs.Steps.{pending_on, pending_moments, mended}
use Rattle.ebs_journal.proofs.journal.Journal.mend.Goals as goal

pub returns-in_default-clause-still : goal.returns-in_default-clause-still
returns-in_default-clause-still g c checkpoint rs r p =
    pending_on (line c.args.self.now) checkpoint rs c.args.self.now.in_journal p.behind r _ _ c.write_durably.ensures.ran p

pub returns-in_default-clause-any_moment : goal.returns-in_default-clause-any_moment
returns-in_default-clause-any_moment g c checkpoint rs r p =
    pending_moments (line c.args.self.now) checkpoint rs c.args.self.now.in_journal p.behind r _ _ c.write_durably.ensures.ran p

pub returns-clause-mended : goal.returns-clause-mended
returns-clause-mended g c checkpoint rs r p =
    let after = pending_on (line c.args.self.now) checkpoint rs c.args.self.now.in_journal p.behind r _ _ c.write_durably.ensures.ran p in
    mended (line c.args.self.now) checkpoint rs c.args.self.now.in_journal p.behind r _ _ c.write_durably.ensures.ran p (c.in-Ok.ensures.durable p.tells p.honest) (c.in-Ok.ensures.written p.tells)

pub returns-clause-any_moment : goal.returns-clause-any_moment
returns-clause-any_moment g c checkpoint rs r p =
    pending_moments (line c.args.self.now) checkpoint rs c.args.self.now.in_journal p.behind r _ _ c.write_durably.ensures.ran p
