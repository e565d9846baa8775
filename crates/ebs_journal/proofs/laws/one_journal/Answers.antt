use Rattle.ebs_journal.proofs.Unique.{runs_one, journal_one}
use Rattle.ebs_journal.proofs.laws.one_journal.Goals as goal

pub returns-clause-records : goal.returns-clause-records
returns-clause-records c f at m n qs rs = runs_one f at m n qs rs

pub returns-clause-journal : goal.returns-clause-journal
returns-clause-journal c i a b d e p q qs rs = journal_one i a b d e p q qs rs
