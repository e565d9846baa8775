use Rattle.ebs_laws.proofs.Deleted.{deletion-gone, deletion-number, gone-run, not-given, not-found}
use Rattle.ebs_laws.proofs.deletions.deleted_stays_gone.Goals as goal

pub returns-clause-leaves : goal.returns-clause-leaves
returns-clause-leaves c = deletion-gone

pub returns-clause-number_out : goal.returns-clause-number_out
returns-clause-number_out c = deletion-number

pub returns-clause-stays : goal.returns-clause-stays
returns-clause-stays c = gone-run

pub returns-clause-number : goal.returns-clause-number
returns-clause-number c = not-given

pub returns-clause-refused : goal.returns-clause-refused
returns-clause-refused c = not-found
