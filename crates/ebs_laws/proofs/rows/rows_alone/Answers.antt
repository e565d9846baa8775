use Rattle.ebs_laws.proofs.Alone.{commits, alone, rows-refuse}
use Rattle.ebs_laws.proofs.Alike.{refused-alike}
use Rattle.ebs_laws.proofs.rows.rows_alone.Goals as goal

pub returns-clause-commits : goal.returns-clause-commits
returns-clause-commits c = commits

pub returns-clause-decides : goal.returns-clause-decides
returns-clause-decides c = alone

pub returns-clause-refuses : goal.returns-clause-refuses
returns-clause-refuses c = rows-refuse

pub returns-clause-reads : goal.returns-clause-reads
returns-clause-reads c = refused-alike
