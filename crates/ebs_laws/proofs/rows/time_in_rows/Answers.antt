use Rattle.ebs_model.proofs.RowLaws.{rows_of-advance}
use Rattle.ebs_laws.proofs.Alone.{in-parts}
use Rattle.ebs_laws.proofs.rows.time_in_rows.Goals as goal

pub returns-clause-ages : goal.returns-clause-ages
returns-clause-ages c = rows_of-advance

pub returns-clause-parts : goal.returns-clause-parts
returns-clause-parts c = in-parts
