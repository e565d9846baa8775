use Rattle.ebs_lawful_points.proofs.RowRules.{shares-ascend, uploads-done}
use Rattle.ebs_lawful_points.proofs.points.rows_have_rules.Goals as goal

pub returns-clause-shared : goal.returns-clause-shared
returns-clause-shared c = shares-ascend

pub returns-clause-uploads : goal.returns-clause-uploads
returns-clause-uploads c = uploads-done
