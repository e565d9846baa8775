use Rattle.ebs_laws.proofs.ChangesBetween.{changes-between-join}
use Rattle.ebs_laws.proofs.lists.change_pages_join.Goals as goal

pub returns : goal.returns
returns c = changes-between-join
