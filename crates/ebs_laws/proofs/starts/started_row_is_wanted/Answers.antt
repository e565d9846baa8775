use Rattle.ebs_laws.proofs.Begun.{started-wanted}
use Rattle.ebs_laws.proofs.starts.started_row_is_wanted.Goals as goal

pub returns : goal.returns
returns c = started-wanted
