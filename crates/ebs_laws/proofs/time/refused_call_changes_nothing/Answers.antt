use Rattle.ebs_laws.proofs.Clocks.{refused-leaves}
use Rattle.ebs_laws.proofs.time.refused_call_changes_nothing.Goals as goal

pub returns : goal.returns
returns c = refused-leaves
