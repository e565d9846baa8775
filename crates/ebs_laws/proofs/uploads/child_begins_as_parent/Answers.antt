use Rattle.ebs_laws.proofs.Children.{child-step}
use Rattle.ebs_laws.proofs.uploads.child_begins_as_parent.Goals as goal

pub returns : goal.returns
returns c = child-step
