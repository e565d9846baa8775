use Rattle.ebs_model.proofs.KeptLaw.{act-kept}
use Rattle.ebs_model.proofs.KeptAges.{advance-kept}
use Rattle.ebs_model.proofs.laws.kept_form.Goals as goal

pub returns-clause-acts : goal.returns-clause-acts
returns-clause-acts c = act-kept

pub returns-clause-ages : goal.returns-clause-ages
returns-clause-ages c = advance-kept
