use Rattle.std.proofs.Common.{ap}
use Rattle.ebs_model.proofs.Aged.{aged-aged}
use Rattle.ebs_laws.proofs.time.time_passes_in_parts.Goals as goal

pub returns : goal.returns
returns c = λ m now later h. ap (λ snaps. record m { clock = later; snaps = snaps }) (aged-aged now.second later.second h m.snaps)
