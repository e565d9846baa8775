use Rattle.std.proofs.Common.{refl}
use Rattle.ebs_records.proofs.policy_calls.read_create_policy.Goals as goal

pub returns : goal.returns
returns c = let f = c.in_ok-targets in (record { given = (f.targets, (f.hours, (f.at, (f.retain, f.add)))); is = refl; fit = f.ensures.0 }, f.ensures.1)
