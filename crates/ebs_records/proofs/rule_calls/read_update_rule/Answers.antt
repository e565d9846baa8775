use Rattle.std.proofs.Common.{refl}
use Rattle.ebs_records.proofs.rule_calls.read_update_rule.Goals as goal

pub returns : goal.returns
returns c = let f = c.in_ok-key in (record { given = (f.key, (f.days, (f.tags, f.description))); is = refl; fit = f.ensures.0 }, f.ensures.1)
