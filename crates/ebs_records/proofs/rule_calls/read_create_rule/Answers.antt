use Rattle.std.proofs.Common.{refl}
use Rattle.ebs_records.proofs.rule_calls.read_create_rule.Goals as goal

pub returns : goal.returns
returns c = let f = c.in_ok-days in (record { given = (f.days, (f.tags, (f.description, f.delay))); is = refl; fit = f.ensures.0 }, f.ensures.1)
