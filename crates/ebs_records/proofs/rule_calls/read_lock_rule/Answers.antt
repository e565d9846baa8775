use Rattle.std.proofs.Common.{refl}
use Rattle.ebs_records.proofs.rule_calls.read_lock_rule.Goals as goal

pub returns : goal.returns
returns c = let f = c.in_ok-key in (record { given = (f.key, f.delay); is = refl; fit = f.ensures.0 }, f.ensures.1)
