use Rattle.std.proofs.Common.{refl}
use Rattle.ebs_records.proofs.calls.read_start.Goals as goal

pub returns : goal.returns
returns c = let f = c.in_ok-size in (record { given = (f.size, (f.parent, (f.description, (f.tags, (f.client_token, f.timeout))))); is = refl; fit = f.ensures.0 }, f.ensures.1)
