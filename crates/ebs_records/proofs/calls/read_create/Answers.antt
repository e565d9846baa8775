use Rattle.std.proofs.Common.{refl}
use Rattle.ebs_records.proofs.calls.read_create.Goals as goal

pub returns : goal.returns
returns c = let f = c.in_ok-origin in (record { given = (f.origin, (f.size, (f.tags, f.client_token))); is = refl; fit = f.ensures.0 }, f.ensures.1)
