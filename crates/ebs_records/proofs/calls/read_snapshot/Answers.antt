use Rattle.std.proofs.Common.{refl}
use Rattle.ebs_records.proofs.calls.read_snapshot.Goals as goal

pub returns : goal.returns
returns c = let f = c.in_ok-key in (record { given = (f.key, (f.description, f.tags)); is = refl; fit = f.ensures.0 }, f.ensures.1)
