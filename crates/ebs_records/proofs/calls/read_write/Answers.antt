use Rattle.std.proofs.Common.{refl}
use Rattle.ebs_records.proofs.calls.read_write.Goals as goal

pub returns : goal.returns
returns c = let f = c.in_ok-key in rw c.new.ensures (record { given = (f.key, (f.index, (f.digest, f.slot))); is = refl; fit = f.ensures.0 }, f.ensures.1)
