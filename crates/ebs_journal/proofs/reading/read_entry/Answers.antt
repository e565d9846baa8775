use Rattle.std.proofs.Common.{◌+◌}
use Rattle.ebs_journal.proofs.Pieces.{front_spelled, back_spelled}
use Rattle.ebs_journal.proofs.reading.read_entry.Goals as goal

pub returns-clause-bytes : goal.returns-clause-bytes
returns-clause-bytes g c told = front_spelled _ _ _ _ _ c.split-ahead.ensures.bytes (c.in_ok-payload.ensures.bytes told)

pub returns-clause-ahead : goal.returns-clause-ahead
returns-clause-ahead g c told = back_spelled ((g.D.Disk.view c.args.disk.now).reads c.args.area) (c.args.gate + 5) c.args.size _ _ c.split-ahead.ensures.ahead (c.in_ok-payload.ensures.bytes told)
