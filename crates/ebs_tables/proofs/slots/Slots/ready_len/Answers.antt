use Rattle.std.proofs.Common.{arith}
use Rattle.ebs_tables.specs.Full.{slots_of}
use Rattle.ebs_tables.proofs.FullLaws.{full-shorter}
use Rattle.ebs_tables.proofs.slots.Slots.ready_len.Goals as goal

pub returns-clause-values : goal.returns-clause-values
returns-clause-values g c =
    let shorter = full-shorter g.met.K.Ord.total (slots_of g.K.Ord.cmp c.args.self.now) in
    let len = c.len.ensures.len in
    omega (arith, shorter, len)
