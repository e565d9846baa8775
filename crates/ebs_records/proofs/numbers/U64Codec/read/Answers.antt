use Rattle.ebs_records.specs.Fields.{long}
use Rattle.ebs_records.specs.inner.Numbers.{long-length}
use Rattle.ebs_records.proofs.Short.{too_short}
use Rattle.ebs_records.proofs.numbers.U64Codec.read.Goals as goal

pub returns-in-None : goal.returns-in-None
returns-in-None c v rest fits e = too_short 8 c.args.input.now (long v) rest (long-length v) c.in-None.ensures.none.1 e
