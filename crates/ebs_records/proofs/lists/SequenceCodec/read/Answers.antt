use Rattle.ebs_records.proofs.Each.{whole_list}
use Rattle.ebs_records.proofs.lists.SequenceCodec.read.Goals as goal

pub returns : goal.returns
returns g c = whole_list g.T.Codec.fits g.T.Codec.spelled c.in_ok-count.count c.args.input.now c.read.new.input c.read_each.new.input c.read_each.result c.in_ok-count.ensures.0 c.in_ok-count.ensures.1 c.read_each.ensures
