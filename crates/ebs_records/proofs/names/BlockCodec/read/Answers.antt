use Rattle.std.proofs.Common.{◌++◌}
use Rattle.std.proofs.lemmas.Result.{err_from_is_err_and}
use Rattle.ebs_model.specs.declared.array.Block.{Block}
use Rattle.ebs_records.specs.Fields.{IsLong, long, IsDigest, digest}
use Rattle.ebs_records.proofs.Views.{unread_by}
use Rattle.ebs_records.proofs.names.BlockCodec.read.Goals as goal

pub returns-in_err-stamp : goal.returns-in_err-stamp
returns-in_err-stamp c =
    let p = err_from_is_err_and c.from_residual.result c.from_residual.ensures.1 in
    rw (p.1, p.2) (unread_by (λ (v : Block). (v.stamp, v.digest)) (λ p. IsLong p.0 × IsDigest p.1) (λ p. long p.0 ++ digest p.1) c.args.input.now c.read.new.input c.in_err-stamp.field-0.0 c.in_err-stamp.ensures)
