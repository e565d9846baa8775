use Rattle.std.proofs.Common.{◌++◌}
use Rattle.std.proofs.lemmas.Result.{err_from_is_err_and}
use Rattle.ebs_checkpoints.specs.declared.nodes.CopyRow.{CopyRow}
use Rattle.ebs_records.specs.Fields.{IsWord, IsLong, word, long}
use Rattle.ebs_records.specs.Names.{IsBlock, block}
use Rattle.ebs_checkpoints.proofs.Views.{unread_by}
use Rattle.ebs_checkpoints.proofs.nodes.CopyRowCodec.read.Goals as goal

pub returns-in_err-index : goal.returns-in_err-index
returns-in_err-index c =
    let p = err_from_is_err_and c.from_residual.result c.from_residual.ensures.1 in
    rw (p.1, p.2) (unread_by (λ (v : CopyRow). (v.index, (v.copy, v.block))) (λ p. IsWord p.0 × (IsLong p.1.0 × IsBlock p.1.1)) (λ p. word p.0 ++ (long p.1.0 ++ block p.1.1)) c.args.input.now c.read.new.input c.in_err-index.field-0.0 c.in_err-index.ensures)
