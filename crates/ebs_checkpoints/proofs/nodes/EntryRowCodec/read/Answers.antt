use Rattle.std.proofs.Common.{◌++◌}
use Rattle.std.proofs.lemmas.Result.{err_from_is_err_and}
use Rattle.ebs_checkpoints.specs.declared.nodes.EntryRow.{EntryRow}
use Rattle.ebs_records.specs.Fields.{IsWord, word}
use Rattle.ebs_records.specs.Names.{IsBlock, block}
use Rattle.ebs_checkpoints.proofs.Views.{unread_by}
use Rattle.ebs_checkpoints.proofs.nodes.EntryRowCodec.read.Goals as goal

pub returns-in_err-index : goal.returns-in_err-index
returns-in_err-index c =
    let p = err_from_is_err_and c.from_residual.result c.from_residual.ensures.1 in
    rw (p.1, p.2) (unread_by (λ (v : EntryRow). (v.index, v.block)) (λ p. IsWord p.0 × IsBlock p.1) (λ p. word p.0 ++ block p.1) c.args.input.now c.read.new.input c.in_err-index.field-0.0 c.in_err-index.ensures)
