use Rattle.std.proofs.Common.{◌++◌}
use Rattle.std.proofs.lemmas.Result.{err_from_is_err_and}
use Rattle.ebs_model.specs.declared.tags.Tag.{Tag}
use Rattle.ebs_records.specs.Fields.{IsText, text}
use Rattle.ebs_records.proofs.Views.{unread_by}
use Rattle.ebs_records.proofs.keys.TagCodec.read.Goals as goal

pub returns-in_err-key : goal.returns-in_err-key
returns-in_err-key c = let p = err_from_is_err_and c.from_residual.result c.from_residual.ensures.1 in rw (p.1, p.2) (unread_by (λ (t : Tag). (t.key, t.value)) (λ q. IsText q.0 × IsText q.1) (λ q. text q.0 ++ text q.1) c.args.input.now c.read.new.input c.in_err-key.field-0.0 c.in_err-key.ensures)
