use Rattle.std.proofs.Common.{◌++◌}
use Rattle.std.proofs.lemmas.Result.{err_from_is_err_and}
use Rattle.ebs_model.specs.declared.keys.VolKey.{VolKey}
use Rattle.ebs_records.specs.Fields.{word, long, IsAccount, IsKeyNumber}
use Rattle.ebs_records.proofs.Views.{unread_by}
use Rattle.ebs_records.proofs.keys.VolKeyCodec.read.Goals as goal

pub returns-in_err-account : goal.returns-in_err-account
returns-in_err-account c = let p = err_from_is_err_and c.from_residual.result c.from_residual.ensures.1 in rw (p.1, p.2) (unread_by (λ (k : VolKey). (k.account, k.number)) (λ q. IsAccount q.0 × IsKeyNumber q.1) (λ q. long q.0 ++ word q.1) c.args.input.now c.read.new.input c.in_err-account.field-0.0 c.in_err-account.ensures)
