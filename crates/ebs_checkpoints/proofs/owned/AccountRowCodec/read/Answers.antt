use Rattle.std.proofs.Common.{◌++◌}
use Rattle.std.proofs.lemmas.Result.{err_from_is_err_and}
use Rattle.ebs_checkpoints.specs.declared.owned.AccountRow.{AccountRow}
use Rattle.ebs_records.specs.Fields.{IsWord, word, long, IsAccount, AreMembers, members}
use Rattle.ebs_checkpoints.specs.Owned.{IsToken, token}
use Rattle.ebs_checkpoints.proofs.Views.{unread_by}
use Rattle.ebs_checkpoints.proofs.owned.AccountRowCodec.read.Goals as goal

pub returns-in_err-account : goal.returns-in_err-account
returns-in_err-account c =
    let p = err_from_is_err_and c.from_residual.result c.from_residual.ensures.1 in
    rw (p.1, p.2) (unread_by (λ (v : AccountRow). (v.account, (v.next_snap, (v.next_vol, (v.next_rule, (v.next_policy, v.tokens)))))) (λ p. IsAccount p.0 × (IsWord p.1.0 × (IsWord p.1.1.0 × (IsWord p.1.1.1.0 × (IsWord p.1.1.1.1.0 × AreMembers IsToken p.1.1.1.1.1))))) (λ p. long p.0 ++ (word p.1.0 ++ (word p.1.1.0 ++ (word p.1.1.1.0 ++ (word p.1.1.1.1.0 ++ members token p.1.1.1.1.1))))) c.args.input.now c.read.new.input c.in_err-account.field-0.0 c.in_err-account.ensures)
