use Rattle.std.proofs.Common.{◌++◌}
use Rattle.std.proofs.lemmas.Result.{err_from_is_err_and}
use Rattle.ebs_model.specs.declared.policy.Policy.{Policy}
use Rattle.ebs_records.specs.Fields.{IsWord, word, IsMoment, moment, AreMembers, members, IsTag, tag, IsPolicyKey, policy_key}
use Rattle.ebs_records.specs.States.{IsRetain, retain}
use Rattle.ebs_records.proofs.Views.{unread_by}
use Rattle.ebs_records.proofs.policies.PolicyCodec.read.Goals as goal

pub returns-in_err-key : goal.returns-in_err-key
returns-in_err-key c =
    let p = err_from_is_err_and c.from_residual.result c.from_residual.ensures.1 in
    rw (p.1, p.2) (unread_by (λ (v : Policy). (v.key, (v.targets, (v.hours, (v.at, (v.retain, (v.add, v.last))))))) (λ p. IsPolicyKey p.0 × (AreMembers IsTag p.1.0 × (IsWord p.1.1.0 × (IsWord p.1.1.1.0 × (IsRetain p.1.1.1.1.0 × (AreMembers IsTag p.1.1.1.1.1.0 × IsMoment p.1.1.1.1.1.1)))))) (λ p. policy_key p.0 ++ (members tag p.1.0 ++ (word p.1.1.0 ++ (word p.1.1.1.0 ++ (retain p.1.1.1.1.0 ++ (members tag p.1.1.1.1.1.0 ++ moment p.1.1.1.1.1.1)))))) c.args.input.now c.read.new.input c.in_err-key.field-0.0 c.in_err-key.ensures)
