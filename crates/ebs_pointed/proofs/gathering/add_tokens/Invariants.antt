use Rattle.std.specs.List.{AllByRecursion}
use Rattle.ebs_model.specs.declared.keys.TokenKey.{TokenKey}
use Rattle.ebs_model.specs.declared.rows.TokenRow.{TokenRow}
use Rattle.ebs_pointed.proofs.Changing.{IsGathering}
use Rattle.ebs_pointed.specs.Accounts.{HaveValues, IsFirst, of_token, with_token}
use Rattle.ebs_pointed.proofs.gathering.add_tokens.Given as goal

abbrev pub invariant-loop-key : goal.invariant-loop-key
invariant-loop-key l = record {
  rows : IsGathering of_token with_token l.initial.found l.found l.key-iterator l.initial.key-iterator;
  first : AllByRecursion (λ (e : TokenKey × TokenRow). IsFirst e.1.first) l.key-iterator;
  values : HaveValues l.initial.found → HaveValues l.found;
}
