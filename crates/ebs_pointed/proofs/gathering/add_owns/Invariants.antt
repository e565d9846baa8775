use Rattle.ebs_pointed.proofs.Changing.{IsGathering, left_owns}
use Rattle.ebs_pointed.specs.Accounts.{HaveValues, of_number, with_own}
use Rattle.ebs_pointed.proofs.gathering.add_owns.Given as goal

abbrev pub invariant-loop-account : goal.invariant-loop-account
invariant-loop-account l = record {
  rows : IsGathering of_number with_own l.initial.found l.found (left_owns l.account-iterator) (left_owns l.initial.account-iterator);
  values : HaveValues l.initial.found → HaveValues l.found;
}
