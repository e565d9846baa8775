use Rattle.ebs_pointed.proofs.Changing.{IsGathering, left_books}
use Rattle.ebs_pointed.specs.Accounts.{HaveValues, of_number, with_next}
use Rattle.ebs_pointed.proofs.gathering.add_books.Given as goal

abbrev pub invariant-loop-account : goal.invariant-loop-account
invariant-loop-account l = record {
  rows : IsGathering of_number with_next l.initial.found l.found (left_books l.account-iterator) (left_books l.initial.account-iterator);
  values : HaveValues l.initial.found → HaveValues l.found;
}
