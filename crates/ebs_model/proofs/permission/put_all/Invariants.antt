use Rattle.std.proofs.Common.{◌≡◌, drop}
use Rattle.std.specs.Ordering.{nat_cmp}
use Rattle.ebs_tables.specs.Seen.{seen}
use Rattle.ebs_model.specs.Calls.Permission.{with_all}
use Rattle.ebs_model.proofs.permission.put_all.Given as goal

abbrev pub invariant-loop-account : goal.invariant-loop-account
invariant-loop-account l = with_all (drop l.account-index l.accounts) (seen nat_cmp l.set) ≡ with_all l.accounts (seen nat_cmp l.initial.set)
