use Rattle.std.proofs.Common.{◌≡◌, ◌++◌, map}
use Rattle.std.specs.FinMap as fin
use Rattle.std.specs.Ordering.{nat_cmp}
use Rattle.ebs_tables.specs.Seen.{seen}
use Rattle.ebs_model.proofs.permission.listed.Given as goal

abbrev pub invariant-loop-account : goal.invariant-loop-account
invariant-loop-account l = l.accounts.items ++ map (λ e. e.0) l.account-iterator ≡ fin.keys (seen nat_cmp l.set)
