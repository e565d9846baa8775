use Rattle.std.proofs.Common.{◌≡◌}
use Rattle.std.specs.Map.{lookup}
use Rattle.ebs_catalog.specs.Tokens.{is_token}
use Rattle.ebs_catalog.proofs.repeats.row_of.Given as goal

-- what is found in the rows that are left is what is found in all
abbrev pub invariant-loop-key : goal.invariant-loop-key
invariant-loop-key l = lookup (is_token l.account l.text) l.key-iterator ≡ lookup (is_token l.account l.text) l.initial.key-iterator
