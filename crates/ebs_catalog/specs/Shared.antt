-- How many accounts a snapshot is shared with.
use Rattle.std.specs.Prelude.{ℕ, Bool, List, ◌==◌}
use Rattle.std.specs.List.{list_any}
use Rattle.std.specs.FinMap as map
use Rattle.ebs_model.specs.Calls.Permission.{with_all, without_all}

abbrev pub is_in : ℕ → List ℕ → Bool
is_in account accounts = list_any (λ other. other == account) accounts

-- how many are left of the others and these, once the removed are out
abbrev pub left_of : List ℕ → List ℕ → List ℕ → ℕ
left_of others remove accounts = map.len (without_all remove (with_all accounts (with_all others map.empty)))
