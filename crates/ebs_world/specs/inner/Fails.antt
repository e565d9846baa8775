-- Which calls of an object in memory fail.
use Rattle.std.specs.Prelude.{ℕ, List, Contains, ◌≡◌, ◌+◌, ◌-◌, ◌^◌, min}
use Rattle.ebs_world.specs.declared.faults.FailList.{FailList}

-- the numbers, from 0, of the calls that fail, and how many calls there were
pub record Plan : Type 0 where
  pub fail : List ℕ
  pub calls : ℕ

abbrev pub plan : FailList → Plan
plan list = record { fail = list.numbers.items; calls = list.calls }

-- the next call is one of those that fail
abbrev pub IsListed : Plan → Type 0
IsListed plan = Contains plan.fail plan.calls

-- one more call was made, and those that fail stay the same
pub record Counted (old new : Plan) : Type 0 where
  pub calls : new.calls ≡ min (old.calls + 1) (2 ^ 64 - 1)
  pub fail : new.fail ≡ old.fail
