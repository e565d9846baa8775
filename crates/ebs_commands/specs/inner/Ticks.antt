-- Beside what is promised: the runs of all policies.
use Rattle.std.specs.Prelude.{◌≡◌, Result, Ok, Err, true, List, ℕ, Option}
use Rattle.ebs_world.specs.Ends.{Outlet, Ticks}
use Rattle.ebs_world.specs.View.{View}
use Rattle.ebs_model.specs.declared.keys.Moment.{Moment}
use Rattle.ebs_model.specs.declared.keys.PolicyKey.{PolicyKey}
use Rattle.ebs_model.specs.declared.answer.Answer.{Answer}
use Rattle.ebs_model.specs.declared.answer.Answer.TheVariants as said
use Rattle.ebs_model.specs.declared.answer.Refusal.TheVariants.{Unavailable}
use Rattle.ebs_commands.specs.Lines.{run_line}
use Rattle.ebs_commands.specs.Ends.{Wrote, FailedAt}
use Rattle.ebs_commands.specs.declared.ending.CommandEnd.{CommandEnd}
use Rattle.ebs_commands.specs.declared.ending.CommandEnd.TheVariants.{Done, DiskFailed, AlreadyMade, OutputFailed, Memory, Damaged, Exhausted}
use Rattle.ebs_commands.specs.Ticks.{goes_on, run_asked, Ends, RunAnswer, run_calls, policy_keys}
use Rattle.ebs_commands.specs.inner.Chains.{Applies, Chain}
use Rattle.ebs_model.specs.Quotas.{Rose}
use Rattle.ebs_recovery.specs.inner.Fits.{Seen}

-- one run, and its line
abbrev pub RunEnds : Result (Unit {0}) CommandEnd → Type 0 → PolicyKey → Answer → Outlet → Outlet → Type 0
RunEnds (Ok _) rose key answer before after = (goes_on answer ≡ true) × Wrote before after (run_line key answer)
RunEnds (Err DiskFailed) rose key answer before after = rose × (answer ≡ said.Refused Unavailable) × (after ≡ before)
RunEnds (Err Memory) rose key answer before after = after ≡ before
RunEnds (Err OutputFailed) rose key answer before after = (goes_on answer ≡ true) × FailedAt before after (run_line key answer)
RunEnds (Err Done) rose key answer before after = ⊥
RunEnds (Err AlreadyMade) rose key answer before after = ⊥
RunEnds (Err Damaged) rose key answer before after = ⊥
RunEnds (Err Exhausted) rose key answer before after = ⊥

-- the policy was run at this reading
pub record RunsOnce {D : Type 0} (view : D → View) (sound : Type 0) (end : Result (Unit {0}) CommandEnd) (reading : Moment) (key : PolicyKey) (d : D) (s : Seen) (e : D) (t : Seen) (before after : Outlet) : Type 0 where
  pub answer : Answer
  pub applies : Applies view sound d s (run_asked reading key) answer e t
  pub ends : RunEnds end (Rose (view d).faults (view e).faults) key answer before after

-- a part that is done lets the command go on
abbrev pub end_of : Result (Unit {0}) CommandEnd → CommandEnd
end_of (Ok _) = Done
end_of (Err end) = end

-- each policy was run in turn, at this reading
pub record RunsAll {D : Type 0} (view : D → View) (sound : Type 0) (end : CommandEnd) (reading : Moment) (keys : List PolicyKey) (d : D) (s : Seen) (e : D) (t : Seen) (before after : Outlet) : Type 0 where
  pub runs : List RunAnswer
  pub chain : Chain view sound d s (run_calls reading runs) e t
  pub ends : Ends end (Rose (view d).faults (view e).faults) keys runs before after

-- all policies were run at one reading of the clock
pub record Ticked {D : Type 0} (view : D → View) (sound : Type 0) (end : CommandEnd) (clock_old clock_new : Option (List ℕ)) (d : D) (s : Seen) (e : D) (t : Seen) (before after : Outlet) : Type 0 where
  pub reading : Moment
  pub ticks : Ticks clock_old clock_new reading.second
  pub runs : RunsAll view sound end reading (policy_keys s.recorded) d s e t before after
