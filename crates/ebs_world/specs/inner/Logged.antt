-- A disk in memory, as its users see it.
use Rattle.std.specs.Prelude.{ℕ, List, length, Bool, true, not, ◌≡◌, false}
use Rattle.std.proofs.lemmas.Bool.{false≢true}
use Rattle.std.proofs.Common.{refl, ◌∙◌}
use Rattle.ebs_world.specs.declared.area.Area.{Area}
use Rattle.ebs_world.specs.declared.log.Log.{Log}
use Rattle.ebs_world.specs.declared.log.Step.{Step}
use Rattle.ebs_world.specs.Image.{Image}
use Rattle.ebs_world.specs.View.{View, IsTrueToItself}
use Rattle.ebs_world.specs.inner.Held.{shown, end_in}
use Rattle.ebs_world.specs.inner.Log.{IsImage, present, LeftSince, State, state_at}
use Rattle.ebs_world.specs.inner.Replay.{counts_now, only_now}

-- bytes in front of a log, the log, what a read gives now, and how often a call has failed
abbrev pub seen : Bool → Image → List Step → Image → ℕ → View
seen honest first steps reads faults = record {
  tells = true;
  honest = honest;
  reads = reads;
  may_leave = λ c. IsImage (present first steps) c;
  moment = length steps;
  left_since = λ t c. LeftSince first steps t c;
  faults = faults;
}

abbrev pub log_view : Log → ℕ → View
log_view log faults = seen (not log.spoiled) (shown log.first) log.steps.items (shown log.bytes) faults

pub not_true : (b : Bool) → not b ≡ true → b ≡ false
not_true true e = absurd (false≢true e)
not_true false e = refl

pub log_law : (log : Log) (faults : ℕ) → IsTrueToItself (log_view log faults)
log_law log faults = record {
  reads_as_image = λ told honest a i clean. log.agrees (not_true log.spoiled honest) a i ∙ log.settled a i clean;
  counts_now = λ honest t c le now. counts_now (shown log.first) log.steps.items t c le now;
  only_now = λ honest c left. only_now (shown log.first) log.steps.items c left;
}

abbrev pub log_end : Log → Area → ℕ
log_end log a = end_in log.bytes a

-- the state at one of its moments
abbrev pub log_state : Log → ℕ → State
log_state log moment = state_at (shown log.first) log.steps.items moment
