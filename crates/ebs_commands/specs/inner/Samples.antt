-- Beside what is promised: the calls of a sample.
use Rattle.std.specs.Prelude.{◌≡◌, ◌⊎◌, Result, Ok, Err, Bool, true, ℕ, List}
use Rattle.ebs_disk_store.specs.Opened.{IsUnmarked}
use Rattle.ebs_world.specs.Ends.{Outlet}
use Rattle.ebs_world.specs.View.{View, Ran}
use Rattle.ebs_model.specs.declared.answer.Answer.{Answer}
use Rattle.ebs_model.specs.declared.answer.Answer.TheVariants as said
use Rattle.ebs_model.specs.declared.answer.Refusal.TheVariants.{Unavailable}
use Rattle.ebs_commands.specs.Ends.{IsUnmade}
use Rattle.ebs_commands.specs.Ticks.{goes_on}
use Rattle.ebs_commands.specs.declared.ending.CommandEnd.{CommandEnd}
use Rattle.ebs_commands.specs.declared.ending.CommandEnd.TheVariants.{Done, DiskFailed, AlreadyMade, OutputFailed, Memory, Damaged, Exhausted}
use Rattle.ebs_commands.specs.declared.rounds.SampleCall.{SampleCall}
use Rattle.ebs_commands.specs.Samples.{asked_of, is_accepted, moment_in, Answers, AreAll, StopAt, accepted_in, Begins, SampleEnds, sample_calls, zeros}
use Rattle.ebs_commands.specs.inner.Collects.{Collects, Ended, Failed, IsCollectedOr, used}
use Rattle.ebs_commands.specs.declared.sampling.Counts.{Counts}
use Rattle.ebs_disk_store.specs.inner.Told.{at_reading}
use Rattle.ebs_model.specs.declared.keys.Moment.{Moment}
use Rattle.ebs_commands.specs.inner.Chains.{Applies, Chain}
use Rattle.ebs_journal.specs.Opening.{OffMaking}
use Rattle.ebs_journal.specs.inner.Line.{Line}
use Rattle.ebs_model.specs.Quotas.{Rose}
use Rattle.ebs_recovery.specs.inner.Fits.{Seen, Fits, new_store}

-- one call was given: whether it was accepted, or why the calls end with it
abbrev pub Gives : {D : Type 0} → (D → View) → Type 0 → Result Bool CommandEnd → SampleCall → D → Seen → D → Seen → Type 0
Gives view sound (Ok accepted) c d s e t = (answer : Answer) × Applies view sound d s (asked_of c) answer e t × (accepted ≡ is_accepted answer) × (goes_on answer ≡ true)
Gives view sound (Err DiskFailed) c d s e t = Applies view sound d s (asked_of c) (said.Refused Unavailable) e t
Gives view sound (Err Memory) c d s e t = ((e ≡ d) × (t ≡ s)) ⊎ Applies view sound d s (asked_of c) said.Memory e t
Gives view sound (Err Done) c d s e t = ⊥
Gives view sound (Err OutputFailed) c d s e t = ⊥
Gives view sound (Err AlreadyMade) c d s e t = ⊥
Gives view sound (Err Damaged) c d s e t = ⊥
Gives view sound (Err Exhausted) c d s e t = ⊥

-- these answers are of all calls, so many of which were accepted; or they are why the calls ended
abbrev pub GiveEnds : Result ℕ CommandEnd → List SampleCall → Answers → Type 0
GiveEnds (Ok accepted) calls answers = AreAll calls answers × (accepted ≡ accepted_in answers)
GiveEnds (Err end) calls answers = StopAt end calls answers

-- the calls were given, one after another
pub record GivesAll {D : Type 0} (view : D → View) (sound : Type 0) (result : Result ℕ CommandEnd) (calls : List SampleCall) (d : D) (s : Seen) (e : D) (t : Seen) : Type 0 where
  pub answers : Answers
  pub chain : Chain view sound d s answers e t
  pub ends : GiveEnds result calls answers
  -- the disk fails only where its count of faults rose
  pub rose : result ≡ Err DiskFailed → Rose (view d).faults (view e).faults

-- all calls were given, and then the store was collected at this reading
pub record GivenThen {D : Type 0} (view : D → View) (sound : Type 0) (accepted : ℕ) (calls : List SampleCall) (reading : Moment) (d : D) (s : Seen) (e : D) : Type 0 where
  pub given : D
  pub last : Seen
  pub behind : Seen
  pub gives : GivesAll view sound (Ok accepted) calls d s given last
  pub fits : Fits sound (view given) last
  pub collects : Collects view sound reading given last e behind

-- the calls ended early
pub record EndsEarly {D : Type 0} (view : D → View) (sound : Type 0) (end : CommandEnd) (calls : List SampleCall) (d : D) (s : Seen) (e : D) : Type 0 where
  pub last : Seen
  pub gives : GivesAll view sound (Err end) calls d s e last
  pub fits : Fits sound (view e) last

-- the collection behind all calls failed, or its checkpoint wasn't written
pub record CollectsNone {D : Type 0} (view : D → View) (sound : Type 0) (end : CommandEnd) (calls : List SampleCall) (reading : Moment) (d : D) (s : Seen) (e : D) : Type 0 where
  pub accepted : ℕ
  pub went : GivenThen view sound accepted calls reading d s e
  pub why : IsCollectedOr (Err end) (Failed sound (view went.given) (view e) went.last went.behind) (Ended sound (view went.given) (view e) went.last went.behind (at_reading went.last reading))

-- it was finished with its checkpoint
pub record CollectsAll {D : Type 0} (view : D → View) (sound : Type 0) (counts : Counts) (calls : List SampleCall) (reading : Moment) (d : D) (s : Seen) (e : D) : Type 0 where
  pub went : GivenThen view sound counts.accepted calls reading d s e
  pub ended : Ended sound (view went.given) (view e) went.last went.behind (at_reading went.last reading) (Ok tt)
  pub usage : counts.usage ≡ used went.behind.slots

abbrev pub GivesAndCollects : {D : Type 0} → (D → View) → Type 0 → Result Counts CommandEnd → List SampleCall → Moment → D → Seen → D → Type 0
GivesAndCollects view sound (Ok counts) calls reading d s e = CollectsAll view sound counts calls reading d s e
GivesAndCollects view sound (Err end) calls reading d s e = EndsEarly view sound end calls d s e ⊎ CollectsNone view sound end calls reading d s e

-- a store was made with a secret of zeros, where none was made before, and was given these calls; `behind` is the store at the end
pub record IsSampled {D : Type 0} (view : D → View) (sound : Type 0) (end : CommandEnd) (rounds : ℕ) (d e : D) (old new : Outlet) : Type 0 where
  pub mid : D
  pub journal : Line
  pub given : D
  pub last : Seen
  pub behind : Seen
  pub answers : Answers
  pub unmarked : (view d).tells ≡ true → IsUnmarked (view d)
  pub ran : Ran OffMaking (view d) (view mid)
  pub begins : Begins (view d) (view mid)
  pub made : Fits sound (view mid) (new_store zeros journal)
  pub chain : Chain view sound mid (new_store zeros journal) answers given last
  pub fits : Fits sound (view given) last
  pub ends : SampleEnds end (Rose (view d).faults (view e).faults) ((e ≡ given) × (behind ≡ last)) (Collects view sound (moment_in rounds) given last e behind × Failed sound (view given) (view e) last behind)
      (λ point. Collects view sound (moment_in rounds) given last e behind × Ended sound (view given) (view e) last behind (at_reading last (moment_in rounds)) point) (used behind.slots) (sample_calls rounds) answers old new

-- so it was; or no store was made; or memory was wanting before anything was done
pub data Samples {D : Type 0} (view : D → View) (sound : Type 0) (end : CommandEnd) (rounds : ℕ) (d e : D) (old new : Outlet) : Type 0 where
  unbegun : end ≡ Memory → e ≡ d → new ≡ old → Samples view sound end rounds d e old new
  unmade : IsUnmade end (view d) (view e) → Begins (view d) (view e) → new ≡ old → Samples view sound end rounds d e old new
  sampled : IsSampled view sound end rounds d e old new → Samples view sound end rounds d e old new
