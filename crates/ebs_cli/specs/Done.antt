-- How a command that isn't a session was done on a disk.
use Rattle.std.specs.Prelude.{◌≡◌, true, ◌≢◌, ℕ, List, Option, Result}
use Rattle.ebs_world.specs.Ends.{Outlet, Ticks}
use Rattle.ebs_world.specs.Image.{Image, Everywhere}
use Rattle.ebs_world.specs.View.{View, Leaves, Ran}
use Rattle.ebs_model.specs.Machine.{Machine, empty_machine}
use Rattle.ebs_model.specs.declared.keys.Moment.{Moment}
use Rattle.ebs_recovery.specs.Stands.{Stands}
use Rattle.ebs_disk_store.specs.declared.pointing.StoreStop.{StoreStop}
use Rattle.ebs_disk_store.specs.declared.refusal.OpenRefusal.{OpenRefusal}
use Rattle.ebs_commands.specs.Ends.{Checks, Inits, IsUnmade}
use Rattle.ebs_commands.specs.Ticks.{Ends, RunAnswer, policy_keys, run_calls}
use Rattle.ebs_commands.specs.Samples.{Answers, Begins, SampleEnds, moment_in, sample_calls, zeros}
use Rattle.ebs_commands.specs.declared.ending.CommandEnd.{CommandEnd}
use Rattle.ebs_commands.specs.declared.ending.CommandEnd.TheVariants.{Damaged, Memory}
use Rattle.ebs_commands.specs.Collects.{CollectEnds, IsCollected, PointEnds, Promised, TellsUsage, usage_of}
use Rattle.ebs_cli.specs.Told.{Kept, OwnReplies, moment_at, new_kept}
use Rattle.ebs_opening.specs.Opens.{AllStand}
use Rattle.ebs_cli.specs.Opens.{IsKeptOrNew, OnlyMakes}
use Rattle.ebs_cli.specs.OnDisk.{IsUnbegun}
use Rattle.ebs_cli.specs.declared.outcome.Outcome.{Outcome}
use Rattle.ebs_cli.specs.declared.outcome.Outcome.TheVariants.{Unready, Command}
use Rattle.ebs_cli.specs.Left.{Commanded, IsLeftAged, own_calls}
use Rattle.ebs_disk_store.specs.Opened.{IsUnmarked, KeepsMade, NoneNewOrOld}
use Rattle.ebs_journal.specs.Opening.{OffJournal, OffMaking}
use Rattle.ebs_model.specs.Quotas.{Rose}

-- the store was had of the disk: where that tells, what it keeps is what the journal gives, or nothing where none was made
pub record IsHad (v u : View) (k : Kept) : Type 0 where
  pub read : v.tells ≡ true → IsKeptOrNew v k
  pub opening : OnlyMakes v u

-- the command was done by the store that was had of the disk, and ended so that `By` holds; or there is none, and nothing was begun
pub data DoneBy {D : Type 0} (view : D → View) (Untouched : Type 0) (By : D → Kept → CommandEnd → Type 0) (d e : D) (done : Outcome) : Type 0 where
  unbegun : (refusal : OpenRefusal) → done ≡ Unready refusal → IsUnbegun (view d) (view e) refusal → Untouched → DoneBy view Untouched By d e done
  by_store : (mid : D) (k : Kept) (end : CommandEnd) → done ≡ Command end → IsHad (view d) (view mid) k → By mid k end → DoneBy view Untouched By d e done

-- a collection at a reading, at the later of the clock and that, left this of what was kept
abbrev pub IsCollectedAt : Kept → Kept → ℕ → Type 0
IsCollectedAt k l reading = IsCollected k.state l.state (moment_at k reading) × (l.clock ≡ moment_at k reading)

-- and this is how the checkpoint behind it ended
pub record EndsAt {D : Type 0} (view : D → View) (Holds : Type 0) (d e : D) (k l : Kept) (reading : ℕ) (result : Result (Unit {0}) StoreStop) : Type 0 where
  pub collected : IsCollectedAt k l reading
  pub point : PointEnds Holds (view d) (view e) k.state l.state (moment_at k reading) result

-- the disk failed in it, and what was kept stays
abbrev pub FailsAt : {D : Type 0} → (D → View) → D → D → Kept → Kept → Type 0
FailsAt view d e k l = Rose (view d).faults (view e).faults × (l ≡ k)

-- each block of the store was checked, and nothing was written; on an honest disk that stood for a machine none is damaged, and whatever a crash leaves stands for it,
-- from the first moment on where each image stood for it then
pub record ChecksAll {D : Type 0} (view : D → View) (sound : Type 0) (d e : D) (old new : Outlet) (mid : D) (k : Kept) (end : CommandEnd) : Type 0 where
  pub checks : Checks end (view mid) (view e) k.state old new
  pub ran : Ran Everywhere (view mid) (view e)
  pub whole : sound → (view d).tells ≡ true → (view d).honest ≡ true → end ≢ Damaged
  pub moments : sound → (view d).tells ≡ true → (view d).honest ≡ true → (m : Machine) → Stands (view d).reads m → Leaves (view mid) (view e) (λ c. Stands c m)
  pub from_first : (view d).tells ≡ true → (view d).honest ≡ true → (m : Machine) → Stands (view d).reads m → AllStand (view d) m → (c : Image) → (view e).left_since (view d).moment c → Stands c m

-- each policy of the store was run at one reading of the clock; and over an honest disk that stood for a machine its life goes on by these runs
pub record TicksAll {D : Type 0} (view : D → View) (sound : Type 0) (d e : D) (clock_old clock_new : Option (List ℕ)) (old new : Outlet) (mid : D) (k : Kept) (end : CommandEnd) : Type 0 where
  pub reading : Moment
  pub ticks : Ticks clock_old clock_new reading.second
  pub runs : List RunAnswer
  pub ends : Ends end (Rose (view mid).faults (view e).faults) (policy_keys k.state.machine) runs old new
  pub last : Kept
  pub replies : OwnReplies view k mid (own_calls (run_calls reading runs)) last e
  pub commanded : sound → (view d).tells ≡ true → (view d).honest ≡ true → (m : Machine) → Stands (view d).reads m → Commanded m (view d) (view e) (own_calls (run_calls reading runs))

-- the store was collected at one reading of the clock, with a checkpoint behind the collection; and over an honest disk that stood for a machine, whatever a crash leaves stands for that, or for what time leaves of
-- it at the collection's moment, from the first moment on where each image stood for it then
pub record CollectsAll {D : Type 0} (view : D → View) (sound : Type 0) (d e : D) (clock_old clock_new : Option (List ℕ)) (old new : Outlet) (mid : D) (k : Kept) (end : CommandEnd) : Type 0 where
  pub reading : Moment
  pub ticks : Ticks clock_old clock_new reading.second
  pub last : Kept
  pub ends : CollectEnds end (FailsAt view mid e k last) (EndsAt view (Promised sound (view d)) mid e k last reading.second) (usage_of last.state.slots 0) old new
  pub ran : Ran OffJournal (view mid) (view e)
  pub leaves : sound → (view d).tells ≡ true → (view d).honest ≡ true → (m : Machine) → Stands (view d).reads m → Leaves (view mid) (view e) (IsLeftAged m (moment_at k reading.second).second)
  pub from_first : sound → (view d).tells ≡ true → (view d).honest ≡ true → (m : Machine) → Stands (view d).reads m → AllStand (view d) m → (c : Image) → (view e).left_since (view d).moment c → IsLeftAged m (moment_at k reading.second).second c

-- what the store uses was told, and the disk wasn't called behind the opening; whatever a crash leaves stands for the machine for which each image stood before
pub record UsesAll {D : Type 0} (view : D → View) (d e : D) (old new : Outlet) (mid : D) (k : Kept) (end : CommandEnd) : Type 0 where
  pub tells : TellsUsage end (usage_of k.state.slots 0) old new
  pub still : e ≡ mid
  pub from_first : (view d).tells ≡ true → (view d).honest ≡ true → (m : Machine) → Stands (view d).reads m → AllStand (view d) m → (c : Image) → (view e).left_since (view d).moment c → Stands c m

-- a store was made with this secret where none was made before, so that whatever a crash leaves of an honest disk stands for the empty machine
pub record IsBegun (sound : Type 0) (v w : View) (secret : List ℕ) : Type 0 where
  pub unmarked : v.tells ≡ true → IsUnmarked v
  pub stands : sound → w.tells ≡ true → w.honest ≡ true → AllStand w (empty_machine secret)

-- a store was made with this secret, or it wasn't; at each moment of an honest disk none was made, the new one is whole, or an image is one of before; and where
-- the mark said that one was made, nothing was written, however it ended
pub record MakesOne (sound : Type 0) (v w : View) (secret : List ℕ) (old new : Outlet) (end : CommandEnd) : Type 0 where
  pub inits : Inits end (IsBegun sound v w secret) v w old new
  pub moments : v.tells ≡ true → v.honest ≡ true → Leaves v w (NoneNewOrOld v secret)
  pub opening : OnlyMakes v w

-- whatever a crash leaves of a collection behind these calls stands for the machine that was recorded then, or for what time leaves of it
pub record AgesBehind {D : Type 0} (view : D → View) (sound : Type 0) (d given e : D) (recorded : sound → (view d).tells ≡ true → (view d).honest ≡ true → Machine) (second : ℕ) : Type 0 where
  pub ran : Ran OffJournal (view given) (view e)
  pub leaves : (is : sound) (told : (view d).tells ≡ true) (honest : (view d).honest ≡ true) → Leaves (view given) (view e) (IsLeftAged (recorded is told honest) second)

-- a store was made with a secret of zeros and given these calls, and over an honest disk a life begins with that store, which goes on by these calls; and behind
-- all calls it was collected at the moment of the last, with a checkpoint behind the collection
pub record IsSampledOn {D : Type 0} (view : D → View) (sound : Type 0) (end : CommandEnd) (rounds : ℕ) (d e : D) (old new : Outlet) : Type 0 where
  pub mid : D
  pub begun : IsBegun sound (view d) (view mid) zeros
  pub ran : Ran OffMaking (view d) (view mid)
  pub begins : Begins (view d) (view mid)
  pub answers : Answers
  pub given : D
  pub last : Kept
  pub replies : OwnReplies view (new_kept zeros) mid (own_calls answers) last given
  pub commanded : sound → (view d).tells ≡ true → (view d).honest ≡ true → Commanded (empty_machine zeros) (view mid) (view given) (own_calls answers)
  pub behind : Kept
  pub ends : (let ages = AgesBehind view sound d given e (λ is told honest. (commanded is told honest).after.recorded) (moment_at last (moment_in rounds).second).second in
      SampleEnds end (Rose (view d).faults (view e).faults) ((e ≡ given) × (behind ≡ last)) (ages × FailsAt view given e last behind)
      (λ point. ages × EndsAt view (Promised sound (view d)) given e last behind (moment_in rounds).second point)
      (usage_of behind.state.slots 0) (sample_calls rounds) answers old new)

-- so it was; or no store was made, and nothing was written where one was made before; or memory was wanting before anything was done
pub data SamplesAll {D : Type 0} (view : D → View) (sound : Type 0) (rounds : ℕ) (d e : D) (old new : Outlet) (end : CommandEnd) : Type 0 where
  starved : end ≡ Memory → e ≡ d → new ≡ old → SamplesAll view sound rounds d e old new end
  unmade : IsUnmade end (view d) (view e) → KeepsMade (view d) (view e) → Begins (view d) (view e) → new ≡ old → SamplesAll view sound rounds d e old new end
  sampled : IsSampledOn view sound end rounds d e old new → SamplesAll view sound rounds d e old new end
