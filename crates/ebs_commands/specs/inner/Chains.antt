-- Beside what is promised: calls of a store on a disk, one after another.
use Rattle.std.specs.Prelude.{◌≡◌, List, [], ◌∷◌}
use Rattle.ebs_world.specs.View.{View, Leaves}
use Rattle.ebs_model.specs.declared.answer.Answer.{Answer}
use Rattle.ebs_model.specs.declared.answer.Answer.TheVariants.{Refused}
use Rattle.ebs_model.specs.declared.answer.Refusal.TheVariants.{Unavailable}
use Rattle.ebs_recovery.specs.Made.{called}
use Rattle.ebs_commands.specs.Ticks.{Asked}
use Rattle.ebs_disk_store.specs.inner.Applied.{Applied}
use Rattle.ebs_disk_store.specs.inner.Pending.{IsPendingAfter}
use Rattle.ebs_disk_store.specs.inner.Told.{IfSound, RanOffJournalAndOne, at_reading, called_at}
use Rattle.ebs_disk_store.specs.inner.Turned.{MayLeave, OneMoreOrNone, Turn}
use Rattle.ebs_model.specs.Quotas.{Rose}
use Rattle.ebs_recovery.specs.inner.Fits.{Seen}

-- the store answered a call so, and disk and store are as it left them
pub record Applies {D : Type 0} (view : D → View) (sound : Type 0) (d : D) (s : Seen) (x : Asked) (answer : Answer) (e : D) (t : Seen) : Type 0 where
  pub told : Applied (e ≡ d) (Rose (view d).faults (view e).faults) (view d) s t x.account (at_reading s x.reading) x.request answer
  pub cause : answer ≡ Refused Unavailable → Rose (view d).faults (view e).faults
  pub step : IfSound sound (view d) (Turn (view d) (view e) s t x.account x.reading x.request answer)
  pub recorded : IfSound sound (view d) (OneMoreOrNone (view d) (view e) s t)
  pub pending : IsPendingAfter s t x.account (at_reading s x.reading) x.request answer
  pub moments : IfSound sound (view d) (Leaves (view d) (view e) (MayLeave (answer ≡ Refused Unavailable) (view d) (view e) s t (called (called_at x.account (at_reading s x.reading) x.request))))
  pub ran : RanOffJournalAndOne s.slots (view d) (view e)

-- these calls were answered so, one after another
abbrev pub Chain : {D : Type 0} → (D → View) → Type 0 → D → Seen → List (Asked × Answer) → D → Seen → Type 0
Chain view sound d s [] e t = (e ≡ d) × (t ≡ s)
Chain {D} view sound d s (x ∷ xs) e t = (mid : D) × (between : Seen) × Applies view sound d s x.0 x.1 mid between × Chain view sound mid between xs e t
