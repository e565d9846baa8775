-- Beside what is promised: what a store on a disk answers to messages.
use Rattle.std.specs.Prelude.{◌≡◌, None, Ok, Err, List, [], ◌∷◌}
use Rattle.ebs_world.specs.View.{View, Leaves}
use Rattle.ebs_model.specs.Limits.{bad_member}
use Rattle.ebs_model.specs.declared.keys.Moment.{Moment}
use Rattle.ebs_model.specs.declared.request.Call.{Call}
use Rattle.ebs_model.specs.declared.answer.Answer.{Answer}
use Rattle.ebs_model.specs.declared.answer.Answer.TheVariants.{Refused, Memory}
use Rattle.ebs_model.specs.declared.answer.Refusal.{Refusal}
use Rattle.ebs_model.specs.declared.answer.Refusal.TheVariants.{Unavailable}
use Rattle.ebs_http.specs.declared.message.Message.{Message}
use Rattle.ebs_rest.specs.CallOf.{call_of}
use Rattle.ebs_recovery.specs.Made.{called}
use Rattle.ebs_disk_store.specs.inner.Applied.{Applied}
use Rattle.ebs_disk_store.specs.inner.Pending.{IsPendingAfter}
use Rattle.ebs_disk_store.specs.inner.Told.{IfSound, RanOffJournalAndOne, at_reading, called_at}
use Rattle.ebs_disk_store.specs.inner.Turned.{MayLeave, OneMoreOrNone, Turn}
use Rattle.ebs_exchanges.specs.Stops.{OwnCall}
use Rattle.ebs_model.specs.Quotas.{Rose}
use Rattle.ebs_recovery.specs.inner.Fits.{Seen}
use Rattle.ebs_session.specs.Session.{Replying}

-- the store applied a call: what is told of it, on any disk and on one that keeps its promises
pub record IsApplied (Still sound : Type 0) (old new : View) (s t : Seen) (call : Call) (reading : Moment) (answer : Answer) : Type 0 where
  pub within : bad_member call.request ≡ None
  pub told : Applied Still (Rose old.faults new.faults) old s t call.account (at_reading s reading) call.request answer
  pub cause : answer ≡ Refused Unavailable → Rose old.faults new.faults
  pub pending : IsPendingAfter s t call.account (at_reading s reading) call.request answer
  pub ran : RanOffJournalAndOne s.slots old new
  pub step : IfSound sound old (Turn old new s t call.account reading call.request answer)
  pub recorded : IfSound sound old (OneMoreOrNone old new s t)
  pub moments : IfSound sound old (Leaves old new (MayLeave (answer ≡ Refused Unavailable) old new s t (called (called_at call.account (at_reading s reading) call.request))))

-- the answer to a message
pub data Served (Still sound : Type 0) (old new : View) (s t : Seen) (message : Message) (reading : Moment) (answer : Answer) : Type 0 where
  -- it makes no call, and is answered by its refusal
  refused : (refusal : Refusal) → call_of message ≡ Err refusal → answer ≡ Refused refusal → Still → t ≡ s → Served Still sound old new s t message reading answer
  -- memory was wanting to read it
  starved : answer ≡ Memory → Still → t ≡ s → Served Still sound old new s t message reading answer
  applied : (call : Call) → call_of message ≡ Ok call → IsApplied Still sound old new s t call reading answer → Served Still sound old new s t message reading answer

-- so it is over a disk, of which its view tells
abbrev pub served_on : Type 0 → {D : Type 0} → (D → View) → Replying Seen D
served_on sound view s disk message reading answer t after = Served (after ≡ disk) sound (view disk) (view after) s t message reading answer

-- ---- calls that a command makes by itself

-- the store applied each of these at its reading, from one state of store and disk to the next, and the last of them ends here
abbrev pub OwnChain : {D : Type 0} → Type 0 → (D → View) → Seen → D → List OwnCall → Seen → D → Type 0
OwnChain sound view s d [] t e = (t ≡ s) × (e ≡ d)
OwnChain {D} sound view s d (x ∷ xs) t e =
    (between : Seen) × (mid : D) × IsApplied (mid ≡ d) sound (view d) (view mid) s between x.call (record { second = x.reading }) x.answer × OwnChain sound view between mid xs t e
