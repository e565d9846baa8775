-- What a clerk answers to a message.
use Rattle.std.specs.Prelude.{◌≡◌, None, Ok, Err}
use Rattle.ebs_world.specs.View.{View as DiskView}
use Rattle.ebs_model.specs.Limits.{bad_member}
use Rattle.ebs_model.specs.declared.keys.Moment.{Moment}
use Rattle.ebs_model.specs.declared.request.Call.{Call}
use Rattle.ebs_model.specs.declared.answer.Answer.{Answer}
use Rattle.ebs_model.specs.declared.answer.Answer.TheVariants.{Refused, Memory}
use Rattle.ebs_model.specs.declared.answer.Refusal.{Refusal}
use Rattle.ebs_http.specs.declared.message.Message.{Message}
use Rattle.ebs_rest.specs.CallOf.{call_of}
use Rattle.ebs_recovery.specs.inner.Fits.{Seen}
use Rattle.ebs_turns.specs.declared.seats.View.{View}
use Rattle.ebs_turns.specs.Known.{IsSame}
use Rattle.ebs_desk.specs.declared.shelf.Shelf.{Shelf}
use Rattle.ebs_desk.specs.declared.item.Item.{Item}
use Rattle.ebs_desk.specs.declared.desk.Receipt.{Receipt}
use Rattle.ebs_desk.specs.Calls.{Called}
use Rattle.ebs_session.specs.Session.{Replying}

-- the answer to a message, by what the pass knew before and knows after it
pub data IsAnswered {D : Type 0} (sound : Type 0) (view : D → DiskView) (first : Shelf Seen D) (v : View (Shelf Seen D) (Item D)) (message : Message) (reading : Moment) (answer : Answer) (w : View (Shelf Seen D) (Item D)) : Type 0 where
  -- it makes no call, and is answered by its refusal
  refused : (refusal : Refusal) → call_of message ≡ Err refusal → answer ≡ Refused refusal → w ≡ v → IsAnswered sound view first v message reading answer w
  -- memory was wanting to read it
  starved : answer ≡ Memory → w ≡ v → IsAnswered sound view first v message reading answer w
  -- it makes a call, which took a turn at the desk or was told that there are none any more
  called : (call : Call) (receipt : Receipt) → call_of message ≡ Ok call → bad_member call.request ≡ None → receipt.answer ≡ answer
      → IsSame v w → Called sound view first v call.account reading call.request receipt w → IsAnswered sound view first v message reading answer w

-- so it is over what a pass knows alone
abbrev pub answers : {D : Type 0} → Type 0 → (D → DiskView) → Shelf Seen D → Replying (Unit {0}) (View (Shelf Seen D) (Item D))
answers sound view first before v message reading answer after w = IsAnswered sound view first v message reading answer w
