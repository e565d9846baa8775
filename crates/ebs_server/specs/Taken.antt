-- The turns that a connection's pass took.
use Rattle.std.specs.Prelude.{◌≡◌, ℕ, ◌++◌, Ok, Err, List, [], ◌∷◌}
use Rattle.std.specs.declared.snapshot.Snapshot.{Snapshot}
use Rattle.ebs_model.specs.declared.request.Request.{Request}
use Rattle.ebs_model.specs.declared.request.Call.{Call}
use Rattle.ebs_model.specs.declared.answer.Answer.TheVariants.{Refused, Memory}
use Rattle.ebs_model.specs.declared.answer.Refusal.{Refusal}
use Rattle.ebs_model.specs.declared.answer.Refusal.TheVariants.{Unavailable, Exhausted}
use Rattle.ebs_model.specs.declared.answer.Spent.TheVariants.{Turns}
use Rattle.ebs_exchanges.specs.Exchanges.{Exchange}
use Rattle.ebs_rest.specs.CallOf.{call_of}
use Rattle.ebs_turns.specs.declared.line.Turn.{Turn}
use Rattle.ebs_turns.specs.declared.line.Deed.TheVariants.{Takes, Spends}
use Rattle.ebs_disk_store.specs.declared.heads.PutHead.{PutHead}
use Rattle.ebs_disk_store.specs.declared.loading.Loaded.{Loaded}
use Rattle.ebs_disk_store.specs.inner.Fetched.{answer_of}
use Rattle.ebs_disk_store.specs.inner.Puts.{with_bytes}
use Rattle.ebs_desk.specs.Calls.{turn_of, turn_with}
use Rattle.ebs_desk.specs.declared.item.Item.{Item}
use Rattle.ebs_desk.specs.declared.item.Item.TheVariants.{Entry, Fault, Staged, Blank}

-- the exchange's message is the put of this block
pub record Puts (x : Exchange) (block : List ℕ) : Type 0 where
  pub call : Call
  pub head : PutHead
  pub is : call_of x.message ≡ Ok call
  pub put : call.request ≡ with_bytes head block

module _ {D : Type 0} where
  -- the item of the turn that an exchange took: its call at its moment with its answer, or that the disk failed, or that memory was wanting
  pub data Tells (x : Exchange) (item : Item D) : Type 0 where
    entered : (call : Call) (asked : Snapshot Request) (said : Snapshot Loaded) → call_of x.message ≡ Ok call → asked.value ≡ call.request → answer_of said.value ≡ x.answer
        → item ≡ Entry call.account (record { second = x.reading }) asked said → Tells x item
    failed : (before after : Snapshot D) → x.answer ≡ Refused Unavailable → item ≡ Fault before after → Tells x item
    wanted : x.answer ≡ Memory → item ≡ Blank → Tells x item

  -- an exchange took one turn; or two, where it is a put whose block was staged in a turn of its own; or none, where its message makes no call, memory was wanting to read it, or no turns are left
  pub data Took (number : ℕ) (x : Exchange) (turns : List (Turn (Item D))) : Type 0 where
    one : (item : Item D) → Tells x item → turns ≡ turn_of number item ∷ [] → Took number x turns
    two : (block : Snapshot (List ℕ)) (slot : ℕ) (item : Item D) → Puts x block.value → Tells x item → turns ≡ turn_with number (Staged block) (Takes slot) ∷ turn_with number item (Spends slot) ∷ [] → Took number x turns
    refused : (refusal : Refusal) → call_of x.message ≡ Err refusal → x.answer ≡ Refused refusal → turns ≡ [] → Took number x turns
    starved : x.answer ≡ Memory → turns ≡ [] → Took number x turns
    ended : x.answer ≡ Refused (Exhausted Turns) → turns ≡ [] → Took number x turns

  -- each took its own, one behind the other
  abbrev pub TookEach : ℕ → List Exchange → List (Turn (Item D)) → Type 0
  TookEach number [] turns = turns ≡ []
  TookEach number (x ∷ xs) turns = (first : List (Turn (Item D))) × (rest : List (Turn (Item D))) × (turns ≡ first ++ rest) × Took number x first × TookEach number xs rest
