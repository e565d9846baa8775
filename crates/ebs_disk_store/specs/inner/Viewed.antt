-- What a call that changes nothing tells.
use Rattle.std.specs.Prelude.{◌≡◌, ℕ, Result, Ok, Err}
use Rattle.ebs_model.specs.declared.keys.Moment.{Moment}
use Rattle.ebs_model.specs.declared.request.Request.{Request}
use Rattle.ebs_model.specs.declared.request.Request.TheVariants.{ListSnapshotBlocks, ListChangedBlocks, DescribeSnapshot, DescribeSnapshots, DescribeVolume, GetRule, ListRules, ListBin, GetPolicy}
use Rattle.ebs_model.specs.declared.answer.Answer.{Answer}
use Rattle.ebs_model.specs.declared.answer.Answer.TheVariants as answers
use Rattle.ebs_model.specs.declared.answer.Refusal.{Refusal}
use Rattle.ebs_model.specs.declared.answer.Failure.{Failure}
use Rattle.ebs_model.specs.declared.answer.Failure.TheVariants.{Refused, Memory}
use Rattle.ebs_model.specs.Machine.{Machine, advance}
use Rattle.ebs_disk_store.specs.inner.Told.{at_clock}
use Rattle.ebs_disk_store.specs.inner.Turned.{kept_call}
use Rattle.ebs_kept.specs.inner.Wants.{MayRunOut}
use Rattle.ebs_recovery.specs.inner.Fits.{Seen}

-- rows are shown, or indexes of blocks are listed
abbrev pub IsView : Request → Type 0
IsView (ListSnapshotBlocks key page most start) = Unit {0}
IsView (ListChangedBlocks first second page most start) = Unit {0}
IsView (DescribeSnapshot key) = Unit {0}
IsView (DescribeSnapshots from most) = Unit {0}
IsView (DescribeVolume key) = Unit {0}
IsView (GetRule key) = Unit {0}
IsView ListRules = Unit {0}
IsView (ListBin from most) = Unit {0}
IsView (GetPolicy key) = Unit {0}
IsView request = ⊥

-- what the kept form, which stands at its moment, shows for the request, or why not
abbrev pub Shows : Machine → ℕ → Request → Result Answer Failure → Type 0
Shows at account request (Ok answer) = kept_call at account request ≡ Ok (at, answer)
Shows at account request (Err (Refused refusal)) = kept_call at account request ≡ Err refusal
Shows at account request (Err Memory) = MayRunOut (kept_call at account request)

-- what is shown, or a refusal, moves the clock alone, and want of memory nothing
pub data Viewed (s t : Seen) (account : ℕ) (now : Moment) (request : Request) : Answer → Type 0 where
  shown : (answer : Answer) → kept_call (advance s.recorded now) account request ≡ Ok (advance s.recorded now, answer) → t ≡ at_clock s now → Viewed s t account now request answer
  refused : (refusal : Refusal) → kept_call (advance s.recorded now) account request ≡ Err refusal → t ≡ at_clock s now → Viewed s t account now request (answers.Refused refusal)
  memory : t ≡ s → Viewed s t account now request answers.Memory
