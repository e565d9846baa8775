-- Beside what is promised: the exact text of each answer.
use Rattle.std.specs.Prelude.{List, ℕ, [], Bool, true, false}
use Rattle.ebs_model.specs.declared.answer.Answer.{Answer}
use Rattle.ebs_model.specs.declared.answer.Answer.TheVariants.{BlockRead, ZeroBlockRead, Started, Completed, SnapshotShown, VolumeShown, RuleShown, PolicyShown, BlockWritten, Refused, Memory, SnapshotList, Done, LockShown, TierShown, RuleList, PolicyRan}
use Rattle.ebs_print.specs.Printed.{zeros, created_status}

-- the block that ends the text
abbrev pub block_of : Answer → List ℕ
block_of (BlockRead digest bytes) = bytes
block_of ZeroBlockRead = zeros
block_of answer = []

-- the status of an answer whose body is an object, and that is no refusal
abbrev pub status_of : Answer → ℕ
status_of (Started description owner parent key start tags size) = 201
status_of Completed = 202
status_of (SnapshotShown created row) = created_status created
status_of (VolumeShown created size origin tags key) = created_status created
status_of (RuleShown created row) = created_status created
status_of (PolicyShown created key last) = created_status created
status_of answer = 200

abbrev pub shows_object : Answer → Bool
shows_object (BlockWritten digest) = false
shows_object (BlockRead digest bytes) = false
shows_object ZeroBlockRead = false
shows_object (Refused refusal) = false
shows_object Memory = false
shows_object answer = true

-- an answer that shows rows of snapshots, volumes, rules and policies, or that a command on them is done
abbrev pub shows_rows : Answer → Bool
shows_rows (SnapshotShown created row) = true
shows_rows (SnapshotList next shown) = true
shows_rows Done = true
shows_rows (LockShown name until) = true
shows_rows (TierShown until name) = true
shows_rows (VolumeShown created size origin tags key) = true
shows_rows (RuleShown created row) = true
shows_rows (RuleList shown) = true
shows_rows (PolicyShown created key last) = true
shows_rows (PolicyRan deleted made) = true
shows_rows answer = false
