-- Beside what is promised: what a check of a store's blocks tells.
use Rattle.std.specs.Prelude.{ℕ, Bool, false, List, Result, Ok, Err}
use Rattle.ebs_slots.specs.declared.refusal.ReadRefusal.{ReadRefusal}
use Rattle.ebs_slots.specs.declared.refusal.ReadRefusal.TheVariants as refusals
use Rattle.ebs_disk_store.specs.declared.store.Stop.{Stop}
use Rattle.ebs_disk_store.specs.declared.store.Stop.TheVariants.{Unavailable, Memory}

-- whether what was read by a digest is damaged, where the digest is one that is kept
abbrev pub judged : Result (List ℕ) ReadRefusal → Bool → Result Bool Stop
judged (Ok bytes) is_kept = Ok false
judged (Err (refusals.Damaged stored found)) is_kept = Ok is_kept
judged (Err refusals.DiskFailed) is_kept = Err Unavailable
judged (Err refusals.Memory) is_kept = Err Memory
