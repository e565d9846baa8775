-- What is under lease stays through a slice.
use Rattle.std.proofs.Common.{◌≡◌, ℕ, inl, inr, Result, Ok, Err, ap}
use Rattle.ebs_model.specs.declared.keys.Moment.{Moment}
use Rattle.ebs_collect.specs.declared.backlog.Progress.{Progress}
use Rattle.ebs_recovery.specs.inner.Fits.{Seen}
use Rattle.ebs_disk_store.specs.declared.collecting.Unavailable.{Unavailable}
use Rattle.ebs_disk_store.specs.inner.Collected.{Sliced}

pub leases_stay : (s t : Seen) (now : Moment) (work : ℕ) (r : Result Progress Unavailable) → Sliced s t now work r → t.slots.leases ≡ s.slots.leases
leases_stay s t now work (Ok progress) told = told.0.slots.leases
leases_stay s t now work (Err unavailable) told = elim told [
  | inl same ↦ ap (λ (x : Seen). x.slots.leases) same
  | inr more ↦ elim more [ inl known ↦ ap (λ (x : Seen). x.slots.leases) known | inr unknown ↦ ap (λ (x : Seen). x.slots.leases) unknown ]
]
