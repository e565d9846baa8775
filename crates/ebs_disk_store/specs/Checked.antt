-- What a check of a store's blocks tells.
use Rattle.std.specs.Prelude.{ℕ, Bool, false, not, List, Option, None, Some, ◌≡◌, ◌≤◌, true}
use Rattle.std.specs.List.{count_by}
use Rattle.std.specs.Str.{bytes_eq}
use Rattle.std.specs.FinMap as fin
use Rattle.sha2.specs.Sha256.{sha256}
use Rattle.ebs_world.specs.Image.{Image}
use Rattle.ebs_world.specs.View.{View}
use Rattle.ebs_kept.specs.Stamps.{Digests, AreDigests}
use Rattle.ebs_recovery.specs.Stands.{bytes_in}
use Rattle.ebs_recovery.specs.Made.{State}
use Rattle.ebs_disk_store.specs.declared.checking.Checked.{Checked}

-- bytes with this SHA-256 aren't those of the digest that is kept, where one is
abbrev pub differs : Option (List ℕ) → List ℕ → Bool
differs None found = false
differs (Some digest) found = not (bytes_eq found digest)

-- the slot of a stamp has bytes with another SHA-256 than the digest that is kept for the stamp
abbrev pub is_damaged : Image → Digests → ℕ × ℕ → Bool
is_damaged c digests e = differs (fin.get digests e.0) (sha256 (bytes_in c (Some e.1)))

-- each stamp that has a slot was counted, and those that are damaged, as they are read
pub record IsChecked (v : View) (s : State) (checked : Checked) : Type 0 where
  pub blocks : checked.blocks ≡ fin.len s.slots
  pub few : checked.damaged ≤ checked.blocks
  -- the digests that the machine keeps
  pub digests : Digests
  pub are_kept : AreDigests s.machine digests
  pub damaged : v.tells ≡ true → checked.damaged ≡ count_by (is_damaged v.reads digests) (fin.entries s.slots)
