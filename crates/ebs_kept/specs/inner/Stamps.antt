-- Beside what is promised: the stamps of the machine's blocks, and their digests.
use Rattle.std.specs.Prelude.{ℕ, Bool, true, ◌≡◌, ◌⊎◌, ◌==◌, ◌||◌, List, Some, IsSome, is_some, if◌then◌else◌}
use Rattle.std.specs.List.{list_any}
use Rattle.std.specs.Ordering.{nat_cmp}
use Rattle.std.specs.FinMap as map
use Rattle.ebs_model.specs.declared.array.Block.{Block}
use Rattle.ebs_model.specs.Arrays.{WholeArray}
use Rattle.ebs_model.specs.Machine.{Machine}
use Rattle.ebs_model.specs.Rows.{Rows}
use Rattle.ebs_model.specs.inner.Time.{has_blocks}
use Rattle.ebs_lineage.specs.Owned.{Blocks}
use Rattle.ebs_holds.specs.declared.holder.Holder.{Holder}
use Rattle.ebs_kept.specs.Stamps.{Digests, HasDigest}

abbrev pub has_stamp : ℕ → WholeArray → Bool
has_stamp stamp array = list_any (λ e. e.1.stamp == stamp) (map.entries array)

abbrev pub in_snapshots : Machine → ℕ → Bool
in_snapshots m stamp = list_any (λ e. has_stamp stamp e.1.array) (map.entries m.snaps)

abbrev pub in_volumes : Machine → ℕ → Bool
in_volumes m stamp = list_any (λ e. has_stamp stamp e.1) (map.entries m.disks)

-- a block of the machine, in a volume or in an array that time has left, has the stamp
abbrev pub is_live : Machine → ℕ → Bool
is_live m stamp = in_snapshots m stamp || in_volumes m stamp

-- ---- arrays that are shown

-- what a holder has is shown: a snapshot's while it has blocks at the moment, a volume's while it is there
abbrev pub is_shown : ℕ → Rows → Holder → Bool
is_shown now rows h = if h.is_volume then is_some (map.get rows.vols (record { account = h.account; number = h.number })) else has_blocks now (map.get rows.snaps (record { account = h.account; number = h.number }))

-- the stamp of each block of an array is there
abbrev pub HasStamps : Digests → Blocks → Type 0
HasStamps digests blocks = (index : ℕ) (block : Block) → map.get blocks index ≡ Some block → IsSome (map.get digests block.stamp)

-- an array that was looked at, by its node, or one without blocks
abbrev pub IsDone : map.FinMap nat_cmp (Unit {0}) → Blocks → ℕ → Type 0
IsDone done blocks n = (map.contains_key done n ≡ true) ⊎ (blocks ≡ map.empty)

-- these digests, and those of an array: the stamp of each block is there, and what wasn't there before is a block's
pub record AddsBlocks (blocks : Blocks) (old new : Digests) : Type 0 where
  pub grows : (stamp : ℕ) → IsSome (map.get old stamp) → IsSome (map.get new stamp)
  pub there : HasStamps new blocks
  pub only : (stamp : ℕ) (digest : List ℕ) → map.get new stamp ≡ Some digest
      → (map.get old stamp ≡ Some digest) ⊎ ((index : ℕ) × (map.get blocks index ≡ Some (record { stamp = stamp; digest = digest })))

-- a block of the kept form has the stamp
abbrev pub HasBlock : Machine → ℕ → Type 0
HasBlock m stamp = (digest : List ℕ) × HasDigest m stamp digest
