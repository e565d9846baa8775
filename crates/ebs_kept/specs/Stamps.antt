-- The stamps of the machine's blocks, and their digests.
use Rattle.std.specs.Prelude.{ℕ, List, ◌≡◌, Some, IsSome}
use Rattle.std.specs.Ordering.{nat_cmp}
use Rattle.std.specs.FinMap as map
use Rattle.ebs_model.specs.declared.keys.SnapKey.{SnapKey}
use Rattle.ebs_model.specs.declared.keys.VolKey.{VolKey}
use Rattle.ebs_model.specs.Arrays.{WholeBlock}
use Rattle.ebs_model.specs.Machine.{Machine, array_of, disk_of}

-- digests by stamp
abbrev pub Digests : Type 0
Digests = map.FinMap nat_cmp (List ℕ)

-- a block of the kept form, in an array that time has left or in a volume, has the stamp and the digest
pub data HasDigest (m : Machine) (stamp : ℕ) (digest : List ℕ) : Type 0 where
  in_snapshot : (key : SnapKey) (index : ℕ) → map.get (array_of m key) index ≡ Some (record { stamp = stamp; bytes = digest }) → HasDigest m stamp digest
  in_volume : (key : VolKey) (index : ℕ) → map.get (disk_of m key) index ≡ Some (record { stamp = stamp; bytes = digest }) → HasDigest m stamp digest

-- the digests of the kept form's blocks: the stamp of each block is there, and each entry is a block's
pub record AreDigests (m : Machine) (digests : Digests) : Type 0 where
  pub snapshots : (key : SnapKey) (index : ℕ) (block : WholeBlock) → map.get (array_of m key) index ≡ Some block → IsSome (map.get digests block.stamp)
  pub volumes : (key : VolKey) (index : ℕ) (block : WholeBlock) → map.get (disk_of m key) index ≡ Some block → IsSome (map.get digests block.stamp)
  pub held : (stamp : ℕ) (digest : List ℕ) → map.get digests stamp ≡ Some digest → HasDigest m stamp digest
