-- The bytes of a journal area.
use Rattle.std.specs.Prelude.{ℕ, List, [], ◌∷◌, ◌++◌, length, ◌≢◌, ◌≤◌, ◌<◌, ◌-◌, ◌^◌}
use Rattle.std.specs.Int.{w32, w64, to_be_bytes}
use Rattle.ebs_world.specs.Image.{Spells}

-- `EBSJRNAL`
abbrev pub magic : List ℕ
magic = 69 ∷ 66 ∷ 83 ∷ 74 ∷ 82 ∷ 78 ∷ 65 ∷ 76 ∷ []

-- what stands behind an area's gate, in front of the first record gate: the magic, version 1, the epoch, and the checkpoint
-- with its length in front
unfoldable pub head_of : ℕ → List ℕ → List ℕ
head_of epoch checkpoint = magic ++ (to_be_bytes w32 1 ++ (to_be_bytes w64 epoch ++ (to_be_bytes w64 (length checkpoint) ++ checkpoint)))

-- the same behind an open gate
abbrev pub open_head : ℕ → List ℕ → List ℕ
open_head epoch checkpoint = 1 ∷ head_of epoch checkpoint

-- what stands behind a record's gate: its length and its bytes
abbrev pub entry : List ℕ → List ℕ
entry r = to_be_bytes w32 (length r) ++ r

-- open gates, each with its record behind it
abbrev pub entries : List (List ℕ) → List ℕ
entries [] = []
entries (r ∷ rs) = (1 ∷ entry r) ++ entries rs

-- the head, these records, and a gate that isn't open
pub record Has (f : ℕ → ℕ) (head : List ℕ) (rs : List (List ℕ)) : Type 0 where
  pub spelled : Spells f 0 (head ++ entries rs)
  pub shut : f (length (head ++ entries rs)) ≢ 1

abbrev pub IsRecord : List ℕ → Type 0
IsRecord r = (1 ≤ length r) × (length r ≤ 1048576)

abbrev pub AllRecords : List (List ℕ) → Type 0
AllRecords [] = Unit {0}
AllRecords (r ∷ rs) = IsRecord r × AllRecords rs

-- each number is within its limits, and the last record ends at or below byte 2^62 - 2^21
pub record IsShort (epoch : ℕ) (checkpoint : List ℕ) (rs : List (List ℕ)) : Type 0 where
  pub epoch_fits : epoch < 2 ^ 64
  pub checkpoint_fits : length checkpoint ≤ 2 ^ 40
  pub records : AllRecords rs
  pub ends : length (open_head epoch checkpoint ++ entries rs) ≤ 2 ^ 62 - 2 ^ 21
