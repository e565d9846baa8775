-- The places of a journal, and what an opening finds there by what a read gives.
use Rattle.std.specs.Prelude.{◌≢◌, ℕ, zero, suc, ◌+◌, List, [], ◌∷◌, length, Bool, nat_eq, get_or, drop, not, ◌&&◌, ◌||◌, nat_lt, Some, None, cond, Option, ◌≡◌, ◌<◌, ◌-◌, ◌^◌, ◌⊎◌, ◌≤◌, true, false}
use Rattle.std.specs.Int.{w32, w64, from_be_bytes, to_be_bytes}
use Rattle.std.specs.Cmp.Lexicographic.{pointwise}
use Rattle.ebs_world.specs.declared.area.Area.{Area}
use Rattle.ebs_world.specs.declared.area.Area.TheVariants.{Journal0, Journal1, Archive}
use Rattle.ebs_world.specs.Image.{Places, IsOutside, Image, Spells}
use Rattle.ebs_journal.specs.declared.front.Front.{Front}
use Rattle.ebs_journal.specs.declared.refusal.JournalRefusal.{JournalRefusal}
use Rattle.ebs_journal.specs.declared.refusal.JournalRefusal.TheVariants.{DiskFailed, NotMade, NotAJournal, BadVersion, BadLength, Memory}
use Rattle.ebs_journal.specs.Format.{magic, entries, AllRecords, open_head, IsShort, Has}

-- all that isn't a journal's
abbrev pub OffJournal : Places
OffJournal a i = (a ≢ Journal0) × (a ≢ Journal1)

-- all that isn't a journal's, but for the mark
abbrev pub OffMaking : Places
OffMaking a i = OffJournal a i × IsOutside Archive 0 1 a i

-- the n bytes from a place on
abbrev pub bytes_at : (ℕ → ℕ) → ℕ → ℕ → List ℕ
bytes_at f at zero = []
bytes_at f at (suc n) = f at ∷ bytes_at f (at + 1) n

-- an area's first nine bytes, which are its gate and its magic, and the numbers behind them
unfoldable pub front_of : (ℕ → ℕ) → Front
front_of f = record {
  nine = bytes_at f 0 9;
  version = from_be_bytes w32 (bytes_at f 9 4);
  epoch = from_be_bytes w64 (bytes_at f 13 8);
  length = from_be_bytes w64 (bytes_at f 21 8);
}

abbrev pub is_open : Front → Bool
is_open front = nat_eq (get_or front.nine 0 0) 1

abbrev pub has_magic : Front → Bool
has_magic front = pointwise nat_eq (drop 1 front.nine) magic

-- the second area counts, and not the first: it is open, and the first isn't; or both are open, the first has the magic, and
-- the second lacks it or has the greater epoch
unfoldable pub second_counts : Front → Front → Bool
second_counts first second = is_open second && (not (is_open first) || (has_magic first && (not (has_magic second) || nat_lt first.epoch second.epoch)))

-- the area that counts, where one is open
unfoldable pub counted_of : Front → Front → Option Area
counted_of first second = cond (is_open first || is_open second) (Some (cond (second_counts first second) Journal1 Journal0)) None

abbrev pub counted : Image → Option Area
counted c = counted_of (front_of (c Journal0)) (front_of (c Journal1))

-- the mark isn't zero
abbrev pub IsMade : Image → Type 0
IsMade c = c Archive 0 ≢ 0

-- the area that counts, with its front
pub record Counts (c : Image) (area : Area) (front : Front) : Type 0 where
  pub made : IsMade c
  pub counts : counted c ≡ Some area
  pub front_is : front ≡ front_of (c area)

-- these records stand from a gate on, each behind an open gate, and the next gate is at `end`
pub record Runs (f : ℕ → ℕ) (at : ℕ) (rs : List (List ℕ)) (end : ℕ) : Type 0 where
  pub spelled : Spells f at (entries rs)
  pub ends : end ≡ at + length (entries rs)
  pub records : AllRecords rs

-- the length behind an open gate is none that a record has, or its record ends too late
pub record IsBadLength (f : ℕ → ℕ) (gate : ℕ) : Type 0 where
  pub is_open : f gate ≡ 1
  pub n : ℕ
  pub small : n < 2 ^ 32
  pub length_is : Spells f (gate + 1) (to_be_bytes w32 n)
  pub bad : (n ≡ 0) ⊎ (1048576 < n) ⊎ (2 ^ 62 - 2 ^ 21 < gate + 5 + n)

-- the first record that isn't one is behind the gate at this place
pub record IsBadRecord (f : ℕ → ℕ) (first place : ℕ) : Type 0 where
  pub before : List (List ℕ)
  pub runs : Runs f first before place
  pub within : place ≤ 2 ^ 62 - 2 ^ 21
  pub bad : IsBadLength f place

-- a refusal comes exactly where this holds
abbrev pub IsRefused : Image → JournalRefusal → Type 0
IsRefused c DiskFailed = Unit {0}
IsRefused c Memory = Unit {0}
IsRefused c NotMade = c Archive 0 ≡ 0
IsRefused c (NotAJournal nine) =
    (IsMade c × (counted c ≡ None) × (nine ≡ (front_of (c Journal0)).nine))
    ⊎ ((area : Area) × (front : Front) × Counts c area front × (has_magic front ≡ false) × (nine ≡ front.nine))
IsRefused c (BadVersion n) = (area : Area) × (front : Front) × Counts c area front × (has_magic front ≡ true) × (n ≡ front.version) × (n ≢ 1)
IsRefused c (BadLength place) = (area : Area) × (front : Front) × Counts c area front × (has_magic front ≡ true) × (front.version ≡ 1)
    × (((place ≡ 21) × (2 ^ 40 < front.length)) ⊎ ((front.length ≤ 2 ^ 40) × IsBadRecord (c area) (29 + front.length) place))

-- an image is a journal of this epoch, with this checkpoint and these records
pub record IsJournal (c : Image) (area : Area) (epoch : ℕ) (checkpoint : List ℕ) (rs : List (List ℕ)) : Type 0 where
  pub made : IsMade c
  pub counts : counted c ≡ Some area
  pub short : IsShort epoch checkpoint rs
  pub has : Has (c area) (open_head epoch checkpoint) rs
