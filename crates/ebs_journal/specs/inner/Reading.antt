-- What the parts of an opening read, and why they refuse.
use Rattle.std.specs.Prelude.{ℕ, ◌∷◌, ◌≡◌, ◌+◌, ◌++◌, ◌^◌, ◌≤◌, true, Some, ◌-◌, ◌<◌, ◌⊎◌, List, length, not}
use Rattle.std.specs.Int.{w32, to_be_bytes, w64}
use Rattle.ebs_world.specs.Image.{Spells, Image}
use Rattle.ebs_model.specs.Quotas.{Rose}
use Rattle.ebs_world.specs.View.{View}
use Rattle.ebs_journal.specs.declared.front.Front.{Front}
use Rattle.ebs_journal.specs.declared.reading.Ahead.{Ahead}
use Rattle.ebs_journal.specs.declared.refusal.JournalRefusal.{JournalRefusal}
use Rattle.ebs_journal.specs.declared.refusal.JournalRefusal.TheVariants.{DiskFailed, NotMade, NotAJournal, BadVersion, BadLength, Memory}
use Rattle.ebs_journal.specs.declared.front.Found.{Found}
use Rattle.ebs_journal.specs.Format.{entries, AllRecords}
use Rattle.ebs_journal.specs.Opening.{front_of, counted, has_magic, IsMade, IsBadRecord, is_open}
use Rattle.ebs_journal.specs.inner.Format.{places_from}
use Rattle.ebs_journal.specs.inner.Areas.{other}

-- a gate and the four bytes behind it
abbrev pub IsAhead : (ℕ → ℕ) → ℕ → Ahead → Type 0
IsAhead f at ahead = Spells f at (ahead.gate ∷ to_be_bytes w32 ahead.length)

-- a front and the bytes of its numbers
pub record IsFront (f : ℕ → ℕ) (front : Front) : Type 0 where
  pub is : front ≡ front_of f
  pub nine : Spells f 0 front.nine
  pub numbers : Spells f 9 (to_be_bytes w32 front.version ++ (to_be_bytes w64 front.epoch ++ to_be_bytes w64 front.length))

-- the area that counts can be followed
pub record IsFound (c : Image) (found : Found) : Type 0 where
  pub made : IsMade c
  pub counts : counted c ≡ Some found.area
  pub front : IsFront (c found.area) found.front
  pub magic : has_magic found.front ≡ true
  pub version : found.front.version ≡ 1
  pub length_fits : found.front.length ≤ 2 ^ 40
  pub shut : found.shut ≡ not (is_open (front_of (c (other found.area))))

-- a refusal: of the disk only where its count rose, of memory freely, and else where P holds of it
abbrev pub Refuses : View → View → (JournalRefusal → Type 0) → JournalRefusal → Type 0
Refuses old new P DiskFailed = Rose old.faults new.faults
Refuses old new P Memory = Unit {0}
Refuses old new P NotMade = P NotMade
Refuses old new P (NotAJournal nine) = P (NotAJournal nine)
Refuses old new P (BadVersion n) = P (BadVersion n)
Refuses old new P (BadLength place) = P (BadLength place)

-- a refusal of what was read, of which P holds
abbrev pub Judges : (JournalRefusal → Type 0) → JournalRefusal → Type 0
Judges P DiskFailed = ⊥
Judges P Memory = ⊥
Judges P NotMade = P NotMade
Judges P (NotAJournal nine) = P (NotAJournal nine)
Judges P (BadVersion n) = P (BadVersion n)
Judges P (BadLength place) = P (BadLength place)

-- none
abbrev pub IsNo : JournalRefusal → Type 0
IsNo refusal = ⊥

-- the length behind the gate is none that a record has, or its record ends too late
abbrev pub IsTooLong : ℕ → ℕ → Type 0
IsTooLong gate n = (n ≡ 0) ⊎ (1048576 < n) ⊎ (2 ^ 62 - 2 ^ 21 < gate + 5 + n)

abbrev pub IsEntryRefusal : ℕ → ℕ → JournalRefusal → Type 0
IsEntryRefusal gate n refusal = (refusal ≡ BadLength gate) × IsTooLong gate n

-- the places and the lengths of records that were read
pub record IsSized (first : ℕ) (rs : List (List ℕ)) (places : List ℕ) (gate : ℕ) : Type 0 where
  pub ends : gate ≡ first + length (entries rs)
  pub records : AllRecords rs
  pub places_are : places ≡ places_from first rs
  pub within : gate ≤ 2 ^ 62 - 2 ^ 21

abbrev pub IsRecordsRefusal : (ℕ → ℕ) → ℕ → JournalRefusal → Type 0
IsRecordsRefusal f first refusal = (place : ℕ) × (refusal ≡ BadLength place) × IsBadRecord f first place
