-- Beside what is promised: how a journal and its disk stand.
use Rattle.std.specs.Prelude.{◌≡◌, ◌⊎◌, true, ◌≢◌, ℕ, ◌+◌, ◌<◌, ◌≤◌, ◌^◌, Bool, List, ◌++◌, length, [], ◌∷◌, Some, false}
use Rattle.ebs_world.specs.declared.area.Area.{Area}
use Rattle.ebs_world.specs.declared.area.Area.TheVariants.{Archive, Journal0, Journal1}
use Rattle.ebs_world.specs.Image.{Image, Spells, Places, IsOutside, Keeps}
use Rattle.ebs_world.specs.View.{View}
use Rattle.ebs_journal.specs.declared.replay.Replay.{Replay}
use Rattle.ebs_journal.specs.Format.{head_of, open_head, entries, Has, IsShort, AllRecords}
use Rattle.ebs_journal.specs.Opening.{IsJournal, IsMade, counted}
use Rattle.ebs_journal.specs.inner.Areas.{is_journal, other}
use Rattle.ebs_journal.specs.inner.Format.{Staged, places_from}
use Rattle.ebs_journal.specs.inner.Line.{Line}

-- all that is a journal's: its areas and the mark
abbrev pub OnJournal : Places
OnJournal a i = (is_journal a ≡ true) ⊎ ((a ≡ Archive) × (i ≡ 0))

-- all but the first area
abbrev pub OffFirst : Places
OffFirst a i = a ≢ Journal0

-- all but the second area's gate and the mark
abbrev pub OffMarks : Places
OffMarks a i = IsOutside Journal1 0 1 a i × IsOutside Archive 0 1 a i

-- the fronts of both areas, but for this one's gate
abbrev pub OffGate : Area → Places
OffGate area a i = (is_journal a ≡ true) × (i < 29) × IsOutside area 0 1 a i

-- this area counts, whatever byte is the other's gate
abbrev pub Prevails : Image → Area → Type 0
Prevails c area = (d : Image) → Keeps (OffGate (other area)) c d → counted d ≡ Some area

-- the other area doesn't count: its gate is closed, or where that isn't known, this one prevails
abbrev pub IsAside : Bool → Image → Area → Type 0
IsAside true c area = c (other area) 0 ≢ 1
IsAside false c area = Prevails c area

-- the journal writes behind these records
pub record IsBehind (j : Line) (checkpoint : List ℕ) (rs : List (List ℕ)) : Type 0 where
  pub end : j.end ≡ length (open_head j.epoch checkpoint ++ entries rs) + 1
  pub since_checkpoint : j.since_checkpoint ≡ length rs

-- the disk keeps its promises and tells, and each of its images is this journal, which is clean
pub record IsSettled (v : View) (j : Line) (checkpoint : List ℕ) (rs : List (List ℕ)) : Type 0 where
  pub tells : v.tells ≡ true
  pub honest : v.honest ≡ true
  pub clean : j.clean ≡ true
  pub still : j.turning ≡ false
  pub behind : IsBehind j checkpoint rs
  pub images : (c : Image) → v.may_leave c → IsJournal c j.area j.epoch checkpoint rs
  pub aside : (c : Image) → v.may_leave c → IsAside j.shut c j.area

-- an image is this journal, or one with this record besides
abbrev pub IsOrAlso : Image → Line → List ℕ → List (List ℕ) → List ℕ → Type 0
IsOrAlso c j checkpoint rs r = IsJournal c j.area j.epoch checkpoint rs ⊎ IsJournal c j.area j.epoch checkpoint (rs ++ r ∷ [])

-- an image is this journal, or, with its last gate open, has this record besides
pub record IsStaged (c : Image) (area : Area) (epoch : ℕ) (checkpoint : List ℕ) (rs : List (List ℕ)) (r : List ℕ) : Type 0 where
  pub made : IsMade c
  pub counts : counted c ≡ Some area
  pub short : IsShort epoch checkpoint (rs ++ r ∷ [])
  pub staged : Staged (c area) (open_head epoch checkpoint) rs r

-- the gate of one record more isn't known to be open or closed
pub record IsPending (v : View) (j : Line) (checkpoint : List ℕ) (rs : List (List ℕ)) (r : List ℕ) : Type 0 where
  pub tells : v.tells ≡ true
  pub honest : v.honest ≡ true
  pub unclean : j.clean ≡ false
  pub still : j.turning ≡ false
  pub behind : IsBehind j checkpoint rs
  pub images : (c : Image) → v.may_leave c → IsStaged c j.area j.epoch checkpoint rs r
  pub aside : (c : Image) → v.may_leave c → IsAside j.shut c j.area

-- an image is this journal, or one of the next epoch in the other area, with this checkpoint and no record
abbrev pub IsOrNext : Image → Line → List ℕ → List (List ℕ) → List ℕ → Type 0
IsOrNext c j checkpoint rs next = IsJournal c j.area j.epoch checkpoint rs ⊎ IsJournal c (other j.area) (j.epoch + 1) next []

-- an image is this journal, or, with the other area's gate open, that of the next epoch
pub record IsTurned (c : Image) (area : Area) (epoch : ℕ) (checkpoint : List ℕ) (rs : List (List ℕ)) (next : List ℕ) : Type 0 where
  pub made : IsMade c
  pub in_journal : is_journal area ≡ true
  pub short : IsShort epoch checkpoint rs
  pub has : Has (c area) (open_head epoch checkpoint) rs
  pub short_next : IsShort (epoch + 1) next []
  pub behind : Spells (c (other area)) 1 (head_of (epoch + 1) next ++ 0 ∷ [])

-- the gate of the next epoch's area isn't known to be open or closed
pub record IsTurning (v : View) (j : Line) (checkpoint : List ℕ) (rs : List (List ℕ)) (next : List ℕ) : Type 0 where
  pub tells : v.tells ≡ true
  pub honest : v.honest ≡ true
  pub unclean : j.clean ≡ false
  pub turning : j.turning ≡ true
  pub behind : IsBehind j checkpoint rs
  pub images : (c : Image) → v.may_leave c → IsTurned c j.area j.epoch checkpoint rs next

-- what an opening gave is what this image is
pub record IsOpened (c : Image) (j : Line) (replay : Replay) : Type 0 where
  pub journal : IsJournal c j.area j.epoch replay.checkpoint replay.records
  pub clean : j.clean ≡ true
  pub behind : IsBehind j replay.checkpoint replay.records
  pub places : replay.places ≡ places_from (29 + length replay.checkpoint) replay.records
  pub still : j.turning ≡ false
  pub aside : IsAside j.shut c j.area

-- what an opening gave, whatever the disk tells: the places and the lengths of its checkpoint and of its records
pub record IsMeasured (j : Line) (replay : Replay) : Type 0 where
  pub clean : j.clean ≡ true
  pub short : length replay.checkpoint ≤ 2 ^ 40
  pub end : j.end ≡ 30 + length replay.checkpoint + length (entries replay.records)
  pub records : AllRecords replay.records
  pub places : replay.places ≡ places_from (29 + length replay.checkpoint) replay.records
