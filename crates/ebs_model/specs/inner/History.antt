-- The line of turns, and the one history of calls that it tells.
use Rattle.std.specs.Prelude.{ℕ, Bool, Option, None, Some, List, [], ◌∷◌, ◌≡◌, ◌≢◌, ◌+◌, ◌⊎◌, ◌≤◌}
use Rattle.std.specs.FinMap as fin
use Rattle.sha2.specs.Sha256.{sha256}
use Rattle.ebs_model.specs.declared.keys.SnapKey.{SnapKey}
use Rattle.ebs_model.specs.declared.keys.Moment.{Moment}
use Rattle.ebs_model.specs.declared.request.Request.{Request}
use Rattle.ebs_model.specs.declared.request.Request.TheVariants.{StartSnapshot, CreateVolume, GetSnapshotBlock, ReadVolumeBlock}
use Rattle.ebs_model.specs.declared.answer.Answer.{Answer}
use Rattle.ebs_model.specs.declared.answer.Answer.TheVariants.{Refused, BlockRead}
use Rattle.ebs_model.specs.declared.answer.Refusal.TheVariants.{Damaged}
use Rattle.ebs_model.specs.Arrays.{WholeBlock}
use Rattle.ebs_model.specs.Machine.{Machine, advance, moment_of, array_of}
use Rattle.ebs_model.specs.Step.{step}
use Rattle.ebs_model.specs.Quotas.{Rose}

-- a call by one pass through the program, and what it was answered
pub record Entry : Type 0 where
  pub pass : ℕ
  pub account : ℕ
  pub reading : Moment
  pub request : Request
  pub answer : Answer

-- what has its turn. After a tick `left` entries wait in the backlog, after a move so many moves wait, and after a
-- saving there are so many records since the checkpoint. Full is a store whose moves, or else whose checkpoints, are
-- spent; a fault has the disk's counts of faults before it and after it.
pub data Item : Type 0 where
  entry : Entry → Item
  tick : (reading : Moment) (left : ℕ) → Item
  move : (left : ℕ) → Item
  saving : (left : ℕ) → Item
  full : (of_a_move : Bool) → Item
  fault : (pass before after : ℕ) → Item
  blank : Item

-- the snapshot whose blocks a request begins a new array with
abbrev pub begins_from : Request → Option SnapKey
begins_from (StartSnapshot size parent description tags token timeout) = parent
begins_from (CreateVolume origin size tags token) = origin
begins_from request = None

-- such a call stops at a block that is damaged, and then it makes nothing
abbrev pub stopped : Machine → Moment → Machine → Option SnapKey → Answer → Machine
stopped m reading next (Some source) (Refused (Damaged stored found)) = advance m (moment_of m reading)
stopped m reading next source answer = next

abbrev pub after_entry : Machine → Entry → Machine
after_entry m e = stopped m e.reading (step m e.account e.reading e.request).0 (begins_from e.request) e.answer

abbrev pub after_item : Machine → Item → Machine
after_item m (entry e) = after_entry m e
after_item m (tick reading left) = advance m (moment_of m reading)
after_item m item = m

-- the machine after a line
abbrev pub run_line : Machine → List Item → Machine
run_line m [] = m
run_line m (item ∷ line) = run_line (after_item m item) line

-- the calls of a line, in their order; an entry's place is the number of entries before it
abbrev pub history : List Item → List Entry
history [] = []
history (entry e ∷ line) = e ∷ history line
history (item ∷ line) = history line

-- E18 where these bytes were kept, with their SHA-256 and another
abbrev pub IsDamage : List ℕ → Answer → Type 0
IsDamage bytes (Refused (Damaged stored found)) = (stored ≡ sha256 bytes) × (found ≢ stored)
IsDamage bytes answer = ⊥

-- E18 in the place of a block that a read answers
abbrev pub IsReadDamage : Request → Answer → Answer → Type 0
IsReadDamage (GetSnapshotBlock key index token) (BlockRead digest bytes) answer = IsDamage bytes answer
IsReadDamage (ReadVolumeBlock key index) (BlockRead digest bytes) answer = IsDamage bytes answer
IsReadDamage request told answer = ⊥

-- E18 of a block of the array that a call begins with, where it would have been a change
pub record IsSourceDamage (m : Machine) (e : Entry) : Type 0 where
  pub source : SnapKey
  pub begins : begins_from e.request ≡ Some source
  pub index : ℕ
  pub block : WholeBlock
  pub held : fin.get (array_of (advance m (moment_of m e.reading)) source) index ≡ Some block
  pub damage : IsDamage block.bytes e.answer
  pub change : (step m e.account e.reading e.request).0.changes ≡ m.changes + 1

-- the machine's own answer, or damage
abbrev pub IsAnswered : Machine → Entry → Type 0
IsAnswered m e = (e.answer ≡ told) ⊎ IsReadDamage e.request told e.answer ⊎ IsSourceDamage m e
  where
    told : Answer
    told = (step m e.account e.reading e.request).1

abbrev pub IsItem : Machine → Item → Type 0
IsItem m (entry e) = IsAnswered m e
IsItem m item = Unit {0}

-- each entry is answered at its place
abbrev pub AreAnswered : Machine → List Item → Type 0
AreAnswered m [] = Unit {0}
AreAnswered m (item ∷ line) = IsItem m item × AreAnswered (after_item m item) line

-- each fault's count rose, from no less than the fault before it left
abbrev pub AreRising : ℕ → List Item → Type 0
AreRising least [] = Unit {0}
AreRising least (fault pass before after ∷ line) = (least ≤ before) × Rose before after × AreRising after line
AreRising least (item ∷ line) = AreRising least line

pub record IsLegal (m : Machine) (line : List Item) : Type 0 where
  pub answered : AreAnswered m line
  pub rising : AreRising 0 line
