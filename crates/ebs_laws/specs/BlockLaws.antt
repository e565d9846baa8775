-- The bytes that stand at an index of a snapshot, call by call.
use Rattle.std.specs.Prelude.{◌≡◌, ◌⊎◌, ℕ, ◌<◌, List}
use Rattle.std.specs.declared.option.Option.{Option}
use Rattle.std.specs.declared.option.Option.TheVariants.{Some}
use Rattle.sha2.specs.Sha256.{sha256}
use Rattle.ebs_model.specs.declared.keys.SnapKey.{SnapKey}
use Rattle.ebs_model.specs.declared.keys.Moment.{Moment}
use Rattle.ebs_model.specs.declared.tags.Tag.{Tag}
use Rattle.ebs_model.specs.declared.request.Request.{Request}
use Rattle.ebs_model.specs.declared.request.Request.TheVariants.{StartSnapshot, PutSnapshotBlock, GetSnapshotBlock}
use Rattle.ebs_model.specs.declared.answer.Answer.TheVariants.{Started, BlockWritten, BlockRead, Refused}
use Rattle.ebs_model.specs.declared.answer.Refusal.{Refusal}
use Rattle.ebs_model.specs.Rows.{own_of}
use Rattle.ebs_model.specs.Machine.{Machine, rows_of}
use Rattle.ebs_model.specs.Step.{step}
use Rattle.ebs_laws.specs.Words.{IsUnused}
use Rattle.ebs_laws.specs.Puts.{AsksPut, IsAccepted, HoldsBlock}
use Rattle.ebs_laws.specs.Uploads.{NumbersGiven}

-- the snapshot's number was given out, and these bytes stand there, unless the snapshot was taken out or its upload has failed
abbrev pub HasBytes : Machine → SnapKey → ℕ → List ℕ → Type 0
HasBytes m key index bytes = (key.number < (own_of (rows_of m) key.account).next_snap) × (stamp : ℕ) × HoldsBlock m key index (record { stamp = stamp; bytes = bytes })

-- after an accepted put its bytes stand there
abbrev pub PutLeavesBytes : Type 0
PutLeavesBytes =
    (m : Machine) (account : ℕ) (reading : Moment) (key : SnapKey) (index : ℕ) (digest bytes stated : List ℕ)
    → let s = step m account reading (PutSnapshotBlock key index digest bytes) in NumbersGiven m → s.1 ≡ BlockWritten stated → HasBytes s.0 key index bytes

-- and they stand there until another put is accepted at that index
abbrev pub OtherCallKeepsBytes : Type 0
OtherCallKeepsBytes =
    (m : Machine) (account : ℕ) (reading : Moment) (request : Request) (key : SnapKey) (index : ℕ) (bytes : List ℕ)
    → let s = step m account reading request in HasBytes m key index bytes → (AsksPut key index request → IsAccepted s.1 → ⊥) → HasBytes s.0 key index bytes

-- an upload that this call starts has what its parent has
abbrev pub ChildHasBytes : Type 0
ChildHasBytes =
    (m : Machine) (account : ℕ) (reading : Moment) (size : ℕ) (parent : SnapKey) (text : Option (List ℕ)) (tags : List Tag) (token : Option (List ℕ)) (timeout : ℕ)
    (told : Option (List ℕ)) (owner : ℕ) (from : Option SnapKey) (key : SnapKey) (begin : Moment) (shown : List Tag) (gib index : ℕ) (bytes : List ℕ)
    → let s = step m account reading (StartSnapshot size (Some parent) text tags token timeout) in NumbersGiven m → IsUnused m account token → HasBytes m parent index bytes
    → s.1 ≡ Started told owner from key begin shown gib → HasBytes s.0 key index bytes

-- a get answers the bytes that stand there, with their SHA-256, or is refused
abbrev pub GetAnswersBytes : Type 0
GetAnswersBytes =
    (m : Machine) (account : ℕ) (reading : Moment) (key : SnapKey) (index : ℕ) (token bytes : List ℕ) → let s = step m account reading (GetSnapshotBlock key index token) in
    HasBytes m key index bytes → (s.1 ≡ BlockRead (sha256 bytes) bytes) ⊎ ((refusal : Refusal) × (s.1 ≡ Refused refusal))
