-- What was written is read back byte for byte, of snapshots and of volumes, whatever runs and stops of the program lie between.
use Rattle.std.specs.Prelude.{◌≡◌, ◌⊎◌, Err, List, [], ◌∷◌, Ok, ℕ, Option, Some, true, None, Bool, ◌++◌, codes}
use Rattle.std.specs.List.{Contains}
use Rattle.sha2.specs.Sha256.{sha256}
use Rattle.ebs_model.specs.Machine.{Machine}
use Rattle.ebs_model.specs.declared.request.Call.{Call}
use Rattle.ebs_model.specs.declared.answer.Answer.TheVariants.{Refused, Memory, BlockWritten, Started, VolumeShown, SnapshotShown, PolicyRan}
use Rattle.ebs_model.specs.declared.answer.Refusal.{Refusal}
use Rattle.ebs_model.specs.declared.answer.Refusal.TheVariants.{Unavailable}
use Rattle.ebs_model.specs.declared.keys.SnapKey.{SnapKey}
use Rattle.ebs_model.specs.declared.keys.VolKey.{VolKey}
use Rattle.ebs_model.specs.declared.keys.PolicyKey.{PolicyKey}
use Rattle.ebs_rest.specs.CallOf.{call_of}
use Rattle.ebs_exchanges.specs.Exchanges.{Exchange}
use Rattle.ebs_model.specs.declared.keys.AnyKey.{AnyKey}
use Rattle.ebs_model.specs.declared.keys.AnyKey.TheVariants as any
use Rattle.ebs_model.specs.declared.keys.Moment.{Moment}
use Rattle.ebs_model.specs.declared.tags.Tag.{Tag}
use Rattle.ebs_model.specs.declared.views.SnapView.{SnapView}
use Rattle.ebs_model.specs.declared.request.Request.{Request}
use Rattle.ebs_model.specs.declared.request.Request.TheVariants.{PutSnapshotBlock, WriteVolumeBlock, StartSnapshot, CreateVolume, CreateSnapshot, RunPolicy, DescribeSnapshot, GetSnapshotBlock, ReadVolumeBlock}
use Rattle.ebs_model.specs.declared.answer.Answer.{Answer}
use Rattle.ebs_model.specs.declared.answer.FirstKey.{FirstKey}
use Rattle.ebs_model.specs.declared.answer.FirstKey.TheVariants.{Snap, Vol}
use Rattle.ebs_http.specs.declared.message.Message.{Message}
use Rattle.ebs_exchanges.specs.Lives.{Event, exchanged, commanded, lost, lost_command}
use Rattle.ebs_model.specs.Timed.{Timed, after_all, IsIn, made_id}
use Rattle.ebs_print.specs.Printed.{text_of, block_text, zeros, zero_digest}

-- memory was wanting for the message, the disk failed, or it makes no call
abbrev pub IsLeftOut : Exchange → Type 0
IsLeftOut x = (x.answer ≡ Memory) ⊎ ((x.answer ≡ Refused Unavailable) ⊎ ((refusal : Refusal) × (call_of x.message ≡ Err refusal)))

-- these are the calls of the exchanges in their order, each at its reading, but for those that are left out
abbrev pub Makes : List Exchange → List Timed → Type 0
Makes [] turns = turns ≡ []
Makes (x ∷ xs) turns =
    (IsLeftOut x × Makes xs turns)
    ⊎ ((call : Call) × (later : List Timed) × (call_of x.message ≡ Ok call) × (turns ≡ record { call = call; reading = record { second = x.reading } } ∷ later) × Makes xs later)

-- the machine is where these calls bring it
abbrev pub IsRunFrom : Machine → List Exchange → Machine → Type 0
IsRunFrom old exchanges new = (turns : List Timed) × Makes exchanges turns × (new ≡ after_all old turns)

-- a call was made, and was answered so
abbrev pub Tells : Event → Call → Answer → Type 0
Tells (exchanged x) call answer = (call_of x.message ≡ Ok call) × (x.answer ≡ answer)
Tells (commanded x) call answer = (x.call ≡ call) × (x.answer ≡ answer)
Tells e call answer = ⊥

-- the change of a call was recorded, and nobody was told of it
abbrev pub Loses : Event → Call → Type 0
Loses (lost m second) call = call_of m ≡ Ok call
Loses (lost_command made second) call = made ≡ call
Loses e call = ⊥

-- whoever the caller is
abbrev pub call_by : ℕ → Request → Call
call_by account request = record { account = account; request = request }

abbrev pub Answers : Event → Request → Answer → Type 0
Answers e request answer = (account : ℕ) × Tells e (call_by account request) answer

-- the call that puts a block into a snapshot's upload, or writes one of a volume
abbrev pub put_call : FirstKey → ℕ → List ℕ → List ℕ → Request
put_call (Snap key) index digest bytes = PutSnapshotBlock key index digest bytes
put_call (Vol key) index digest bytes = WriteVolumeBlock key index digest bytes

-- a put of these bytes at an index of a snapshot, or a write of a volume, was accepted
pub record Puts (e : Event) (key : FirstKey) (index : ℕ) (bytes : List ℕ) : Type 0 where
  pub digest : List ℕ
  pub stated : List ℕ
  pub answers : Answers e (put_call key index digest bytes) (BlockWritten stated)

-- an upload with this parent was started under this key
pub record Starts (e : Event) (parent key : SnapKey) : Type 0 where
  pub size : ℕ
  pub description : Option (List ℕ)
  pub tags : List Tag
  pub token : Option (List ℕ)
  pub timeout : ℕ
  pub told : Option (List ℕ)
  pub owner : ℕ
  pub from : Option SnapKey
  pub begin : Moment
  pub shown : List Tag
  pub gib : ℕ
  pub answers : Answers e (StartSnapshot size (Some parent) description tags token timeout) (Started told owner from key begin shown gib)

-- a volume of this snapshot was created under this key
pub record Creates (e : Event) (origin : SnapKey) (key : VolKey) : Type 0 where
  pub size : Option ℕ
  pub tags : List Tag
  pub token : Option (List ℕ)
  pub gib : ℕ
  pub from : Option SnapKey
  pub shown : List Tag
  pub answers : Answers e (CreateVolume (Some origin) size tags token) (VolumeShown true gib from shown key)

-- a volume without an origin was created under this key
pub record CreatesEmpty (e : Event) (key : VolKey) : Type 0 where
  pub size : Option ℕ
  pub tags : List Tag
  pub token : Option (List ℕ)
  pub gib : ℕ
  pub from : Option SnapKey
  pub shown : List Tag
  pub answers : Answers e (CreateVolume None size tags token) (VolumeShown true gib from shown key)

-- a snapshot of this volume was made under this key
pub record Snaps (e : Event) (volume : VolKey) (key : SnapKey) : Type 0 where
  pub description : Option (List ℕ)
  pub tags : List Tag
  pub row : SnapView
  pub answers : Answers e (CreateSnapshot volume description tags) (SnapshotShown true row)
  pub key_is : row.key ≡ key

-- a run of a policy made a snapshot under this key
pub record RunMakes (e : Event) (key : SnapKey) : Type 0 where
  pub policy : PolicyKey
  pub deleted : List AnyKey
  pub made : List AnyKey
  pub answers : Answers e (RunPolicy policy) (PolicyRan deleted made)
  pub is_made : IsIn made (any.Snap key)

-- a snapshot was shown, as one of this volume
pub record ShowsOf (e : Event) (volume : VolKey) (key : SnapKey) : Type 0 where
  pub created : Bool
  pub row : SnapView
  pub answers : Answers e (DescribeSnapshot key) (SnapshotShown created row)
  pub of : row.volume ≡ Some volume

-- what begins with the blocks of another: an upload with its parent's, a volume with a snapshot's, a snapshot with a volume's
abbrev pub BeginsFrom : Event → FirstKey → FirstKey → Type 0
BeginsFrom e (Snap parent) (Snap key) = Starts e parent key
BeginsFrom e (Snap origin) (Vol key) = Creates e origin key
BeginsFrom e (Vol volume) (Snap key) = Snaps e volume key
BeginsFrom e (Vol volume) (Vol key) = ⊥

-- the message asks for it, whoever the caller is
abbrev pub Asks : Message → Request → Type 0
Asks m request = (account : ℕ) × (call_of m ≡ Ok (call_by account request))

-- a get at an index of a snapshot, or a read of a volume, is asked for
abbrev pub AsksRead : Message → FirstKey → ℕ → Type 0
AsksRead m (Snap key) index = (token : List ℕ) × Asks m (GetSnapshotBlock key index token)
AsksRead m (Vol key) index = Asks m (ReadVolumeBlock key index)

-- and was answered by status 200
pub record Gets (x : Exchange) (key : FirstKey) (index : ℕ) : Type 0 where
  pub asks : AsksRead x.message key index
  pub rest : List ℕ
  pub is_ok : text_of x.answer ≡ codes "HTTP/1.1 200 OK" ++ rest

-- the text of its answer has these bytes as its body, and their SHA-256 in its head
abbrev pub GivesBack : Exchange → List ℕ → Type 0
GivesBack x bytes = text_of x.answer ≡ block_text (sha256 bytes) bytes

-- none of these is an accepted put there, nor a put whose change may have been recorded though nobody was told of it
pub record NoPut (key : FirstKey) (index : ℕ) (es : List Event) : Type 0 where
  pub told : (e : Event) (bytes : List ℕ) → Contains es e → Puts e key index bytes → ⊥
  pub untold : (e : Event) (account : ℕ) (digest bytes : List ℕ) → Contains es e → Loses e (call_by account (put_call key index digest bytes)) → ⊥

-- the client token of a start or of a creation of a volume
abbrev pub token_of : Request → Option (List ℕ)
token_of (StartSnapshot size parent description tags token timeout) = token
token_of (CreateVolume origin size tags token) = token
token_of request = None

-- both calls are of one account and have one client token
pub record ShareToken (a b : Call) : Type 0 where
  pub account_is : a.account ≡ b.account
  pub token : List ℕ
  pub first : token_of a.request ≡ Some token
  pub second : token_of b.request ≡ Some token

-- a call whose answer has this id makes it: no earlier one is answered by it as a new one, and none was recorded untold with the
-- client token of this one, which would be its repeat, and answered by what that one made
pub record IsFirst (e : Event) (key : FirstKey) (before : List Event) : Type 0 where
  pub told : (f : Event) (call : Call) (answer : Answer) → Contains before f → Tells f call answer → made_id answer ≡ Some key → ⊥
  pub untold : (f : Event) (call mine : Call) (answer : Answer) → Contains before f → Loses f call → Tells e mine answer → ShareToken call mine → ⊥

-- these are the bytes that were put last at an index of a snapshot or of a volume; of what begins with the blocks of another they
-- are those that the other had when it was first made, until a put there. A run of a policy answers the ids of what it made and no volume, so what it made is of the volume that a later answer shows
pub data LastPut : List Event → FirstKey → ℕ → List ℕ → Type 0 where
  put : (es before after : List Event) (e : Event) (key : FirstKey) (index : ℕ) (bytes : List ℕ)
      → es ≡ before ++ e ∷ after → Puts e key index bytes → NoPut key index after → LastPut es key index bytes
  inherited : (es before after : List Event) (e : Event) (source key : FirstKey) (index : ℕ) (bytes : List ℕ)
      → es ≡ before ++ e ∷ after → LastPut before source index bytes → BeginsFrom e source key → IsFirst e key before → NoPut key index after → LastPut es key index bytes
  ran : (es before between after : List Event) (e shown : Event) (volume : VolKey) (key : SnapKey) (index : ℕ) (bytes : List ℕ)
      → es ≡ before ++ e ∷ (between ++ shown ∷ after) → LastPut before (Vol volume) index bytes → RunMakes e key → ShowsOf shown volume key → NoPut (Snap key) index (between ++ shown ∷ after) → LastPut es (Snap key) index bytes

-- nobody wrote this block of a volume that was created without an origin
pub record IsUnwritten (es : List Event) (key : VolKey) (index : ℕ) : Type 0 where
  pub before : List Event
  pub after : List Event
  pub e : Event
  pub is : es ≡ before ++ e ∷ after
  pub creates : CreatesEmpty e key
  pub first : IsFirst e (Vol key) before
  pub no_write : NoPut (Vol key) index after

-- each get or read that is answered by status 200 gives the bytes that were put last
abbrev pub ReadsLastPut : List Event → Type 0
ReadsLastPut es = (before after : List Event) (x : Exchange) (key : FirstKey) (index : ℕ) (bytes : List ℕ)
    → es ≡ before ++ exchanged x ∷ after → LastPut before key index bytes → Gets x key index → GivesBack x bytes

-- and where nobody wrote, zeros
abbrev pub ReadsZeros : List Event → Type 0
ReadsZeros es = (before after : List Event) (x : Exchange) (key : VolKey) (index : ℕ)
    → es ≡ before ++ exchanged x ∷ after → IsUnwritten before key index → Gets x (Vol key) index → text_of x.answer ≡ block_text zero_digest zeros

abbrev pub ReadsBack : List Event → Type 0
ReadsBack es = ReadsLastPut es × ReadsZeros es
