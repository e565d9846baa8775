-- In which order a call's tests refuse it: a list a call, of which the first test that stands is the answer. The tests stand
-- over fields of the request and of rows.
use Rattle.std.specs.Prelude.{◌≡◌, ◌≢◌, ℕ, ◌+◌, ◌*◌, ◌^◌, Bool, true, false, not, ◌&&◌, ◌||◌, ◌==◌, cond, nat_eq, nat_le, nat_lt, is_some, List, [], ◌∷◌, ◌++◌, length, codes}
use Rattle.std.specs.Cmp.Lexicographic.{pointwise}
use Rattle.std.specs.List.{list_any, count_by}
use Rattle.std.specs.FinMap as fin
use Rattle.sha2.specs.Sha256.{sha256}
use Rattle.std.specs.declared.option.Option.{Option}
use Rattle.std.specs.declared.option.Option.TheVariants.{None, Some}
use Rattle.ebs_model.specs.declared.keys.SnapKey.{SnapKey}
use Rattle.ebs_model.specs.declared.keys.Moment.{Moment}
use Rattle.ebs_model.specs.declared.rows.Line.{Line}
use Rattle.ebs_model.specs.declared.tags.Tag.{Tag}
use Rattle.ebs_model.specs.declared.rows.SnapRow.{SnapRow}
use Rattle.ebs_model.specs.declared.rows.TokenRow.{TokenRow}
use Rattle.ebs_model.specs.declared.keys.TokenKey.{TokenKey}
use Rattle.ebs_model.specs.declared.rows.Tier.{Tier}
use Rattle.ebs_model.specs.declared.rows.Tier.TheVariants.{Standard, Archived, Temporary}
use Rattle.ebs_model.specs.declared.request.Request.TheVariants.{StartSnapshot, PutSnapshotBlock, CompleteSnapshot, ListSnapshotBlocks, ListChangedBlocks, GetSnapshotBlock}
use Rattle.ebs_model.specs.declared.answer.Answer.{Answer}
use Rattle.ebs_model.specs.declared.answer.Answer.TheVariants.{Refused}
use Rattle.ebs_model.specs.declared.answer.Kind.TheVariants.{Snapshot as snapshot}
use Rattle.ebs_model.specs.declared.answer.StateName.TheVariants as state
use Rattle.ebs_model.specs.declared.answer.QuotaName.TheVariants.{Snapshots, ClientTokens, Ids}
use Rattle.ebs_model.specs.declared.answer.Spent.TheVariants.{Changes}
use Rattle.ebs_model.specs.declared.answer.Refusal.{Refusal}
use Rattle.ebs_model.specs.declared.answer.Refusal.TheVariants.{BadParameter, BadSize, TokenConflict, OpenUploads, Quota, BadIndex, BadBlockToken, BadPageToken, WrongState, Unrelated, Checksum, NotFound, NotOwner, Exhausted}
use Rattle.ebs_model.specs.Limits.{is_description, are_tags, is_token_given}
use Rattle.ebs_model.specs.Calls.Start.{is_same_start, first_key}
use Rattle.ebs_model.specs.Tokens.{is_block_token, page_start}
use Rattle.ebs_model.specs.Time.{Snapshot}
use Rattle.ebs_model.specs.Machine.{Machine, advance}
use Rattle.ebs_model.specs.Step.{step}
use Rattle.ebs_laws.specs.Words.{moment_at, next_number, use_of}
use Rattle.ebs_laws.specs.FieldLaws.{digests_at}

abbrev pub Tests : Type 0
Tests = List (Bool × Refusal)

-- the first test that stands
abbrev pub first_of : Tests → Option Refusal
first_of [] = None
first_of (t ∷ tests) = cond t.0 (Some t.1) (first_of tests)

-- the call is refused by it, or by nothing
abbrev pub IsRefusedBy : Option Refusal → Answer → Type 0
IsRefusedBy None answer = (r : Refusal) → answer ≢ Refused r
IsRefusedBy (Some r) answer = answer ≡ Refused r

abbrev pub is_in_bin : Option Moment → ℕ → Bool
is_in_bin None now = false
is_in_bin (Some end) now = nat_lt now end.second

abbrev pub is_tier_read : Tier → ℕ → Bool
is_tier_read Standard now = true
is_tier_read Archived now = false
is_tier_read (Temporary until) now = nat_lt now until.second

-- the minutes after the last put are over
abbrev pub is_late : SnapRow → ℕ → Bool
is_late row now = nat_le (row.last.second + 60 * row.timeout) now

-- in the bin; or another's, and not shown to the caller, not completed or in a tier that isn't read
abbrev pub is_unknown : ℕ → SnapKey → ℕ → SnapRow → Bool
is_unknown account key now row =
    is_in_bin row.bin_end now || (not (account == key.account) && not ((row.public || list_any (λ a. a == account) row.shared) && (row.completed && is_tier_read row.tier now)))

-- what a reader is refused by: it may not know of the snapshot; it isn't completed; it is archived
abbrev pub reader_tests : ℕ → SnapKey → ℕ → SnapRow → Tests
reader_tests account key now row =
    (is_unknown account key now row, NotFound snapshot)
    ∷ (not row.completed, WrongState (cond (is_late row now) state.Error state.Pending))
    ∷ (not (is_tier_read row.tier now), WrongState state.Archived)
    ∷ []

-- what a writer is refused by: it may not know of the snapshot; it isn't the owner; the upload isn't open
abbrev pub writer_tests : ℕ → SnapKey → ℕ → SnapRow → Tests
writer_tests account key now row =
    (is_unknown account key now row, NotFound snapshot)
    ∷ (not (account == key.account), NotOwner)
    ∷ (row.completed || is_late row now, WrongState (cond row.completed state.Completed state.Error))
    ∷ []

-- no row with this key
abbrev pub not_there : Tests
not_there = (true, NotFound snapshot) ∷ []

-- GetSnapshotBlock: the row, then the token, then the index
abbrev pub get_tests : Machine → ℕ → ℕ → SnapKey → ℕ → List ℕ → Option Snapshot → Tests
get_tests m account now key index token None = (not (nat_lt index (10 ^ 10)), BadParameter (codes "blockIndex")) ∷ not_there
get_tests m account now key index token (Some s) =
    (not (nat_lt index (10 ^ 10)), BadParameter (codes "blockIndex"))
    ∷ (reader_tests account key now s.row
    ++ ((not (is_block_token m.secret key index now token), BadBlockToken)
    ∷ (not (is_some (fin.get s.array index)), BadIndex)
    ∷ []))

abbrev pub GetIsRefusedInOrder : Type 0
GetIsRefusedInOrder =
    (m : Machine) (account : ℕ) (reading : Moment) (key : SnapKey) (index : ℕ) (token : List ℕ) → let now = moment_at m reading in
    IsRefusedBy (first_of (get_tests m account now.second key index token (fin.get (advance m now).snaps key))) (step m account reading (GetSnapshotBlock key index token)).1

-- PutSnapshotBlock: the digest, then the row, then the index, then the store's changes
abbrev pub put_row_tests : Machine → ℕ → ℕ → SnapKey → ℕ → Option Snapshot → Tests
put_row_tests m account now key index None = not_there
put_row_tests m account now key index (Some s) = writer_tests account key now s.row ++ ((nat_le (2048 * s.row.size) index, BadIndex) ∷ (nat_le (2 ^ 40) m.changes, Exhausted Changes) ∷ [])

abbrev pub put_tests : Machine → ℕ → ℕ → SnapKey → ℕ → List ℕ → List ℕ → Option Snapshot → Tests
put_tests m account now key index digest bytes found =
    (not (nat_lt index (10 ^ 10)), BadParameter (codes "blockIndex"))
    ∷ (not (length bytes == 524288), BadParameter (codes "body"))
    ∷ (not (pointwise nat_eq digest (sha256 bytes)), Checksum digest (sha256 bytes))
    ∷ put_row_tests m account now key index found

abbrev pub PutIsRefusedInOrder : Type 0
PutIsRefusedInOrder =
    (m : Machine) (account : ℕ) (reading : Moment) (key : SnapKey) (index : ℕ) (digest bytes : List ℕ) → let now = moment_at m reading in
    IsRefusedBy (first_of (put_tests m account now.second key index digest bytes (fin.get (advance m now).snaps key))) (step m account reading (PutSnapshotBlock key index digest bytes)).1

-- CompleteSnapshot: the row, then the count of blocks, then their checksum, then the store's changes
abbrev pub sum_tests : Option (List ℕ) → List ℕ → Tests
sum_tests None found = []
sum_tests (Some stated) found = (not (pointwise nat_eq stated found), Checksum stated found) ∷ []

abbrev pub complete_tests : Machine → ℕ → ℕ → SnapKey → ℕ → Option (List ℕ) → Option Snapshot → Tests
complete_tests m account now key count checksum None = (not (nat_lt count (10 ^ 10)), BadParameter (codes "x-amz-ChangedBlocksCount")) ∷ not_there
complete_tests m account now key count checksum (Some s) =
    (not (nat_lt count (10 ^ 10)), BadParameter (codes "x-amz-ChangedBlocksCount"))
    ∷ (writer_tests account key now s.row
    ++ ((not (fin.len s.row.put == count), BadParameter (codes "x-amz-ChangedBlocksCount"))
    ∷ (sum_tests checksum (sha256 (digests_at s.array (fin.keys s.row.put))) ++ ((nat_le (2 ^ 40) m.changes, Exhausted Changes) ∷ []))))

abbrev pub CompleteIsRefusedInOrder : Type 0
CompleteIsRefusedInOrder =
    (m : Machine) (account : ℕ) (reading : Moment) (key : SnapKey) (count : ℕ) (checksum : Option (List ℕ)) → let now = moment_at m reading in
    IsRefusedBy (first_of (complete_tests m account now.second key count checksum (fin.get (advance m now).snaps key))) (step m account reading (CompleteSnapshot key count checksum)).1

-- a page token that isn't this list's own, or whose time is up
abbrev pub page_tests : Machine → Bool → SnapKey → SnapKey → ℕ → Option (List ℕ) → Tests
page_tests m changed first second now None = []
page_tests m changed first second now (Some token) = (not (is_some (page_start m.secret changed first second now token)), BadPageToken) ∷ []

-- what both lists are refused by at once
abbrev pub paging_tests : ℕ → ℕ → Tests → Tests
paging_tests most start tests =
    (not (nat_le 100 most && nat_le most 10000), BadParameter (codes "maxResults"))
    ∷ (not (nat_lt start (10 ^ 10)), BadParameter (codes "startingBlockIndex"))
    ∷ tests

-- ListSnapshotBlocks: the row, then the page token
abbrev pub list_tests : Machine → ℕ → ℕ → SnapKey → Option (List ℕ) → Option Snapshot → Tests
list_tests m account now key page None = not_there
list_tests m account now key page (Some s) = reader_tests account key now s.row ++ page_tests m false key key now page

abbrev pub ListIsRefusedInOrder : Type 0
ListIsRefusedInOrder =
    (m : Machine) (account : ℕ) (reading : Moment) (key : SnapKey) (page : Option (List ℕ)) (most start : ℕ) → let now = moment_at m reading in
    IsRefusedBy (first_of (paging_tests most start (list_tests m account now.second key page (fin.get (advance m now).snaps key)))) (step m account reading (ListSnapshotBlocks key page most start)).1

-- ListChangedBlocks: the first row, then the second, both for the caller, then the page token, then the lines
abbrev pub is_one_line : Line → Line → Bool
is_one_line a b = cond a.of_volume b.of_volume (not b.of_volume) && ((a.account == b.account) && (a.number == b.number))

abbrev pub second_tests : Machine → ℕ → ℕ → SnapKey → SnapKey → Option (List ℕ) → Snapshot → Option Snapshot → Tests
second_tests m account now first second page a None = not_there
second_tests m account now first second page a (Some b) = reader_tests account second now b.row ++ (page_tests m true first second now page ++ ((not (is_one_line a.row.line b.row.line), Unrelated) ∷ []))

abbrev pub compare_tests : Machine → ℕ → ℕ → SnapKey → SnapKey → Option (List ℕ) → Option Snapshot → Option Snapshot → Tests
compare_tests m account now first second page None found = not_there
compare_tests m account now first second page (Some a) found = reader_tests account first now a.row ++ second_tests m account now first second page a found

abbrev pub ComparisonIsRefusedInOrder : Type 0
ComparisonIsRefusedInOrder =
    (m : Machine) (account : ℕ) (reading : Moment) (first second : SnapKey) (page : Option (List ℕ)) (most start : ℕ) → let now = moment_at m reading in let snaps = (advance m now).snaps in
    IsRefusedBy (first_of (paging_tests most start (compare_tests m account now.second first second page (fin.get snaps first) (fin.get snaps second)))) (step m account reading (ListChangedBlocks first second page most start)).1

-- StartSnapshot: the size, then whether another call was given with the client token before, which alone decides where one was; then the
-- parent's row, then a size below the parent's, then what the account has of its own, then the store's changes
abbrev pub is_restored : Tier → Bool
is_restored Standard = false
is_restored Archived = false
is_restored (Temporary until) = true

abbrev pub room_tests : Machine → ℕ → Option (List ℕ) → Tests
room_tests m account token =
    (nat_le 100 (count_by (λ e. (e.0.account == account) && (not e.1.row.completed && nat_lt m.clock.second (e.1.row.last.second + 60 * e.1.row.timeout))) (fin.entries m.snaps)), OpenUploads)
    ∷ (nat_le 10000 (count_by (λ e. e.0.account == account) (fin.entries m.snaps)), Quota Snapshots 10000)
    ∷ (is_some token && nat_le 65536 (count_by (λ (e : TokenKey × TokenRow). account == e.0.account) (fin.entries m.tokens)), Quota ClientTokens 65536)
    ∷ (nat_le (2 ^ 28) (next_number m account), Quota Ids (2 ^ 28))
    ∷ (nat_le (2 ^ 40) m.changes, Exhausted Changes)
    ∷ []

abbrev pub found_tests : Machine → ℕ → Option (List ℕ) → ℕ → SnapKey → Option Snapshot → Tests
found_tests m account token size parent None = not_there
found_tests m account token size parent (Some s) =
    (reader_tests account parent m.clock.second s.row ++ ((is_restored s.row.tier, WrongState state.Temporary) ∷ []))
    ++ ((nat_lt size s.row.size, BadSize) ∷ room_tests m account token)

abbrev pub parent_tests : Machine → ℕ → Option (List ℕ) → ℕ → Option SnapKey → Tests
parent_tests m account token size None = room_tests m account token
parent_tests m account token size (Some parent) = found_tests m account token size parent (fin.get m.snaps parent)

abbrev pub token_tests : Machine → ℕ → ℕ → Option SnapKey → Option (List ℕ) → List Tag → Option (List ℕ) → ℕ → Option TokenRow → Tests
token_tests m account size parent text tags token timeout None = parent_tests m account token size parent
token_tests m account size parent text tags token timeout (Some row) =
    (not (is_same_start row.first size parent text tags timeout), TokenConflict (first_key account row)) ∷ []

abbrev pub start_tests : Machine → ℕ → ℕ → Option SnapKey → Option (List ℕ) → List Tag → Option (List ℕ) → ℕ → Tests
start_tests m account size parent text tags token timeout =
    (not (is_description text), BadParameter (codes "Description"))
    ∷ (not (are_tags tags), BadParameter (codes "Tags"))
    ∷ (not (is_token_given token), BadParameter (codes "ClientToken"))
    ∷ (not (nat_le 10 timeout && nat_le timeout 4320), BadParameter (codes "Timeout"))
    ∷ (not (nat_le 1 size && nat_le size 16384), BadSize)
    ∷ token_tests m account size parent text tags token timeout (use_of m account token)

abbrev pub StartIsRefusedInOrder : Type 0
StartIsRefusedInOrder =
    (m : Machine) (account : ℕ) (reading : Moment) (size : ℕ) (parent : Option SnapKey) (text : Option (List ℕ)) (tags : List Tag) (token : Option (List ℕ)) (timeout : ℕ)
    → IsRefusedBy (first_of (start_tests (advance m (moment_at m reading)) account size parent text tags token timeout)) (step m account reading (StartSnapshot size parent text tags token timeout)).1
