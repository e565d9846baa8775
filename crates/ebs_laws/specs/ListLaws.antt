-- What lists of blocks and changes say, and what their tokens do.
use Rattle.std.specs.Prelude.{◌≡◌, ℕ, ◌^◌, ◌<◌, ◌≤◌, true, List, length, map}
use Rattle.std.specs.List.{Contains, All}
use Rattle.std.specs.FinMap as fin
use Rattle.std.specs.declared.option.Option.{Option}
use Rattle.std.specs.declared.option.Option.TheVariants.{None, Some}
use Rattle.std.specs.declared.result.Result.TheVariants.{Ok}
use Rattle.sha2.specs.Sha256.{sha256}
use Rattle.ebs_model.specs.declared.keys.SnapKey.{SnapKey}
use Rattle.ebs_model.specs.declared.keys.Moment.{Moment}
use Rattle.ebs_model.specs.declared.entries.BlockEntry.{BlockEntry}
use Rattle.ebs_model.specs.declared.entries.ChangedToken.{ChangedToken}
use Rattle.ebs_model.specs.declared.request.Request.{Request}
use Rattle.ebs_model.specs.declared.request.Request.TheVariants.{ListSnapshotBlocks, ListChangedBlocks, GetSnapshotBlock}
use Rattle.ebs_model.specs.declared.answer.Answer.TheVariants.{BlockList, ChangedList, BlockRead}
use Rattle.ebs_model.specs.Arrays.{WholeBlock}
use Rattle.ebs_model.specs.Limits.{is_page_size, has_ten_digits}
use Rattle.ebs_model.specs.Lists.{from_index}
use Rattle.ebs_model.specs.Time.{Snapshot}
use Rattle.ebs_model.specs.Access.{ready}
use Rattle.ebs_model.specs.Machine.{Machine, advance, moment_of, empty_machine}
use Rattle.ebs_model.specs.Calls.List.{is_same_line, entry, changed_entry, differences}
use Rattle.ebs_model.specs.Step.{act, step, settled}
use Rattle.ebs_model.specs.Timed.{Timed, after_all}
use Rattle.ebs_laws.specs.Puts.{block_at, IndexesFit, StampsTell}
use Rattle.ebs_laws.specs.Pages.{block_page, change_page, HasToken, pages_read, Ask, pages_between, IsBlockPage, listed_indexes, patched}
use Rattle.ebs_laws.specs.Uploads.{NumbersGiven}

-- no call changes the secret of the tokens
abbrev pub CallKeepsSecret : Type 0
CallKeepsSecret = (m : Machine) (account : ℕ) (reading : Moment) (request : Request) → (step m account reading request).0.secret ≡ m.secret

-- the token of a listed block reads it before the list's expiry, on any machine with the same secret and the same blocks
abbrev pub ListedTokenReads : Type 0
ListedTokenReads =
    (m later : Machine) (account reader : ℕ) (reading then : Moment) (key : SnapKey) (page : Option (List ℕ)) (most start : ℕ)
    (entries : List BlockEntry) (expiry : Moment) (next : Option (List ℕ)) (size : ℕ) (e : BlockEntry) (old new : Snapshot)
    → let before = advance m (moment_of m reading) in let at = advance later (moment_of later then) in
    IndexesFit m → m.clock.second ≤ 2 ^ 36 → (step m account reading (ListSnapshotBlocks key page most start)).1 ≡ BlockList entries expiry next size
    → Contains entries e → at.clock.second < expiry.second → later.secret ≡ m.secret
    → fin.get before.snaps key ≡ Some old → fin.get at.snaps key ≡ Some new → new.array ≡ old.array → ready reader key at.clock.second new.row ≡ Ok tt
    → (block : WholeBlock) × (fin.get old.array e.index ≡ Some block)
    × (step later reader then (GetSnapshotBlock key e.index e.token) ≡ (at, BlockRead (sha256 block.bytes) block.bytes))

-- in a run, the token of a listed block reads it before the list's expiry, while the reader may read the snapshot
abbrev pub ListedTokenReadsInRun : Type 0
ListedTokenReadsInRun =
    (secret : List ℕ) (before after : List Timed) (account reader : ℕ) (reading then : Moment) (key : SnapKey) (page : Option (List ℕ)) (most start : ℕ)
    (entries : List BlockEntry) (expiry : Moment) (next : Option (List ℕ)) (size : ℕ) (e : BlockEntry) (s : Snapshot)
    → let list = step (after_all (empty_machine secret) before) account reading (ListSnapshotBlocks key page most start) in
    let later = after_all list.0 after in let at = advance later (moment_of later then) in
    list.1 ≡ BlockList entries expiry next size → Contains entries e → at.clock.second < expiry.second
    → fin.get at.snaps key ≡ Some s → ready reader key at.clock.second s.row ≡ Ok tt
    → (block : WholeBlock) × (block_at list.0 key e.index ≡ Some block)
    × (step later reader then (GetSnapshotBlock key e.index e.token) ≡ (at, BlockRead (sha256 block.bytes) block.bytes))

-- and so does each token of a listed change
abbrev pub ChangedTokenReadsInRun : Type 0
ChangedTokenReadsInRun =
    (secret : List ℕ) (before after : List Timed) (account reader : ℕ) (reading then : Moment) (first second : SnapKey) (page : Option (List ℕ)) (most start : ℕ)
    (entries : List ChangedToken) (expiry : Moment) (next : Option (List ℕ)) (size : ℕ) (e : ChangedToken) (key : SnapKey) (token : List ℕ) (s : Snapshot)
    → let list = step (after_all (empty_machine secret) before) account reading (ListChangedBlocks first second page most start) in
    let later = after_all list.0 after in let at = advance later (moment_of later then) in
    list.1 ≡ ChangedList entries expiry next size → Contains entries e → HasToken first second e key token → at.clock.second < expiry.second
    → fin.get at.snaps key ≡ Some s → ready reader key at.clock.second s.row ≡ Ok tt
    → (block : WholeBlock) × (block_at list.0 key e.index ≡ Some block)
    × (step later reader then (GetSnapshotBlock key e.index token) ≡ (at, BlockRead (sha256 block.bytes) block.bytes))

-- the pages of a snapshot's list, asked for at one moment, are together its blocks from the starting index
abbrev pub BlockPagesJoin : Type 0
BlockPagesJoin =
    (m : Machine) (account : ℕ) (reading : Moment) (key : SnapKey) (s : Snapshot) (most start pages : ℕ) → let at = advance m (moment_of m reading) in
    IndexesFit m → m.clock.second ≤ 2 ^ 36 → fin.get at.snaps key ≡ Some s → ready account key at.clock.second s.row ≡ Ok tt
    → is_page_size most ≡ true → has_ten_digits start ≡ true → length (from_index s.array start) ≤ pages
    → pages_read block_page (λ n page. step n account reading (ListSnapshotBlocks key page most start)) pages m None ≡ map (entry m.secret key at.clock.second) (from_index s.array start)

-- and so they are whatever number of at least 1 a page holds at most
abbrev pub AnyBlockPagesJoin : Type 0
AnyBlockPagesJoin =
    (m : Machine) (account : ℕ) (key : SnapKey) (s : Snapshot) (most start pages : ℕ)
    → IndexesFit m → m.clock.second ≤ 2 ^ 36 → fin.get m.snaps key ≡ Some s → ready account key m.clock.second s.row ≡ Ok tt
    → 1 ≤ most → length (from_index s.array start) ≤ pages
    → pages_read block_page (λ n page. settled n (act sha256 n account (ListSnapshotBlocks key page most start))) pages m None ≡ map (entry m.secret key m.clock.second) (from_index s.array start)

-- pages of a completed snapshot's list that are answered have together the indexes of all its blocks from the starting
-- index, whatever is called between them
abbrev pub PagesBetweenJoin : Type 0
PagesBetweenJoin =
    (m : Machine) (account : ℕ) (key : SnapKey) (s : Snapshot) (most start : ℕ) (asks : List Ask) → let answers = pages_between account key most start asks m None in
    NumbersGiven m → IndexesFit m → fin.get m.snaps key ≡ Some s → s.row.completed ≡ true → 1 ≤ most → All IsBlockPage answers → length (from_index s.array start) ≤ length asks
    → listed_indexes answers ≡ map (λ e. e.0) (from_index s.array start)

-- the pages of a list of changes, asked for at one moment, are together the changes from the starting index
abbrev pub ChangePagesJoin : Type 0
ChangePagesJoin =
    (m : Machine) (account : ℕ) (reading : Moment) (first second : SnapKey) (a b : Snapshot) (most start pages : ℕ) → let at = advance m (moment_of m reading) in
    IndexesFit m → m.clock.second ≤ 2 ^ 36 → fin.get at.snaps first ≡ Some a → ready account first at.clock.second a.row ≡ Ok tt
    → fin.get at.snaps second ≡ Some b → ready account second at.clock.second b.row ≡ Ok tt → is_same_line a.row.line b.row.line ≡ true
    → is_page_size most ≡ true → has_ten_digits start ≡ true → length (differences a.array b.array start) ≤ pages
    → pages_read change_page (λ n page. step n account reading (ListChangedBlocks first second page most start)) pages m None ≡ map (changed_entry m.secret first second at.clock.second) (differences a.array b.array start)

-- and so they are whatever number of at least 1 a page holds at most
abbrev pub AnyChangePagesJoin : Type 0
AnyChangePagesJoin =
    (m : Machine) (account : ℕ) (first second : SnapKey) (a b : Snapshot) (most start pages : ℕ)
    → IndexesFit m → m.clock.second ≤ 2 ^ 36 → fin.get m.snaps first ≡ Some a → ready account first m.clock.second a.row ≡ Ok tt
    → fin.get m.snaps second ≡ Some b → ready account second m.clock.second b.row ≡ Ok tt → is_same_line a.row.line b.row.line ≡ true
    → 1 ≤ most → length (differences a.array b.array start) ≤ pages
    → pages_read change_page (λ n page. settled n (act sha256 n account (ListChangedBlocks first second page most start))) pages m None ≡ map (changed_entry m.secret first second m.clock.second) (differences a.array b.array start)

-- the second's blocks are the first's, with those of the list of changes put over them
abbrev pub ChangesMakeSecond : Type 0
ChangesMakeSecond =
    (m : Machine) (first second : SnapKey) (a b : Snapshot) (start index : ℕ) → StampsTell m → fin.get m.snaps first ≡ Some a → fin.get m.snaps second ≡ Some b
    → start ≤ index → fin.get b.array index ≡ patched (differences a.array b.array start) index (fin.get a.array index)
