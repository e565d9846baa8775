-- The token of a listed block reads it.
use Rattle.std.proofs.Common.{◌≡◌, ℕ, ◌+◌, ◌^◌, ◌<◌, ◌≤◌, arith, List, Option, Some, Ok, sym, ap, subst, ◌∙◌, refl, map, take}
use Rattle.std.proofs.lemmas.List.Elements.{All-contains, All-from_recursion}
use Rattle.std.specs.List.{AllByRecursion, Contains}
use Rattle.std.specs.FinMap as fin
use Rattle.sha2.specs.Sha256.{sha256}
use Rattle.ebs_model.specs.declared.keys.SnapKey.{SnapKey}
use Rattle.ebs_model.specs.declared.keys.Moment.{Moment}
use Rattle.ebs_model.specs.declared.entries.BlockEntry.{BlockEntry}
use Rattle.ebs_model.specs.declared.request.Request.{Request}
use Rattle.ebs_model.specs.declared.request.Request.TheVariants.{StartSnapshot, PutSnapshotBlock, CompleteSnapshot, ListSnapshotBlocks, GetSnapshotBlock}
use Rattle.ebs_model.specs.declared.answer.Answer.TheVariants.{BlockList, BlockRead}
use Rattle.ebs_model.specs.Arrays.{WholeBlock, WholeArray}
use Rattle.ebs_model.specs.Tokens.{block_text}
use Rattle.ebs_model.specs.Lists.{from_index}
use Rattle.ebs_model.specs.Time.{Snapshot}
use Rattle.ebs_model.specs.Access.{ready}
use Rattle.ebs_model.specs.Machine.{Machine, advance, moment_of, empty_machine}
use Rattle.ebs_model.specs.Calls.List.{block_life, entry}
use Rattle.ebs_model.specs.Step.{step}
use Rattle.ebs_tokens.proofs.Blocks.{block_token-good}
use Rattle.ebs_model.specs.Timed.{Timed, after_all}
use Rattle.ebs_laws.specs.Puts.{block_in, block_at, IndexesFit}
use Rattle.ebs_laws.proofs.Tests.{ready-completed}
use Rattle.ebs_laws.proofs.Cases.{Outcome, Accepted, step-cases}
use Rattle.ebs_laws.proofs.Others.{others}
use Rattle.ebs_laws.proofs.Clocks.{clock-below}
use Rattle.ebs_laws.proofs.Given.{kept_by_run, numbers-run, numbers-step}
use Rattle.ebs_laws.proofs.Fits.{fits-aged, fits-run, small-index}
use Rattle.ebs_laws.proofs.Writes.{ready-step}
use Rattle.ebs_laws.proofs.Stays.{whole-later}
use Rattle.ebs_laws.proofs.Elements.{all-shown, all-taken, from-found}
use Rattle.ebs_listing.proofs.Ascending.{all-mapped}

abbrev Secret : Machine → Outcome → Type 0
Secret m d = d.0.secret ≡ m.secret

same_secret : (m : Machine) (account : ℕ) (request : Request) → Accepted (Secret m) m account request
same_secret m account (StartSnapshot size parent description tags token timeout) = (λ from tests. refl, λ row tests. refl)
same_secret m account (PutSnapshotBlock key index digest bytes) = λ s is passes tests. refl
same_secret m account (CompleteSnapshot key count checksum) = λ s is passes tests. refl
same_secret m account request = others (Secret m) m account request (λ answer says. refl) (λ key s row answer is same says. refl) (λ key s answer is same says. refl) (λ k row array token answer is says. refl) (λ k row answer there is says. refl) (λ v row text tags is made. refl) (λ v row i digest bytes is asked. refl) (λ command change answer is says. refl) (λ snaps own policies answer is says. refl)

pub secret-stays : (m : Machine) (account : ℕ) (reading : Moment) (request : Request) → (step m account reading request).0.secret ≡ m.secret
secret-stays m account reading request = let at = advance m (moment_of m reading) in step-cases (Secret at) m account reading request (same_secret at account request) (λ refusal. refl)

pub secret-run : (m : Machine) (turns : List Timed) → (after_all m turns).secret ≡ m.secret
secret-run m turns = kept_by_run (λ n. n.secret ≡ m.secret) (λ n t h. secret-stays n t.call.account t.reading t.call.request ∙ h) turns m refl

-- an entry has the token of a block that is there
abbrev pub IsListed : List ℕ → SnapKey → ℕ → WholeArray → BlockEntry → Type 0
IsListed secret key now array e = (block : WholeBlock) × (fin.get array e.index ≡ Some block) × (e.token ≡ block_text secret key e.index (now + block_life))

all-listed : (secret : List ℕ) (key : SnapKey) (now : ℕ) (array : WholeArray) (most index : ℕ) → AllByRecursion (IsListed secret key now array) (map (entry secret key now) (take most (from_index array index)))
all-listed secret key now array most index =
    all-shown (IsListed secret key now array) (entry secret key now) _ (all-taken _ most _ (all-mapped _ _ (λ e there. (e.1, there, refl)) _ (from-found array index)))

-- what a list was made of
record Lists (m : Machine) (answered : Machine) (account : ℕ) (key : SnapKey) (entries : List BlockEntry) (expiry : Moment) : Type 0 where
  snapshot : Snapshot
  is_there : fin.get m.snaps key ≡ Some snapshot
  passes : ready account key m.clock.second snapshot.row ≡ Ok tt
  each : AllByRecursion (IsListed m.secret key m.clock.second snapshot.array) entries
  ends : expiry.second ≡ m.clock.second + block_life
  leaves : answered ≡ m

abbrev Lists_if : Machine → ℕ → SnapKey → List BlockEntry → Moment → Option (List ℕ) → ℕ → Outcome → Type 0
Lists_if m account key entries expiry next size d = d.1 ≡ BlockList entries expiry next size → Lists m d.0 account key entries expiry

list-step : (m : Machine) (account : ℕ) (reading : Moment) (key : SnapKey) (page : Option (List ℕ)) (most start : ℕ) (entries : List BlockEntry) (expiry : Moment) (next : Option (List ℕ)) (size : ℕ)
    → let d = step m account reading (ListSnapshotBlocks key page most start) in d.1 ≡ BlockList entries expiry next size → Lists (advance m (moment_of m reading)) d.0 account key entries expiry
list-step m account reading key page most start entries expiry next size =
    let at = advance m (moment_of m reading) in
    step-cases (Lists_if at account key entries expiry next size) m account reading (ListSnapshotBlocks key page most start)
    (λ s is passes index begun e.
    let same : map (entry m.secret key at.clock.second) (take most (from_index s.array index)) ≡ entries = cc in
    let end : at.clock.second + block_life ≡ expiry.second = cc in
    record {
      snapshot = s;
      is_there = is;
      passes = passes;
      each = subst (λ l. AllByRecursion (IsListed m.secret key at.clock.second s.array) l) same (all-listed m.secret key at.clock.second s.array most index);
      ends = sym end;
      leaves = refl;
    })
    (λ refusal e. cc)

only : {s t : Snapshot} → Some s ≡ Some t → s ≡ t
only e = cc

-- the entry's token, given back at a moment before the expiry
reads : (at later : Machine) (reader : ℕ) (then : Moment) (key : SnapKey) (e : BlockEntry) (old new : Snapshot) → let now = advance later (moment_of later then) in
    IndexesFit at → at.clock.second ≤ 2 ^ 36 → fin.get at.snaps key ≡ Some old → IsListed at.secret key at.clock.second old.array e → now.clock.second < at.clock.second + block_life
    → later.secret ≡ at.secret → fin.get now.snaps key ≡ Some new → new.array ≡ old.array → ready reader key now.clock.second new.row ≡ Ok tt
    → (block : WholeBlock) × (fin.get old.array e.index ≡ Some block) × (step later reader then (GetSnapshotBlock key e.index e.token) ≡ (now, BlockRead (sha256 block.bytes) block.bytes))
reads at later reader then key e old new fit bound was (block, there, token_is) early secret is same passes =
    let now = advance later (moment_of later then) in
    let end = at.clock.second + block_life in
    let small = small-index old e.index block (fit.0 key old was) there in
    let long : end < 2 ^ 64 = omega (arith, bound) in
    let good = (block_token-good later.secret key e.index now.clock.second e.token).1 (small, (end, early, long, token_is ∙ ap (λ s. block_text s key e.index end) (sym secret))) in
    (block, there, ready-step later reader then key e.index e.token new block is passes good (ap (λ (a : WholeArray). fin.get a e.index) same ∙ there))

pub token-reads : (m later : Machine) (account reader : ℕ) (reading then : Moment) (key : SnapKey) (page : Option (List ℕ)) (most start : ℕ)
    (entries : List BlockEntry) (expiry : Moment) (next : Option (List ℕ)) (size : ℕ) (e : BlockEntry) (old new : Snapshot)
    → let before = advance m (moment_of m reading) in let at = advance later (moment_of later then) in
    IndexesFit m → m.clock.second ≤ 2 ^ 36 → (step m account reading (ListSnapshotBlocks key page most start)).1 ≡ BlockList entries expiry next size
    → Contains entries e → at.clock.second < expiry.second → later.secret ≡ m.secret
    → fin.get before.snaps key ≡ Some old → fin.get at.snaps key ≡ Some new → new.array ≡ old.array → ready reader key at.clock.second new.row ≡ Ok tt
    → (block : WholeBlock) × (fin.get old.array e.index ≡ Some block)
    × (step later reader then (GetSnapshotBlock key e.index e.token) ≡ (at, BlockRead (sha256 block.bytes) block.bytes))
token-reads m later account reader reading then key page most start entries expiry next size e old new fit bound listed has early secret was is same passes =
    let before = advance m (moment_of m reading) in
    let lists = list-step m account reading key page most start entries expiry next size listed in
    let it = only (sym lists.is_there ∙ was) in
    let made = IsListed before.secret key before.clock.second lists.snapshot.array in
    let each : made e = All-contains made entries e (All-from_recursion made entries lists.each) has in
    let ends = lists.ends in
    reads before later reader then key e old new (fits-aged m (moment_of m reading) fit) (omega (arith, bound)) was
    (subst (λ (s : Snapshot). IsListed before.secret key before.clock.second s.array e) it each) (omega (arith, early, ends)) secret is same passes

-- the same in a run, where a snapshot that was ready has the same blocks later
pub token-later : (secret : List ℕ) (before after : List Timed) (account reader : ℕ) (reading then : Moment) (request : Request) (key : SnapKey) (e : BlockEntry) (old new : Snapshot)
    → let m = after_all (empty_machine secret) before in let at = advance m (moment_of m reading) in let list = step m account reading request in
    let later = after_all list.0 after in let now = advance later (moment_of later then) in
    list.0 ≡ at → fin.get at.snaps key ≡ Some old → ready account key at.clock.second old.row ≡ Ok tt → IsListed at.secret key at.clock.second old.array e
    → now.clock.second < at.clock.second + block_life → fin.get now.snaps key ≡ Some new → ready reader key now.clock.second new.row ≡ Ok tt
    → (block : WholeBlock) × (block_at list.0 key e.index ≡ Some block) × (step later reader then (GetSnapshotBlock key e.index e.token) ≡ (now, BlockRead (sha256 block.bytes) block.bytes))
token-later secret before after account reader reading then request key e old new leaves was passed made early is passes =
    let m = after_all (empty_machine secret) before in
    let at = advance m (moment_of m reading) in
    let list = step m account reading request in
    let later = after_all list.0 after in
    let there = ap (λ (n : Machine). fin.get n.snaps key) leaves ∙ was in
    let given = numbers-step m account reading request (numbers-run secret before) in
    let bound = clock-below secret before in
    let same = (whole-later list.0 after key old new (moment_of later then) given there (ready-completed account key at.clock.second old.row passed) is).1 in
    let one_secret = secret-run list.0 after ∙ secret-stays m account reading request in
    let (block, found, read) = reads at later reader then key e old new (fits-aged m (moment_of m reading) (fits-run secret before)) (omega (arith, bound)) was made early one_secret is same passes in
    (block, ap (λ o. block_in o e.index) there ∙ found, read)

pub token-runs : (secret : List ℕ) (before after : List Timed) (account reader : ℕ) (reading then : Moment) (key : SnapKey) (page : Option (List ℕ)) (most start : ℕ)
    (entries : List BlockEntry) (expiry : Moment) (next : Option (List ℕ)) (size : ℕ) (e : BlockEntry) (s : Snapshot)
    → let list = step (after_all (empty_machine secret) before) account reading (ListSnapshotBlocks key page most start) in
    let later = after_all list.0 after in let at = advance later (moment_of later then) in
    list.1 ≡ BlockList entries expiry next size → Contains entries e → at.clock.second < expiry.second
    → fin.get at.snaps key ≡ Some s → ready reader key at.clock.second s.row ≡ Ok tt
    → (block : WholeBlock) × (block_at list.0 key e.index ≡ Some block)
    × (step later reader then (GetSnapshotBlock key e.index e.token) ≡ (at, BlockRead (sha256 block.bytes) block.bytes))
token-runs secret before after account reader reading then key page most start entries expiry next size e s listed has early is passes =
    let m = after_all (empty_machine secret) before in
    let at = advance m (moment_of m reading) in
    let lists = list-step m account reading key page most start entries expiry next size listed in
    let made = IsListed at.secret key at.clock.second lists.snapshot.array in
    let each : made e = All-contains made entries e (All-from_recursion made entries lists.each) has in
    let ends = lists.ends in
    token-later secret before after account reader reading then (ListSnapshotBlocks key page most start) key e lists.snapshot s lists.leaves lists.is_there lists.passes each (omega (arith, early, ends)) is passes
