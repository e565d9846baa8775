-- What the accepted calls write.
use Rattle.std.proofs.Common.{◌≡◌, ℕ, ◌+◌, List, Option, Some, None, Ok, sym, ap, subst, ◌∙◌, refl, unwrap_or, is_some, ◌*◌, ◌<◌, Bool, true, false, not, ◌==◌, ◌^◌, nat_le, nat_lt, nat_eq, arith}
use Rattle.std.proofs.lemmas.Bool.Decides.{nat_tests}
use Rattle.std.specs.Cmp.Lexicographic.{pointwise, same_text}
use Rattle.ebs_model.specs.declared.answer.Refusal.TheVariants.{Checksum}
use Rattle.ebs_model.specs.Refuse.{refuse_if}
use Rattle.std.specs.FinMap as fin
use Rattle.std.specs.FinMap.{nat_cmp-IsAntisymmetric}
use Rattle.std.specs.Cmp.{nat_cmp_total}
use Rattle.sha2.specs.Sha256.{sha256}
use Rattle.ebs_model.specs.declared.keys.SnapKey.{SnapKey}
use Rattle.ebs_model.specs.declared.keys.Moment.{Moment}
use Rattle.ebs_model.specs.declared.tags.Tag.{Tag}
use Rattle.ebs_model.specs.declared.request.Request.TheVariants.{StartSnapshot, PutSnapshotBlock, CompleteSnapshot, GetSnapshotBlock}
use Rattle.ebs_model.specs.declared.answer.Answer.TheVariants as answer
use Rattle.ebs_model.specs.Arrays.{WholeBlock}
use Rattle.ebs_model.specs.Limits.{has_ten_digits}
use Rattle.ebs_model.specs.Tokens.{is_block_token}
use Rattle.ebs_model.specs.Time.{Snapshot}
use Rattle.ebs_model.specs.Access.{open_upload, ready}
use Rattle.ebs_model.specs.Machine.{Machine, advance, moment_of}
use Rattle.ebs_model.specs.Calls.Start.{started_row}
use Rattle.ebs_model.specs.Calls.Complete.{refuse_checksum}
use Rattle.ebs_model.specs.Step.{step, settled}
use Rattle.ebs_model.specs.inner.Orders.{snaps_total, exact_snaps}
use Rattle.ebs_laws.specs.Puts.{block_in, block_at, WritesOneBlock}
use Rattle.ebs_laws.specs.Uploads.{StartsUpload, CompletesUpload, put, checksum_of}
use Rattle.ebs_laws.proofs.Maps.{get-itself, get-other}
use Rattle.ebs_laws.proofs.Tests.{open-pending, started-pending, both_first}
use Rattle.ebs_laws.specs.Words.{IsUnused}
use Rattle.ebs_laws.proofs.Cases.{Outcome, StartTests, CompleteTests, step-cases}
use Rattle.ebs_laws.proofs.Uses.{unused-later}
use Rattle.ebs_laws.proofs.Origins.{begins-as, at_most}
use Rattle.ebs_laws.proofs.Whole.{own_of, with_snapshot, Origin, with_started, with_use, with_put, completed, call}
use Rattle.ebs_laws.proofs.Acts.{call-whole}
use Rattle.ebs_model.specs.Rows.{no_own}

below : (a b : ℕ) → nat_le b a ≡ false → a < b
below a b e = grind (arith, nat_tests)

pub same_number : (a b : ℕ) → (a == b) ≡ true → a ≡ b
same_number a b e = grind (arith, nat_tests)

pub same_checksum : (checksum : Option (List ℕ)) (stated was : List ℕ) → checksum ≡ Some stated → refuse_checksum checksum was ≡ Ok tt → stated ≡ was
same_checksum None stated was e h = cc
same_checksum (Some other) stated was e h = let same : other ≡ stated = cc in sym same ∙ equal (pointwise nat_eq other was) refl h
  where
    equal : (b : Bool) → pointwise nat_eq other was ≡ b → refuse_if (not b) (Checksum other was) ≡ Ok tt → other ≡ was
    equal true is h = same_text other was (sym is)
    equal false is h = cc

module _ (m : Machine) where
  put-writes : (account : ℕ) (key : SnapKey) (s : Snapshot) (index : ℕ) (bytes : List ℕ) → fin.get m.snaps key ≡ Some s → open_upload account key m.clock.second s.row ≡ Ok tt → nat_le (2048 * s.row.size) index ≡ false → WritesOneBlock m (with_put m key s index bytes) key index bytes
  put-writes account key s index bytes is passes within =
      let block : WholeBlock = record { stamp = m.stamps; bytes = bytes } in
      record {
        found = s;
        was_there = is;
        was_open = open-pending account key m.clock.second s.row passes;
        in_range = below index (2048 * s.row.size) within;
        snapshot = put s m.clock m.stamps index bytes;
        is_there = get-itself snaps_total exact_snaps m.snaps key (put s m.clock m.stamps index bytes);
        block = get-itself nat_cmp_total nat_cmp-IsAntisymmetric s.array index block;
        other_blocks = λ i other. get-other nat_cmp_total nat_cmp-IsAntisymmetric s.array index block i other;
        is_put = ap is_some (get-itself nat_cmp_total nat_cmp-IsAntisymmetric s.row.put index tt);
        other_puts = λ i other. ap is_some (get-other nat_cmp_total nat_cmp-IsAntisymmetric s.row.put index tt i other);
        rest = refl;
        other_snapshots = λ k other. get-other snaps_total exact_snaps m.snaps key _ k other;
        accounts = refl;
        tokens = refl;
        volumes = refl;
        disks = refl;
        rules = refl;
        policies = refl;
      }

  complete-writes : (account : ℕ) (key : SnapKey) (count : ℕ) (checksum : Option (List ℕ)) (s : Snapshot) → fin.get m.snaps key ≡ Some s → open_upload account key m.clock.second s.row ≡ Ok tt → CompleteTests count checksum s → CompletesUpload m (with_snapshot m key (completed s)) key count checksum
  complete-writes account key count checksum s is passes tests = record {
    found = s;
    was_there = is;
    was_open = open-pending account key m.clock.second s.row passes;
    count_is = same_number (fin.len s.row.put) count tests.count_is;
    checksum_is = λ stated e. same_checksum checksum stated (checksum_of s) e tests.checksum_is;
    snapshot = completed s;
    is_there = get-itself snaps_total exact_snaps m.snaps key (completed s);
    blocks = refl;
    no_put = refl;
    is_completed = refl;
    rest = refl;
    other_snapshots = λ k other. get-other snaps_total exact_snaps m.snaps key _ k other;
    accounts = refl;
    tokens = refl;
    volumes = refl;
    disks = refl;
    rules = refl;
    policies = refl;
  }

  start-writes : (account size : ℕ) (parent : Option SnapKey) (description : Option (List ℕ)) (tags : List Tag) (token : Option (List ℕ)) (timeout : ℕ) (from : Origin) → StartTests m account size parent description tags token timeout from
      → let key : SnapKey = record { account = account; number = (own_of m account).next_snap } in
      StartsUpload m (with_use m (with_started m key (started_row m.clock key size parent from.line description tags timeout) from.array) key (StartSnapshot size parent description tags token timeout) token) account parent key
  start-writes account size parent description tags token timeout from tests =
      let key : SnapKey = record { account = account; number = (own_of m account).next_snap } in
      let row = started_row m.clock key size parent from.line description tags timeout in
      record {
        key_is = refl;
        next = ap (λ o. unwrap_or o no_own) (get-itself nat_cmp_total nat_cmp-IsAntisymmetric m.own account (record (own_of m account) { next_snap = key.number + 1 }));
        other_accounts = λ a other. get-other nat_cmp_total nat_cmp-IsAntisymmetric m.own account _ a other;
        snapshot = record { row = row; array = from.array };
        is_there = get-itself snaps_total exact_snaps m.snaps key (record { row = row; array = from.array });
        parent_is = refl;
        begins = begins-as m account key from parent (record { row = row; array = from.array }) tests.begins_with refl refl (at_most size from.size tests.reaches);
        no_put = refl;
        is_open = started-pending description tags token timeout m.clock.second tests.good;
        other_snapshots = λ k other. get-other snaps_total exact_snaps m.snaps key _ k other;
        volumes = refl;
        disks = refl;
        rules = refl;
        policies = refl;
      }

  abbrev Puts : SnapKey → ℕ → List ℕ → List ℕ → Outcome → Type 0
  Puts key index bytes stated d = d.1 ≡ answer.BlockWritten stated → WritesOneBlock m d.0 key index bytes

  abbrev Completes : SnapKey → ℕ → Option (List ℕ) → Outcome → Type 0
  Completes key count checksum d = d.1 ≡ answer.Completed → CompletesUpload m d.0 key count checksum

  abbrev Starts : ℕ → Option SnapKey → Option (List ℕ) → ℕ → Option SnapKey → SnapKey → Moment → List Tag → ℕ → Outcome → Type 0
  Starts account parent told owner from key begin shown gib d = d.1 ≡ answer.Started told owner from key begin shown gib → StartsUpload m d.0 account parent key

  abbrev Reads : SnapKey → ℕ → List ℕ → List ℕ → List ℕ → Outcome → Type 0
  Reads key index token digest bytes d = d.1 ≡ answer.BlockRead digest bytes → (is_block_token m.secret key index m.clock.second token ≡ true) × ((block : WholeBlock) × (block_at m key index ≡ Some block) × (bytes ≡ block.bytes) × (digest ≡ sha256 block.bytes))

pub put-step : (m : Machine) (account : ℕ) (reading : Moment) (key : SnapKey) (index : ℕ) (digest bytes stated : List ℕ) → (step m account reading (PutSnapshotBlock key index digest bytes)).1 ≡ answer.BlockWritten stated → WritesOneBlock (advance m (moment_of m reading)) (step m account reading (PutSnapshotBlock key index digest bytes)).0 key index bytes
put-step m account reading key index digest bytes stated =
    let at = advance m (moment_of m reading) in
    step-cases (Puts at key index bytes stated) m account reading (PutSnapshotBlock key index digest bytes) (λ s is passes tests e. put-writes at account key s index bytes is passes tests.within) (λ refusal e. cc)

abbrev Digests : List ℕ → List ℕ → List ℕ → Outcome → Type 0
Digests digest bytes stated d = d.1 ≡ answer.BlockWritten stated → (digest ≡ sha256 bytes) × (stated ≡ digest)

pub put-digests : (m : Machine) (account : ℕ) (reading : Moment) (key : SnapKey) (index : ℕ) (digest bytes stated : List ℕ) → Digests digest bytes stated (step m account reading (PutSnapshotBlock key index digest bytes))
put-digests m account reading key index digest bytes stated =
    step-cases (Digests digest bytes stated) m account reading (PutSnapshotBlock key index digest bytes) (λ s is passes tests e. (same_text digest (sha256 bytes) (sym tests.digest_is), cc)) (λ refusal e. cc)

pub complete-step : (m : Machine) (account : ℕ) (reading : Moment) (key : SnapKey) (count : ℕ) (checksum : Option (List ℕ)) → (step m account reading (CompleteSnapshot key count checksum)).1 ≡ answer.Completed → CompletesUpload (advance m (moment_of m reading)) (step m account reading (CompleteSnapshot key count checksum)).0 key count checksum
complete-step m account reading key count checksum =
    let at = advance m (moment_of m reading) in
    step-cases (Completes at key count checksum) m account reading (CompleteSnapshot key count checksum) (λ s is passes tests e. complete-writes at account key count checksum s is passes tests) (λ refusal e. cc)

pub start-step : (m : Machine) (account : ℕ) (reading : Moment) (size : ℕ) (parent : Option SnapKey) (text : Option (List ℕ)) (tags : List Tag) (token : Option (List ℕ)) (timeout : ℕ) (told : Option (List ℕ)) (owner : ℕ) (from : Option SnapKey) (key : SnapKey) (begin : Moment) (shown : List Tag) (gib : ℕ) → IsUnused m account token → (step m account reading (StartSnapshot size parent text tags token timeout)).1 ≡ answer.Started told owner from key begin shown gib → StartsUpload (advance m (moment_of m reading)) (step m account reading (StartSnapshot size parent text tags token timeout)).0 account parent key
start-step m account reading size parent text tags token timeout told owner from key begin shown gib unused =
    let at = advance m (moment_of m reading) in
    let given : SnapKey = record { account = account; number = (own_of m account).next_snap } in
    step-cases (Starts at account parent told owner from key begin shown gib) m account reading (StartSnapshot size parent text tags token timeout) (
      λ origin tests e.
          let same : given ≡ key = cc in
          let new = with_use at (with_started at given (started_row at.clock given size parent origin.line text tags timeout) origin.array) given (StartSnapshot size parent text tags token timeout) token in
          subst (λ k. StartsUpload at new account parent k) same (start-writes at account size parent text tags token timeout origin tests),
      λ row tests e. absurd (unused-later m (moment_of m reading) account token row unused tests.used),
    )
    (λ refusal e. cc)

pub read-step : (m : Machine) (account : ℕ) (reading : Moment) (key : SnapKey) (index : ℕ) (token digest bytes : List ℕ) → (step m account reading (GetSnapshotBlock key index token)).1 ≡ answer.BlockRead digest bytes → let at = advance m (moment_of m reading) in (is_block_token m.secret key index at.clock.second token ≡ true) × ((block : WholeBlock) × (block_at at key index ≡ Some block) × (bytes ≡ block.bytes) × (digest ≡ sha256 block.bytes))
read-step m account reading key index token digest bytes =
    let at = advance m (moment_of m reading) in
    step-cases (Reads at key index token digest bytes) m account reading (GetSnapshotBlock key index token)
    (λ s is passes good block there e. (good, (block, ap (λ o. block_in o index) is ∙ there, cc, cc)))
    (λ refusal e. cc)

-- an index that a token can have has at most ten digits
ten_digits : (secret : List ℕ) (key : SnapKey) (index now : ℕ) (token : List ℕ) → is_block_token secret key index now token ≡ true → has_ten_digits index ≡ true
ten_digits secret key index now token good = let small = both_first (nat_lt index (2 ^ 32)) _ good in grind (arith, nat_tests)

answered : (at : Machine) (account : ℕ) (key : SnapKey) (index : ℕ) (token : List ℕ) (s : Snapshot) (block : WholeBlock) → fin.get at.snaps key ≡ Some s → ready account key at.clock.second s.row ≡ Ok tt → is_block_token at.secret key index at.clock.second token ≡ true → fin.get s.array index ≡ Some block → settled at (call at account (GetSnapshotBlock key index token)) ≡ (at, answer.BlockRead (sha256 block.bytes) block.bytes)
answered at account key index token s block is passes good there = let within = ten_digits at.secret key index at.clock.second token good in rw (within, is, passes, good, there) refl

pub ready-step : (m : Machine) (account : ℕ) (reading : Moment) (key : SnapKey) (index : ℕ) (token : List ℕ) (s : Snapshot) (block : WholeBlock) → let at = advance m (moment_of m reading) in fin.get at.snaps key ≡ Some s → ready account key at.clock.second s.row ≡ Ok tt → is_block_token m.secret key index at.clock.second token ≡ true → fin.get s.array index ≡ Some block → step m account reading (GetSnapshotBlock key index token) ≡ (at, answer.BlockRead (sha256 block.bytes) block.bytes)
ready-step m account reading key index token s block is passes good there =
    let at = advance m (moment_of m reading) in
    ap (settled at) (call-whole at account (GetSnapshotBlock key index token)) ∙ answered at account key index token s block is passes good there
