-- The clock, the end of an upload, its checksum and its list.
use Rattle.std.proofs.Common.{◌≡◌, ℕ, ◌+◌, ◌*◌, ◌<◌, ◌≤◌, Bool, true, false, cond, not, nat_le, List, [], ◌∷◌, ◌++◌, map, take, Option, Some, None, sym, ap, ◌∙◌, refl, arith, zero, suc}
use Rattle.std.proofs.lemmas.Bool.Decides.{nat_tests}
use Rattle.std.proofs.lemmas.List.Concat.{flat_map-cons}
use Rattle.std.specs.Prelude.{flat_map}
use Rattle.std.specs.List.{filter}
use Rattle.std.specs.Map.{keys_of}
use Rattle.std.specs.Option.{option_map}
use Rattle.std.specs.FinMap as fin
use Rattle.sha2.specs.Sha256.{sha256}
use Rattle.ebs_model.specs.declared.keys.SnapKey.{SnapKey}
use Rattle.ebs_model.specs.declared.keys.Moment.{Moment}
use Rattle.ebs_model.specs.declared.request.Request.{Request}
use Rattle.ebs_model.specs.declared.request.Request.TheVariants.{PutSnapshotBlock, CompleteSnapshot, ListSnapshotBlocks}
use Rattle.ebs_model.specs.declared.answer.Answer.TheVariants.{BlockWritten, Completed, BlockList}
use Rattle.ebs_model.specs.declared.entries.BlockEntry.{BlockEntry}
use Rattle.ebs_model.specs.Arrays.{WholeBlock, WholeArray, digest_of}
use Rattle.ebs_model.specs.Time.{Snapshot, status_by, is_failed, is_reached, rested}
use Rattle.ebs_model.specs.Lists.{from_index, page_of}
use Rattle.ebs_model.specs.Machine.{Machine, advance}
use Rattle.ebs_model.specs.Calls.List.{entry}
use Rattle.ebs_model.specs.Step.{step}
use Rattle.ebs_model.specs.inner.Orders.{snaps_total, exact_snaps}
use Rattle.ebs_model.proofs.Aged.{aged_row, get-aged, rested-same}
use Rattle.ebs_laws.specs.Uploads.{put, checksum_of}
use Rattle.ebs_laws.specs.Words.{second_of, moment_at, MayRead, MayWrite}
use Rattle.ebs_laws.specs.FieldLaws.{ReadingIsReached, EarlierReadingIsPassed, LateReadingIsCut, LastsSo, PutLastsTimeout, digest_at, digests_at, ChecksumIsOfDigests, ListHasEachBlock}
use Rattle.ebs_laws.proofs.Maps.{get-itself}
use Rattle.ebs_laws.proofs.Cases.{Outcome, step-cases}
use Rattle.ebs_laws.proofs.Clocks.{clock-moment}
use Rattle.ebs_laws.proofs.Readers.{was-there, may-read, may-write}
use Rattle.ebs_laws.proofs.Writes.{same_checksum, same_number}
use Rattle.ebs_laws.proofs.Whole as whole

module _ (m : Machine) (account : ℕ) (reading : Moment) (request : Request) where
  second-is : (step m account reading request).0.clock.second ≡ second_of m reading
  second-is = ap (λ (now : Moment). now.second) (clock-moment m account reading request)

pub is-reached : ReadingIsReached
is-reached m account reading request later bound = let at = second-is m account reading request in omega (arith, at, later, bound)

pub is-passed : EarlierReadingIsPassed
is-passed m account reading request early = let at = second-is m account reading request in omega (arith, at, early)

pub is-cut : LateReadingIsCut
is-cut m account reading request bound late = let at = second-is m account reading request in omega (arith, at, bound, late)

-- what time leaves of an upload outside the bin
early_by : (c : Bool) (x now : ℕ) → now < x → is_failed (status_by c (nat_le x now)) ≡ false
early_by true x now h = refl
early_by false x now h = let e : nat_le x now ≡ false = grind (arith, nat_tests) in ap (λ b. is_failed (status_by false b)) e

late_by : (c : Bool) (x now : ℕ) → c ≡ false → x ≤ now → is_failed (status_by c (nat_le x now)) ≡ true
late_by true x now going h = cc
late_by false x now going h = let e : nat_le x now ≡ true = grind (arith, nat_tests) in ap (λ b. is_failed (status_by false b)) e

module _ (m : Machine) (key : SnapKey) (s : Snapshot) (is : fin.get m.snaps key ≡ Some s) (out : s.row.bin_end ≡ None) (then : Moment) where
  left : aged_row then.second (Some s) ≡ Some (rested then.second s)
  left = ap (λ end. option_map (rested then.second) (cond (not (is_reached end then.second)) (Some s) None)) out

  found-then : fin.get (advance m then).snaps key ≡ Some (rested then.second s)
  found-then = get-aged then.second m.snaps key ∙ ap (aged_row then.second) is ∙ left

  stays-before : is_failed (status_by s.row.completed (nat_le (s.row.last.second + 60 * s.row.timeout) then.second)) ≡ false → fin.get (advance m then).snaps key ≡ Some s
  stays-before e = found-then ∙ ap Some (rested-same then.second s e)

  empty-after : is_failed (status_by s.row.completed (nat_le (s.row.last.second + 60 * s.row.timeout) then.second)) ≡ true → fin.get (advance m then).snaps key ≡ Some (record { row = record s.row { put = fin.empty }; array = fin.empty })
  empty-after e = found-then ∙ (λ i. Some (record { row = record s.row { put = cond (e i) fin.empty s.row.put }; array = cond (e i) fin.empty s.array }))

abbrev Lasts : SnapKey → Moment → List ℕ → Outcome → Type 0
Lasts key now stated d = d.1 ≡ BlockWritten stated → (new : Snapshot) × LastsSo d.0 key now new

pub put-lasts : PutLastsTimeout
put-lasts m account reading key index digest bytes stated =
    let now = moment_at m reading in
    let at = advance m now in
    step-cases (Lasts key now stated) m account reading (PutSnapshotBlock key index digest bytes)
    (λ s is passes tests e.
    let was = was-there m now key s is in
    let (old, may) = may-write m account now key s is passes in
    let one : Some old ≡ Some was.old = sym may.is_there ∙ was.is_there in
    let which : old ≡ was.old = cc in
    let same : old.row.bin_end ≡ s.row.bin_end = ap (λ (s : Snapshot). s.row.bin_end) which ∙ ap (λ (s : Snapshot). s.row.bin_end) was.rests in
    let going : s.row.completed ≡ false = sym (ap (λ (s : Snapshot). s.row.completed) which ∙ ap (λ (s : Snapshot). s.row.completed) was.rests) ∙ may.not_completed in
    let new = put s now at.stamps index bytes in
    let there = get-itself snaps_total exact_snaps at.snaps key new in
    let out : new.row.bin_end ≡ None = sym same ∙ may.not_binned in
    let wrote = whole.with_put at key s index bytes in (
      new,
      record {
        is_there = there;
        last_is = refl;
        not_completed = going;
        before = λ then h. stays-before wrote key new there out then (early_by new.row.completed (now.second + 60 * s.row.timeout) then.second h);
        after = λ then h. empty-after wrote key new there out then (late_by new.row.completed (now.second + 60 * s.row.timeout) then.second going h);
      },
    ))
    (λ refusal e. cc)

-- the digests of a list of indexes
digest-is : (o : Option WholeBlock) → digest_of sha256 o ≡ digest_at o
digest-is None = refl
digest-is (Some block) = refl

pub digests-are : (array : WholeArray) (indexes : List ℕ) → flat_map (λ index. digest_of sha256 (fin.get array index)) indexes ≡ digests_at array indexes
digests-are array [] = refl
digests-are array (index ∷ indexes) =
    flat_map-cons (λ index. digest_of sha256 (fin.get array index)) index indexes
    ∙ (λ i. digest-is (fin.get array index) i ++ digests-are array indexes i)

abbrev Sums : Machine → ℕ → SnapKey → ℕ → ℕ → List ℕ → Outcome → Type 0
Sums m account key now count stated d = d.1 ≡ Completed → (s : Snapshot) × MayWrite m account key now s × (stated ≡ sha256 (digests_at s.array (fin.keys s.row.put))) × (count ≡ fin.len s.row.put)

pub checksum-digests : ChecksumIsOfDigests
checksum-digests m account reading key count stated =
    let now = moment_at m reading in
    step-cases (Sums m account key now.second count stated) m account reading (CompleteSnapshot key count (Some stated))
    (λ s is passes tests e.
    let was = was-there m now key s is in
    let (old, may) = may-write m account now key s is passes in
    let one : Some old ≡ Some was.old = sym may.is_there ∙ was.is_there in
    let which : old ≡ was.old = cc in
    let intime = early_by old.row.completed (old.row.last.second + 60 * old.row.timeout) now.second may.in_time in
    let same : old ≡ s = sym (rested-same now.second old intime) ∙ ap (rested now.second) which ∙ was.rests in
    let sum = same_checksum (Some stated) stated (checksum_of s) refl tests.checksum_is ∙ ap sha256 (digests-are s.array (fin.keys s.row.put)) in
    let count_is = sym (same_number (fin.len s.row.put) count tests.count_is) in
    (old, may, sum ∙ ap (λ (s : Snapshot). sha256 (digests_at s.array (fin.keys s.row.put))) (sym same), count_is ∙ ap (λ (s : Snapshot). fin.len s.row.put) (sym same)))
    (λ refusal e. cc)

-- the indexes of a page
module _ (secret : List ℕ) (key : SnapKey) (now : ℕ) where
  page-indexes : (most : ℕ) (es : List (ℕ × WholeBlock)) → map (λ e. e.index) (map (entry secret key now) (take most es)) ≡ take most (map (λ e. e.0) es)
  page-indexes zero es = refl
  page-indexes (suc most) [] = refl
  page-indexes (suc most) (e ∷ es) = ap (λ l. e.0 ∷ l) (page-indexes most es)

  from-keys : (start : ℕ) (es : List (ℕ × WholeBlock)) → map (λ e. e.0) (filter (λ e. nat_le start e.0) es) ≡ filter (λ index. nat_le start index) (keys_of es)
  from-keys start [] = refl
  from-keys start (e ∷ es) = elim (nat_le start e.0) as (λ b. map (λ (e : ℕ × WholeBlock). e.0) (cond b (e ∷ filter (λ e. nat_le start e.0) es) (filter (λ e. nat_le start e.0) es)) ≡ cond b (e.0 ∷ filter (λ index. nat_le start index) (keys_of es)) (filter (λ index. nat_le start index) (keys_of es))) [
    | true ↦ ap (λ l. e.0 ∷ l) (from-keys start es)
    | false ↦ from-keys start es
  ]

abbrev ListsEach : Machine → ℕ → SnapKey → ℕ → ℕ → ℕ → List BlockEntry → Moment → Option (List ℕ) → ℕ → Outcome → Type 0
ListsEach m account key now most start entries expiry next size d = d.1 ≡ BlockList entries expiry next size → (s : Snapshot) × MayRead m account key now s
    × (map (λ e. e.index) entries ≡ take most (filter (λ index. nat_le start index) (fin.keys s.array))) × (size ≡ s.row.size) × (expiry.second ≡ now + 604800)

never_fails : (c late : Bool) → c ≡ true → is_failed (status_by c late) ≡ false
never_fails true late e = refl
never_fails false late e = cc

pub list-each : ListHasEachBlock
list-each m account reading key most start entries expiry next size =
    let now = moment_at m reading in
    step-cases (ListsEach m account key now.second most start entries expiry next size) m account reading (ListSnapshotBlocks key None most start)
    (λ s is passes index begun e.
    let was = was-there m now key s is in
    let (old, may) = may-read m account now key s is passes in
    let one : Some old ≡ Some was.old = sym may.is_there ∙ was.is_there in
    let which : old ≡ was.old = cc in
    let same : old ≡ s = sym (rested-same now.second old (never_fails old.row.completed _ may.completed)) ∙ ap (rested now.second) which ∙ was.rests in
    let first : start ≡ index = cc in
    let shown : map (entry m.secret key now.second) (page_of most (from_index s.array index)) ≡ entries = cc in
    let sized : s.row.size ≡ size = cc in
    let ends : record { second = now.second + 604800 } ≡ expiry = cc in (
      old,
      may,
      ap (map (λ (e : BlockEntry). e.index)) (sym shown) ∙ page-indexes m.secret key now.second most (from_index s.array index)
          ∙ ap (take most) (from-keys m.secret key now.second index (fin.entries s.array))
          ∙ (λ i. take most (filter (λ n. nat_le (sym first i) n) (fin.keys (sym same i).array))),
      sym sized ∙ ap (λ (s : Snapshot). s.row.size) (sym same),
      ap (λ (at : Moment). at.second) (sym ends),
    ))
    (λ refusal e. cc)
