-- In which order a call's tests refuse it.
use Rattle.std.proofs.Common.{◌≡◌, ℕ, ◌*◌, ◌^◌, Bool, true, false, not, ◌&&◌, ◌||◌, ◌==◌, cond, nat_eq, nat_le, nat_lt, is_some, List, [], ◌∷◌, ◌++◌, length, codes, Option, Some, None, Result, Ok, Err, ap, ◌∙◌, refl}
use Rattle.std.specs.Cmp.Lexicographic.{pointwise}
use Rattle.std.specs.List.{list_any}
use Rattle.std.specs.FinMap as fin
use Rattle.sha2.specs.Sha256.{sha256}
use Rattle.ebs_model.specs.declared.keys.SnapKey.{SnapKey}
use Rattle.ebs_model.specs.declared.keys.Moment.{Moment}
use Rattle.ebs_model.specs.declared.rows.Line.{Line}
use Rattle.ebs_model.specs.declared.rows.SnapRow.{SnapRow}
use Rattle.ebs_model.specs.declared.rows.Tier.{Tier}
use Rattle.ebs_model.specs.declared.rows.Tier.TheVariants.{Standard, Archived, Temporary}
use Rattle.ebs_model.specs.declared.request.Request.{Request}
use Rattle.ebs_model.specs.declared.request.Request.TheVariants.{PutSnapshotBlock, CompleteSnapshot, ListSnapshotBlocks, ListChangedBlocks, GetSnapshotBlock}
use Rattle.ebs_model.specs.declared.answer.Answer.TheVariants.{Refused, BlockRead, BlockWritten, Completed}
use Rattle.ebs_model.specs.declared.answer.Kind.TheVariants.{Snapshot as snapshot}
use Rattle.ebs_model.specs.declared.answer.StateName.TheVariants as state
use Rattle.ebs_model.specs.declared.answer.Spent.TheVariants.{Changes}
use Rattle.ebs_model.specs.declared.answer.Refusal.{Refusal}
use Rattle.ebs_model.specs.declared.answer.Refusal.TheVariants.{BadParameter, BadIndex, BadBlockToken, BadPageToken, WrongState, Unrelated, Checksum, NotFound, NotOwner, Exhausted}
use Rattle.ebs_model.specs.Refuse.{◌>>=◌, ◌>>◌, refuse_if, refuse_bad, some_or}
use Rattle.ebs_model.specs.Limits.{unless}
use Rattle.ebs_model.specs.Tokens.{is_block_token, page_start}
use Rattle.ebs_model.specs.Arrays.{WholeBlock, linear}
use Rattle.ebs_model.specs.Time.{Snapshot, status_by, is_completed, is_pending, is_ahead, is_readable}
use Rattle.ebs_model.specs.Access.{owns, open_upload, ready, state_of}
use Rattle.ebs_model.specs.Machine.{Machine, advance, is_spent}
use Rattle.ebs_model.specs.Calls.List.{begins, is_same_line, are_alike}
use Rattle.ebs_model.specs.Calls.Complete.{refuse_checksum}
use Rattle.ebs_model.specs.Step.{call, settled}
use Rattle.ebs_laws.specs.Words.{moment_at}
use Rattle.ebs_laws.specs.FieldLaws.{digests_at}
use Rattle.ebs_laws.specs.OrderLaws.{Tests, first_of, IsRefusedBy, is_in_bin, is_tier_read, is_late, reader_tests, writer_tests, not_there, get_tests, GetIsRefusedInOrder, put_row_tests, put_tests, PutIsRefusedInOrder, sum_tests, complete_tests, CompleteIsRefusedInOrder, page_tests, paging_tests, list_tests, ListIsRefusedInOrder, is_one_line, second_tests, compare_tests, ComparisonIsRefusedInOrder}
use Rattle.ebs_laws.proofs.Cases.{Outcome, IfDone, call-done, accepted-is}
use Rattle.ebs_laws.proofs.Settles.{IsAnswered, answered}
use Rattle.ebs_laws.proofs.Fields.{digests-are}
use Rattle.ebs_laws.proofs.Whole as whole
use Rattle.ebs_laws.proofs.Acts.{call-whole}

abbrev pub refusal_in : {A : Type 0} → Result A Refusal → Option Refusal
refusal_in (Ok x) = None
refusal_in (Err r) = Some r

-- a test in front of others
pub one : {A : Type 0} (b : Bool) (r : Refusal) (y : Result A Refusal) (tests : Tests) → refusal_in y ≡ first_of tests → refusal_in (refuse_if b r >> y) ≡ first_of ((b, r) ∷ tests)
one true r y tests h = refl
one false r y tests h = h

pub bad : {A : Type 0} (b : Bool) (name : List ℕ) (next : Option (List ℕ)) (y : Result A Refusal) (tests : Tests) → refusal_in (refuse_bad next >> y) ≡ first_of tests → refusal_in (refuse_bad (unless b name next) >> y) ≡ first_of ((not b, BadParameter name) ∷ tests)
bad true name next y tests h = h
bad false name next y tests h = refl

some : {A B : Type 0} (o : Option A) (r : Refusal) (f : A → Result B Refusal) (tests : Tests) → ((x : A) → o ≡ Some x → refusal_in (f x) ≡ first_of tests) → refusal_in (some_or o r >>= f) ≡ first_of ((not (is_some o), r) ∷ tests)
some None r f tests h = refl
some (Some x) r f tests h = h x refl

-- some tests in front of others
pub more : {A : Type 0} (x : Result (Unit {0}) Refusal) (y : Result A Refusal) (xs ys : Tests) → refusal_in x ≡ first_of xs → refusal_in y ≡ first_of ys → refusal_in (x >> y) ≡ first_of (xs ++ ys)
more (Ok u) y [] ys h k = k
more (Ok u) y (t ∷ xs) ys h k = by t.0 h (λ h. more (Ok u) y xs ys h k)
  where
    by : (b : Bool) → None ≡ cond b (Some t.1) (first_of xs) → (None ≡ first_of xs → refusal_in y ≡ first_of (xs ++ ys)) → refusal_in y ≡ cond b (Some t.1) (first_of (xs ++ ys))
    by true h again = cc
    by false h again = again h
more (Err r) y [] ys h k = cc
more (Err r) y (t ∷ xs) ys h k = by t.0 h (λ h. more (Err r) y xs ys h k)
  where
    by : (b : Bool) → Some r ≡ cond b (Some t.1) (first_of xs) → (Some r ≡ first_of xs → Some r ≡ first_of (xs ++ ys)) → Some r ≡ cond b (Some t.1) (first_of (xs ++ ys))
    by true h again = h
    by false h again = again h

moved : {A : Type 0} (x : Result (Unit {0}) Refusal) (s : Snapshot) (next : Snapshot → Result A Refusal) → ((x >> Ok s) >>= next) ≡ (x >> next s)
moved (Ok u) s next = refl
moved (Err r) s next = refl

-- the row that is found, with its tests and those that follow
pub found : {A : Type 0} (test : Result (Unit {0}) Refusal) (s : Snapshot) (next : Snapshot → Result A Refusal) (xs ys : Tests) → refusal_in test ≡ first_of xs → refusal_in (next s) ≡ first_of ys → refusal_in ((test >> Ok s) >>= next) ≡ first_of (xs ++ ys)
found test s next xs ys h k = ap refusal_in (moved test s next) ∙ more test (next s) xs ys h k

pub bin-same : (end : Option Moment) (now : ℕ) → is_ahead end now ≡ is_in_bin end now
bin-same None now = refl
bin-same (Some end) now = refl

pub tier-same : (tier : Tier) (now : ℕ) → is_readable tier now ≡ is_tier_read tier now
tier-same Standard now = refl
tier-same Archived now = refl
tier-same (Temporary until) now = refl

module _ (account : ℕ) (key : SnapKey) (now : ℕ) (row : SnapRow) where
  pub reader-order : refusal_in (ready account key now row) ≡ first_of (reader_tests account key now row)
  reader-order =
      by (is_ahead row.bin_end now) (owns account key) row.public (list_any (λ a. a == account) row.shared) row.completed (is_late row now) (is_readable row.tier now)
      ∙ (λ i. first_of (
      (bin-same row.bin_end now i || (not (account == key.account) && not ((row.public || list_any (λ a. a == account) row.shared) && (row.completed && tier-same row.tier now i))), NotFound snapshot)
      ∷ (not row.completed, WrongState (cond (is_late row now) state.Error state.Pending))
      ∷ (not (tier-same row.tier now i), WrongState state.Archived)
      ∷ []))
    where
      by : (b o p l c late t : Bool) → refusal_in ((refuse_if b (NotFound snapshot) >> refuse_if (not o && not ((o || (p || l)) && (is_completed (status_by c late) && (not b && t)))) (NotFound snapshot))
          >> (refuse_if (not (is_completed (status_by c late))) (WrongState (state_of (status_by c late))) >> refuse_if (not t) (WrongState state.Archived)))
          ≡ first_of ((b || (not o && not ((p || l) && (c && t))), NotFound snapshot) ∷ (not c, WrongState (cond late state.Error state.Pending)) ∷ (not t, WrongState state.Archived) ∷ [])
      by true o p l c late t = refl
      by false true p l true late true = refl
      by false true p l true late false = refl
      by false true p l false true t = refl
      by false true p l false false t = refl
      by false false true l true late true = refl
      by false false true l true late false = refl
      by false false true l false true t = refl
      by false false true l false false t = refl
      by false false false true true late true = refl
      by false false false true true late false = refl
      by false false false true false true t = refl
      by false false false true false false t = refl
      by false false false false c late t = refl

  writer-order : refusal_in (open_upload account key now row) ≡ first_of (writer_tests account key now row)
  writer-order =
      by (is_ahead row.bin_end now) (owns account key) row.public (list_any (λ a. a == account) row.shared) row.completed (is_late row now) (is_readable row.tier now)
      ∙ (λ i. first_of (
      (bin-same row.bin_end now i || (not (account == key.account) && not ((row.public || list_any (λ a. a == account) row.shared) && (row.completed && tier-same row.tier now i))), NotFound snapshot)
      ∷ (not (account == key.account), NotOwner)
      ∷ (row.completed || is_late row now, WrongState (cond row.completed state.Completed state.Error))
      ∷ []))
    where
      by : (b o p l c late t : Bool) → refusal_in (((refuse_if b (NotFound snapshot) >> refuse_if (not o && not ((o || (p || l)) && (is_completed (status_by c late) && (not b && t)))) (NotFound snapshot)) >> refuse_if (not o) NotOwner)
          >> refuse_if (not (is_pending (status_by c late))) (WrongState (state_of (status_by c late))))
          ≡ first_of ((b || (not o && not ((p || l) && (c && t))), NotFound snapshot) ∷ (not o, NotOwner) ∷ (c || late, WrongState (cond c state.Completed state.Error)) ∷ [])
      by true o p l c late t = refl
      by false true p l true late t = refl
      by false true p l false true t = refl
      by false true p l false false t = refl
      by false false true l true late true = refl
      by false false true l true late false = refl
      by false false true l false true t = refl
      by false false true l false false t = refl
      by false false false true true late true = refl
      by false false false true true late false = refl
      by false false false true false true t = refl
      by false false false true false false t = refl
      by false false false false c late t = refl

-- what refuses a call is its answer
module _ (at : Machine) (account : ℕ) (request : Request) where
  pub refused-so : (tests : Tests) → refusal_in (whole.call at account request) ≡ first_of tests → IsRefusedBy (first_of tests) (settled at (call at account request)).1
  refused-so tests h = by (call at account request) (λ refusal. call-done (IsAnswered refusal) at account request (answered at account request refusal)) (first_of tests) (ap refusal_in (call-whole at account request) ∙ h)
    where
      by : (r : Result Outcome Refusal) → ((refusal : Refusal) → IfDone (IsAnswered refusal) r) → (o : Option Refusal) → refusal_in r ≡ o → IsRefusedBy o (settled at r).1
      by (Ok d) h None e = λ refusal. accepted-is (IsAnswered refusal) (Ok d) (h refusal) d refl
      by (Ok d) h (Some r) e = cc
      by (Err r) h None e = cc
      by (Err r) h (Some q) e = let same : r ≡ q = cc in ap Refused same

module _ (at : Machine) (account : ℕ) where
  abbrev now : ℕ
  now = at.clock.second

  abbrev get_rest : SnapKey → ℕ → List ℕ → Snapshot → Result Outcome Refusal
  get_rest key index token s = refuse_if (not (is_block_token at.secret key index now token)) BadBlockToken >> (whole.read_of sha256 s index >>= λ answer. Ok (at, answer))

  get-order : (key : SnapKey) (index : ℕ) (token : List ℕ) → refusal_in (whole.call at account (GetSnapshotBlock key index token)) ≡ first_of (get_tests at account now key index token (fin.get at.snaps key))
  get-order key index token = by (fin.get at.snaps key)
    where
      block : (o : Option WholeBlock) → refusal_in {A = Outcome} ((some_or o BadIndex >>= λ block. Ok (BlockRead (sha256 block.bytes) block.bytes)) >>= λ answer. Ok (at, answer)) ≡ first_of ((not (is_some o), BadIndex) ∷ [])
      block None = refl
      block (Some b) = refl

      by : (o : Option Snapshot) → refusal_in (refuse_bad (unless (nat_lt index (10 ^ 10)) (codes "blockIndex") None) >> ((some_or o (NotFound snapshot) >>= λ s. ready account key now s.row >> Ok s) >>= get_rest key index token)) ≡ first_of (get_tests at account now key index token o)
      by None = bad (nat_lt index (10 ^ 10)) (codes "blockIndex") None (Err (NotFound snapshot)) not_there refl
      by (Some s) =
          let last : Tests = (not (is_some (fin.get s.array index)), BadIndex) ∷ [] in
          let tests : Tests = (not (is_block_token at.secret key index now token), BadBlockToken) ∷ last in
          bad (nat_lt index (10 ^ 10)) (codes "blockIndex") None ((ready account key now s.row >> Ok s) >>= get_rest key index token) (reader_tests account key now s.row ++ tests) (found (ready account key now s.row) s (get_rest key index token) (reader_tests account key now s.row) tests (reader-order account key now s.row)
          (one (not (is_block_token at.secret key index now token)) BadBlockToken (whole.read_of sha256 s index >>= λ answer. Ok (at, answer)) last (block (fin.get s.array index))))

  -- the change is the last that is refused
  abbrev pub change_test : Tests
  change_test = (nat_le (2 ^ 40) at.changes, Exhausted Changes) ∷ []

  pub spent : (d : Outcome) → refusal_in (refuse_if (is_spent at) (Exhausted Changes) >> Ok d) ≡ first_of change_test
  spent d = one (nat_le (2 ^ 40) at.changes) (Exhausted Changes) (Ok d) [] refl

  abbrev put_rest : SnapKey → ℕ → List ℕ → List ℕ → Snapshot → Result Outcome Refusal
  put_rest key index digest bytes s = refuse_if (nat_le (2048 * s.row.size) index) BadIndex >> (refuse_if (is_spent at) (Exhausted Changes) >> Ok (whole.with_put at key s index bytes, BlockWritten digest))

  put-order : (key : SnapKey) (index : ℕ) (digest bytes : List ℕ) → refusal_in (whole.call at account (PutSnapshotBlock key index digest bytes)) ≡ first_of (put_tests at account now key index digest bytes (fin.get at.snaps key))
  put-order key index digest bytes =
      let row_tests = put_row_tests at account now key index (fin.get at.snaps key) in
      let row = (some_or (fin.get at.snaps key) (NotFound snapshot) >>= λ s. open_upload account key now s.row >> Ok s) >>= put_rest key index digest bytes in
      let digest_tests : Tests = (not (pointwise nat_eq digest (sha256 bytes)), Checksum digest (sha256 bytes)) ∷ row_tests in
      let all = refuse_if (not (pointwise nat_eq digest (sha256 bytes))) (Checksum digest (sha256 bytes)) >> row in
      bad (nat_lt index (10 ^ 10)) (codes "blockIndex") (unless (length bytes == 524288) (codes "body") None) all ((not (length bytes == 524288), BadParameter (codes "body")) ∷ digest_tests)
      (bad (length bytes == 524288) (codes "body") None all digest_tests
      (one (not (pointwise nat_eq digest (sha256 bytes))) (Checksum digest (sha256 bytes)) row row_tests (by (fin.get at.snaps key))))
    where
      by : (o : Option Snapshot) → refusal_in ((some_or o (NotFound snapshot) >>= λ s. open_upload account key now s.row >> Ok s) >>= put_rest key index digest bytes) ≡ first_of (put_row_tests at account now key index o)
      by None = refl
      by (Some s) =
          let d : Outcome = (whole.with_put at key s index bytes, BlockWritten digest) in
          found (open_upload account key now s.row) s (put_rest key index digest bytes) (writer_tests account key now s.row) ((nat_le (2048 * s.row.size) index, BadIndex) ∷ change_test) (writer-order account key now s.row)
          (one (nat_le (2048 * s.row.size) index) BadIndex (refuse_if (is_spent at) (Exhausted Changes) >> Ok d) change_test (spent d))

  abbrev complete_rest : SnapKey → ℕ → Option (List ℕ) → Snapshot → Result Outcome Refusal
  complete_rest key count checksum s =
      refuse_if (not (fin.len s.row.put == count)) (BadParameter (codes "x-amz-ChangedBlocksCount"))
      >> (refuse_checksum checksum (linear sha256 s.array (fin.keys s.row.put)) >> (refuse_if (is_spent at) (Exhausted Changes) >> Ok (whole.with_snapshot at key (whole.completed s), Completed)))

  summed : (checksum : Option (List ℕ)) (found : List ℕ) → refusal_in (refuse_checksum checksum found) ≡ first_of (sum_tests checksum found)
  summed None found = refl
  summed (Some stated) found = by (pointwise nat_eq stated found)
    where
      by : (b : Bool) → refusal_in (refuse_if (not b) (Checksum stated found)) ≡ cond (not b) (Some (Checksum stated found)) None
      by true = refl
      by false = refl

  complete-order : (key : SnapKey) (count : ℕ) (checksum : Option (List ℕ)) → refusal_in (whole.call at account (CompleteSnapshot key count checksum)) ≡ first_of (complete_tests at account now key count checksum (fin.get at.snaps key))
  complete-order key count checksum = by (fin.get at.snaps key)
    where
      by : (o : Option Snapshot) → refusal_in (refuse_bad (unless (nat_lt count (10 ^ 10)) (codes "x-amz-ChangedBlocksCount") None) >> ((some_or o (NotFound snapshot) >>= λ s. open_upload account key now s.row >> Ok s) >>= complete_rest key count checksum)) ≡ first_of (complete_tests at account now key count checksum o)
      by None = bad (nat_lt count (10 ^ 10)) (codes "x-amz-ChangedBlocksCount") None (Err (NotFound snapshot)) not_there refl
      by (Some s) =
          let sum = summed checksum (linear sha256 s.array (fin.keys s.row.put)) ∙ ap (λ digests. first_of (sum_tests checksum (sha256 digests))) (digests-are s.array (fin.keys s.row.put)) in
          let d : Outcome = (whole.with_snapshot at key (whole.completed s), Completed) in
          let sums : Tests = sum_tests checksum (sha256 (digests_at s.array (fin.keys s.row.put))) ++ change_test in
          let tests : Tests = (not (fin.len s.row.put == count), BadParameter (codes "x-amz-ChangedBlocksCount")) ∷ sums in
          let change = refuse_if (is_spent at) (Exhausted Changes) >> Ok d in
          bad (nat_lt count (10 ^ 10)) (codes "x-amz-ChangedBlocksCount") None ((open_upload account key now s.row >> Ok s) >>= complete_rest key count checksum) (writer_tests account key now s.row ++ tests)
          (found (open_upload account key now s.row) s (complete_rest key count checksum) (writer_tests account key now s.row) tests (writer-order account key now s.row)
          (one (not (fin.len s.row.put == count)) (BadParameter (codes "x-amz-ChangedBlocksCount")) (refuse_checksum checksum (linear sha256 s.array (fin.keys s.row.put)) >> change) sums
          (more (refuse_checksum checksum (linear sha256 s.array (fin.keys s.row.put))) change (sum_tests checksum (sha256 (digests_at s.array (fin.keys s.row.put)))) change_test sum (spent d))))

  -- the page token, and what follows it
  paged : (changed : Bool) (first second : SnapKey) (page : Option (List ℕ)) (start : ℕ) (next : ℕ → Result Outcome Refusal) (tests : Tests) → ((index : ℕ) → refusal_in (next index) ≡ first_of tests)
      → refusal_in (begins at.secret changed first second now page start >>= next) ≡ first_of (page_tests at changed first second now page ++ tests)
  paged changed first second None start next tests h = h start
  paged changed first second (Some token) start next tests h = by (page_start at.secret changed first second now token)
    where
      by : (o : Option ℕ) → refusal_in (some_or o BadPageToken >>= next) ≡ first_of ((not (is_some o), BadPageToken) ∷ tests)
      by None = refl
      by (Some index) = h index

  paging : (most start : ℕ) (y : Result Outcome Refusal) (tests : Tests) → refusal_in y ≡ first_of tests
      → refusal_in (refuse_bad (unless (nat_le 100 most && nat_le most 10000) (codes "maxResults") (unless (nat_lt start (10 ^ 10)) (codes "startingBlockIndex") None)) >> y) ≡ first_of (paging_tests most start tests)
  paging most start y tests h =
      bad (nat_le 100 most && nat_le most 10000) (codes "maxResults") (unless (nat_lt start (10 ^ 10)) (codes "startingBlockIndex") None) y ((not (nat_lt start (10 ^ 10)), BadParameter (codes "startingBlockIndex")) ∷ tests) (bad (nat_lt start (10 ^ 10)) (codes "startingBlockIndex") None y tests h)

  pub nothing-more : (tests : Tests) → tests ++ [] ≡ tests
  nothing-more [] = refl
  nothing-more (t ∷ tests) = ap (λ l. t ∷ l) (nothing-more tests)

  abbrev list_rest : SnapKey → Option (List ℕ) → ℕ → ℕ → Snapshot → Result Outcome Refusal
  list_rest key page most start s = begins at.secret false key key now page start >>= λ index. Ok (at, whole.listed at.secret key now s most index)

  list-order : (key : SnapKey) (page : Option (List ℕ)) (most start : ℕ) → refusal_in (whole.call at account (ListSnapshotBlocks key page most start)) ≡ first_of (paging_tests most start (list_tests at account now key page (fin.get at.snaps key)))
  list-order key page most start = paging most start ((some_or (fin.get at.snaps key) (NotFound snapshot) >>= λ s. ready account key now s.row >> Ok s) >>= list_rest key page most start) (list_tests at account now key page (fin.get at.snaps key)) (by (fin.get at.snaps key))
    where
      by : (o : Option Snapshot) → refusal_in ((some_or o (NotFound snapshot) >>= λ s. ready account key now s.row >> Ok s) >>= list_rest key page most start) ≡ first_of (list_tests at account now key page o)
      by None = refl
      by (Some s) = found (ready account key now s.row) s (list_rest key page most start) (reader_tests account key now s.row) (page_tests at false key key now page) (reader-order account key now s.row)
          (paged false key key page start (λ index. Ok (at, whole.listed at.secret key now s most index)) [] (λ index. refl) ∙ ap first_of (nothing-more (page_tests at false key key now page)))

  line-same : (a b : Line) → is_same_line a b ≡ is_one_line a b
  line-same a b = by a.of_volume
    where
      by : (v : Bool) → (are_alike v b.of_volume && ((a.account == b.account) && (a.number == b.number))) ≡ (cond v b.of_volume (not b.of_volume) && ((a.account == b.account) && (a.number == b.number)))
      by true = refl
      by false = refl

  abbrev related_rest : SnapKey → SnapKey → ℕ → Snapshot → Snapshot → ℕ → Result Outcome Refusal
  related_rest first second most a b index = refuse_if (not (is_same_line a.row.line b.row.line)) Unrelated >> Ok (at, whole.compared at.secret first second now a b most index)

  abbrev second_rest : SnapKey → SnapKey → Option (List ℕ) → ℕ → ℕ → Snapshot → Snapshot → Result Outcome Refusal
  second_rest first second page most start a b = begins at.secret true first second now page start >>= related_rest first second most a b

  abbrev first_rest : SnapKey → SnapKey → Option (List ℕ) → ℕ → ℕ → Option Snapshot → Snapshot → Result Outcome Refusal
  first_rest first second page most start o a = (some_or o (NotFound snapshot) >>= λ s. ready account second now s.row >> Ok s) >>= second_rest first second page most start a

  related : (first second : SnapKey) (most : ℕ) (a b : Snapshot) (index : ℕ) → refusal_in (related_rest first second most a b index) ≡ first_of ((not (is_one_line a.row.line b.row.line), Unrelated) ∷ [])
  related first second most a b index =
      let d : Outcome = (at, whole.compared at.secret first second now a b most index) in
      one (not (is_same_line a.row.line b.row.line)) Unrelated (Ok d) [] refl ∙ ap (λ t. cond (not t) (Some Unrelated) None) (line-same a.row.line b.row.line)

  second-order : (first second : SnapKey) (page : Option (List ℕ)) (most start : ℕ) (a : Snapshot) (o : Option Snapshot) → refusal_in (first_rest first second page most start o a) ≡ first_of (second_tests at account now first second page a o)
  second-order first second page most start a None = refl
  second-order first second page most start a (Some b) =
      let last : Tests = (not (is_one_line a.row.line b.row.line), Unrelated) ∷ [] in
      found (ready account second now b.row) b (second_rest first second page most start a) (reader_tests account second now b.row) (page_tests at true first second now page ++ last) (reader-order account second now b.row)
      (paged true first second page start (related_rest first second most a b) last (λ index. related first second most a b index))

  first-order : (first second : SnapKey) (page : Option (List ℕ)) (most start : ℕ) (o u : Option Snapshot) → refusal_in ((some_or o (NotFound snapshot) >>= λ s. ready account first now s.row >> Ok s) >>= first_rest first second page most start u) ≡ first_of (compare_tests at account now first second page o u)
  first-order first second page most start None u = refl
  first-order first second page most start (Some a) u = found (ready account first now a.row) a (first_rest first second page most start u) (reader_tests account first now a.row) (second_tests at account now first second page a u) (reader-order account first now a.row) (second-order first second page most start a u)

  compare-order : (first second : SnapKey) (page : Option (List ℕ)) (most start : ℕ) → refusal_in (whole.call at account (ListChangedBlocks first second page most start)) ≡ first_of (paging_tests most start (compare_tests at account now first second page (fin.get at.snaps first) (fin.get at.snaps second)))
  compare-order first second page most start =
      paging most start ((some_or (fin.get at.snaps first) (NotFound snapshot) >>= λ s. ready account first now s.row >> Ok s) >>= first_rest first second page most start (fin.get at.snaps second)) (compare_tests at account now first second page (fin.get at.snaps first) (fin.get at.snaps second))
      (first-order first second page most start (fin.get at.snaps first) (fin.get at.snaps second))

pub get-refused : GetIsRefusedInOrder
get-refused m account reading key index token = let at = advance m (moment_at m reading) in refused-so at account (GetSnapshotBlock key index token) (get_tests at account at.clock.second key index token (fin.get at.snaps key)) (get-order at account key index token)

pub put-refused : PutIsRefusedInOrder
put-refused m account reading key index digest bytes = let at = advance m (moment_at m reading) in refused-so at account (PutSnapshotBlock key index digest bytes) (put_tests at account at.clock.second key index digest bytes (fin.get at.snaps key)) (put-order at account key index digest bytes)

pub complete-refused : CompleteIsRefusedInOrder
complete-refused m account reading key count checksum = let at = advance m (moment_at m reading) in refused-so at account (CompleteSnapshot key count checksum) (complete_tests at account at.clock.second key count checksum (fin.get at.snaps key)) (complete-order at account key count checksum)

pub list-refused : ListIsRefusedInOrder
list-refused m account reading key page most start = let at = advance m (moment_at m reading) in refused-so at account (ListSnapshotBlocks key page most start) (paging_tests most start (list_tests at account at.clock.second key page (fin.get at.snaps key))) (list-order at account key page most start)

pub comparison-refused : ComparisonIsRefusedInOrder
comparison-refused m account reading first second page most start = let at = advance m (moment_at m reading) in refused-so at account (ListChangedBlocks first second page most start) (paging_tests most start (compare_tests at account at.clock.second first second page (fin.get at.snaps first) (fin.get at.snaps second))) (compare-order at account first second page most start)
