-- Reads that are refused whatever the blocks.
use Rattle.std.proofs.Common.{◌≡◌, ◌≢◌, ℕ, true, false, not, Option, None, Some, Result, Ok, Err, sym, ap, subst, ◌∙◌, refl, max, min, nat_le}
use Rattle.std.specs.FinMap as fin
use Rattle.sha2.specs.Sha256.{sha256}
use Rattle.ebs_model.specs.declared.keys.Moment.{Moment}
use Rattle.ebs_model.specs.declared.change.ReadRow.{ReadRow}
use Rattle.ebs_model.specs.declared.change.Decision.{Decision}
use Rattle.ebs_model.specs.declared.change.Decision.TheVariants as decision
use Rattle.ebs_model.specs.declared.request.Request.{Request}
use Rattle.ebs_model.specs.declared.request.Request.TheVariants.{StartSnapshot, PutSnapshotBlock, CompleteSnapshot, ListSnapshotBlocks, ListChangedBlocks, GetSnapshotBlock, DescribeSnapshot, DescribeSnapshots, DeleteSnapshot, ModifyPermission, LockSnapshot, UnlockSnapshot, ArchiveSnapshot, RestoreTier, CreateVolume, CreateSnapshot, WriteVolumeBlock, ReadVolumeBlock, DescribeVolume, DeleteVolume, CreateRule, GetRule, UpdateRule, DeleteRule, ListRules, LockRule, UnlockRule, ListBin, RestoreFromBin, CreatePolicy, GetPolicy, DeletePolicy, RunPolicy}
use Rattle.ebs_model.specs.declared.answer.Answer.{Answer}
use Rattle.ebs_model.specs.declared.answer.Answer.TheVariants as answer
use Rattle.ebs_model.specs.declared.answer.Refusal.{Refusal}
use Rattle.ebs_model.specs.declared.answer.Refusal.TheVariants.{BadIndex, BadBlockToken, Unrelated}
use Rattle.ebs_model.specs.Quotas.{last_second, blocks_of}
use Rattle.ebs_model.specs.Refuse.{◌>>=◌, ◌>>◌, refuse_if, refuse_bad, some_or}
use Rattle.ebs_model.specs.Limits.{bad_member}
use Rattle.ebs_model.specs.Tokens.{is_block_token}
use Rattle.ebs_model.specs.Arrays.{WholeBlock}
use Rattle.ebs_model.specs.Rows.{Rows}
use Rattle.ebs_model.specs.inner.Rows.{aged}
use Rattle.ebs_model.specs.Decide.{decide}
use Rattle.ebs_model.specs.Machine.{Machine, advance, moment_of, rows_of, array_of, disk_of}
use Rattle.ebs_model.specs.Calls.List.{begins, read_list, read_changes}
use Rattle.ebs_model.specs.Calls.Get.{read_block}
use Rattle.ebs_model.specs.Step.{refuse_size, refuse_digest, finish, call, settled, step}
use Rattle.ebs_model.proofs.RowLaws.{rows_of-advance}
use Rattle.ebs_laws.specs.RowLaws.{AsksChange}
use Rattle.ebs_laws.proofs.Cases.{Outcome, IfDone, achieved, refused, after}
use Rattle.ebs_laws.proofs.Settles.{accepted-answers}
use Rattle.ebs_model.specs.Calls.Disk.{read_volume}
use Rattle.ebs_model.specs.declared.answer.Answer.TheVariants.{Refused}

-- what one refuses, but for a block that isn't there, the other refuses
abbrev Alike : {A B : Type 0} → Result A Refusal → Result B Refusal → Type 0
Alike x y = (r : Refusal) → r ≢ BadIndex → x ≡ Err r → y ≡ Err r

err_is : {A : Type 0} {r s : Refusal} → let x : Result A Refusal = Err r in x ≡ Err s → r ≡ s
err_is e = cc

no_err : {A : Type 0} {v : A} {r : Refusal} → let x : Result A Refusal = Ok v in x ≡ Err r → ⊥
no_err e = cc

alike-answers : {A B : Type 0} (v : A) (y : Result B Refusal) → Alike (Ok v) y
alike-answers v y r other e = absurd (no_err e)

alike-bind : {A B C : Type 0} (x : Result A Refusal) (f : A → Result B Refusal) (g : A → Result C Refusal) → ((v : A) → Alike (f v) (g v)) → Alike (x >>= f) (x >>= g)
alike-bind (Ok v) f g h = h v
alike-bind (Err s) f g h = λ r other e. ap Err (err_is e)

alike-test : {B C : Type 0} (x : Result (Unit {0}) Refusal) (y : Result B Refusal) (z : Result C Refusal) → Alike y z → Alike (x >> y) (x >> z)
alike-test (Ok u) y z h = h
alike-test (Err s) y z h = λ r other e. ap Err (err_is e)

alike-then : {A B C : Type 0} (x y : Result A Refusal) (f : A → B) (g : A → C) → Alike x y → Alike (x >>= λ v. Ok (f v)) (y >>= λ v. Ok (g v))
alike-then (Ok v) y f g h r other e = absurd (no_err e)
alike-then (Err s) y f g h r other e = ap (λ y. y >>= λ v. Ok (g v)) (h r other (ap Err (err_is e)))

alike-found : {B C : Type 0} (a b : Option WholeBlock) (f : WholeBlock → B) (g : WholeBlock → C) → Alike (some_or a BadIndex >>= λ v. Ok (f v)) (some_or b BadIndex >>= λ v. Ok (g v))
alike-found None b f g r other e = absurd (other (sym (err_is e)))
alike-found (Some v) b f g r other e = absurd (no_err e)

abbrev IsRead : Decision → Type 0
IsRead (decision.Change change said) = ⊥
IsRead (decision.Kept said) = ⊥
IsRead (decision.View said) = Unit {0}
IsRead (decision.Read row) = Unit {0}

decides-read : (rows : Rows) (at : Moment) (account : ℕ) (request : Request) → (AsksChange request → ⊥) → IfDone IsRead (decide rows at account request)
decides-read rows at account (StartSnapshot size parent description tags token timeout) none = absurd (none tt)
decides-read rows at account (PutSnapshotBlock key index digest bytes) none = absurd (none tt)
decides-read rows at account (CompleteSnapshot key count checksum) none = absurd (none tt)
decides-read rows at account (ListSnapshotBlocks key page most start) none =
    let ended : (row : ReadRow) → IfDone IsRead (Ok (decision.Read row)) = λ row. achieved tt in
    search (after, ended) depth 20
decides-read rows at account (ListChangedBlocks first second page most start) none =
    let ended : (row : ReadRow) → IfDone IsRead (Ok (decision.Read row)) = λ row. achieved tt in
    search (after, ended) depth 20
decides-read rows at account (GetSnapshotBlock key index token) none =
    let ended : (row : ReadRow) → IfDone IsRead (Ok (decision.Read row)) = λ row. achieved tt in
    search (after, ended) depth 20
decides-read rows at account (DeleteSnapshot key) none = absurd (none tt)
decides-read rows at account (ModifyPermission key add add_all remove remove_all) none = absurd (none tt)
decides-read rows at account (LockSnapshot key mode term cool_hours) none = absurd (none tt)
decides-read rows at account (UnlockSnapshot key) none = absurd (none tt)
decides-read rows at account (ArchiveSnapshot key) none = absurd (none tt)
decides-read rows at account (RestoreTier key days) none = absurd (none tt)
decides-read rows at account (DescribeSnapshot key) none =
    let ended : (said : Answer) → IfDone IsRead (Ok (decision.View said)) = λ said. achieved tt in
    search (after, ended) depth 20
decides-read rows at account (DescribeSnapshots from most) none = achieved tt
decides-read rows at account (CreateVolume origin size tags token) none = absurd (none tt)
decides-read rows at account (CreateSnapshot key description tags) none = absurd (none tt)
decides-read rows at account (WriteVolumeBlock key index digest bytes) none = absurd (none tt)
decides-read rows at account (ReadVolumeBlock key index) none =
    let ended : (row : ReadRow) → IfDone IsRead (Ok (decision.Read row)) = λ row. achieved tt in
    search (after, ended) depth 20
decides-read rows at account (DeleteVolume key) none = absurd (none tt)
decides-read rows at account (CreateRule days tags description delay) none = absurd (none tt)
decides-read rows at account (GetRule key) none =
    let ended : (said : Answer) → IfDone IsRead (Ok (decision.View said)) = λ said. achieved tt in
    search (after, ended) depth 20
decides-read rows at account (UpdateRule key days tags description) none = absurd (none tt)
decides-read rows at account (DeleteRule key) none = absurd (none tt)
decides-read rows at account ListRules none = achieved tt
decides-read rows at account (LockRule key delay) none = absurd (none tt)
decides-read rows at account (UnlockRule key) none = absurd (none tt)
decides-read rows at account (ListBin from most) none = achieved tt
decides-read rows at account (RestoreFromBin key) none = absurd (none tt)
decides-read rows at account (CreatePolicy targets hours time retain add) none = absurd (none tt)
decides-read rows at account (GetPolicy key) none =
    let ended : (said : Answer) → IfDone IsRead (Ok (decision.View said)) = λ said. achieved tt in
    search (after, ended) depth 20
decides-read rows at account (DeletePolicy key) none = absurd (none tt)
decides-read rows at account (RunPolicy key) none = absurd (none tt)
decides-read rows at account (DescribeVolume key) none =
    let ended : (said : Answer) → IfDone IsRead (Ok (decision.View said)) = λ said. achieved tt in
    search (after, ended) depth 20

module _ {B C : Type 0} (f : Decision → Result B Refusal) (g : Decision → Result C Refusal) (v : (said : Answer) → Alike (f (decision.View said)) (g (decision.View said))) (h : (row : ReadRow) → Alike (f (decision.Read row)) (g (decision.Read row))) where
  at-read : (d : Decision) → IsRead d → Alike (f d) (g d)
  at-read (decision.Change change said) is = absurd is
  at-read (decision.Kept said) is = absurd is
  at-read (decision.View said) is = v said
  at-read (decision.Read row) is = h row

  alike-reads : (x : Result Decision Refusal) → IfDone IsRead x → Alike (x >>= f) (x >>= g)
  alike-reads (Ok d) (achieved is) = at-read d is
  alike-reads (Err s) refused = λ r other e. ap Err (err_is e)

module _ (m n : Machine) (clock : m.clock ≡ n.clock) (secret : m.secret ≡ n.secret) where
  reads-alike : (request : Request) → (AsksChange request → ⊥) → (row : ReadRow) → Alike (finish sha256 m request (decision.Read row)) (finish sha256 n request (decision.Read row))
  reads-alike (StartSnapshot size parent description tags token timeout) none row = absurd (none tt)
  reads-alike (PutSnapshotBlock key index digest bytes) none row = absurd (none tt)
  reads-alike (CompleteSnapshot key count checksum) none row = absurd (none tt)
  reads-alike (ListSnapshotBlocks key page most start) none row =
      let one = read_list m.secret key m.clock.second row.size (array_of m key) page most start in
      alike-then one (read_list n.secret key n.clock.second row.size (array_of n key) page most start) (λ said. (m, said)) (λ said. (n, said))
      (subst (λ y. Alike one y) (λ i. read_list (secret i) key (clock i).second row.size (array_of n key) page most start)
      (alike-bind (begins m.secret false key key m.clock.second page start) _ _ (λ index. alike-answers _ _)))
  reads-alike (ListChangedBlocks first second page most start) none row =
      let one = read_changes m.secret first second m.clock.second row.size row.related (array_of m first) (array_of m second) page most start in
      alike-then one (read_changes n.secret first second n.clock.second row.size row.related (array_of n first) (array_of n second) page most start) (λ said. (m, said)) (λ said. (n, said))
      (subst (λ y. Alike one y) (λ i. read_changes (secret i) first second (clock i).second row.size row.related (array_of n first) (array_of n second) page most start)
      (alike-bind (begins m.secret true first second m.clock.second page start) _ _ (λ index. alike-test (refuse_if (not row.related) Unrelated) _ _ (alike-answers _ _))))
  reads-alike (GetSnapshotBlock key index token) none row =
      let one = read_block sha256 m.secret key m.clock.second (array_of m key) index token in
      alike-then one (read_block sha256 n.secret key n.clock.second (array_of n key) index token) (λ said. (m, said)) (λ said. (n, said))
      (subst (λ y. Alike one y) (λ i. read_block sha256 (secret i) key (clock i).second (array_of n key) index token)
      (alike-test (refuse_if (not (is_block_token m.secret key index m.clock.second token)) BadBlockToken) _ _ (alike-found (fin.get (array_of m key) index) (fin.get (array_of n key) index) _ _)))
  reads-alike (ReadVolumeBlock key index) none row =
      alike-then (read_volume sha256 (disk_of m key) index row.size) (read_volume sha256 (disk_of n key) index row.size) (λ said. (m, said)) (λ said. (n, said))
      (alike-test (refuse_if (nat_le (blocks_of row.size) index) BadIndex) _ _ (alike-answers _ _))
  reads-alike (ModifyPermission key add add_all remove remove_all) none row = absurd (none tt)
  reads-alike request none row = λ r other e. e

  calls-alike : rows_of m ≡ rows_of n → (account : ℕ) (request : Request) → (AsksChange request → ⊥) → Alike (call m account request) (call n account request)
  calls-alike rows account request none =
      let decided = decide (rows_of m) m.clock account request in
      subst (λ y. Alike (call m account request) y)
      (λ i. refuse_bad (bad_member request) >> (refuse_size request >> (refuse_digest sha256 request >> (decide (rows i) (clock i) account request >>= finish sha256 n request))))
      (alike-test (refuse_bad (bad_member request)) _ _ (alike-test (refuse_size request) _ _ (alike-test (refuse_digest sha256 request) _ _
      (alike-reads (finish sha256 m request) (finish sha256 n request) (λ said. alike-answers _ _) (reads-alike request none) decided (decides-read (rows_of m) m.clock account request none)))))

pub refused-alike : (m n : Machine) (account : ℕ) (reading : Moment) (request : Request) (refusal : Refusal) → rows_of m ≡ rows_of n → m.clock ≡ n.clock → m.secret ≡ n.secret
    → (AsksChange request → ⊥) → refusal ≢ BadIndex → (step m account reading request).1 ≡ answer.Refused refusal → (step n account reading request).1 ≡ answer.Refused refusal
refused-alike m n account reading request refusal rows clock secret none other e =
    let now = moment_of m reading in
    let later = moment_of n reading in
    let times : now ≡ later = λ i. record { second = max (clock i).second (min reading.second last_second) } in
    let same : rows_of (advance m now) ≡ rows_of (advance n later) = rows_of-advance m now ∙ (λ i. aged (times i).second (rows i)) ∙ sym (rows_of-advance n later) in
    ap (λ r. (settled (advance n later) r).1) (calls-alike (advance m now) (advance n later) times secret same account request none refusal other (by (call (advance m now) account request) refl e))
  where
    told : {r : Refusal} → answer.Refused r ≡ answer.Refused refusal → r ≡ refusal
    told e = cc

    by : (r : Result Outcome Refusal) → call (advance m (moment_of m reading)) account request ≡ r → (settled (advance m (moment_of m reading)) r).1 ≡ answer.Refused refusal → call (advance m (moment_of m reading)) account request ≡ Err refusal
    by (Ok d) is h = absurd (accepted-answers m (record { account = account; request = request }) reading d.0 d.1 refusal is h)
    by (Err r) is h = is ∙ ap Err (told h)
