-- The tier of a snapshot: what an archive and a restore make of it, and what is read by it.
use Rattle.std.proofs.Common.{◌≡◌, ◌≢◌, ℕ, ◌+◌, Bool, true, false, cond, nat_lt, nat_le, not, ◌&&◌, ◌||◌, ◌==◌, arith, List, Option, Some, None, Ok, Err, sym, ap, ◌∙◌, refl}
use Rattle.std.proofs.lemmas.Bool.Decides.{nat_tests}
use Rattle.std.specs.Prelude.{take}
use Rattle.std.specs.List.{filter, list_any}
use Rattle.std.specs.FinMap as fin
use Rattle.sha2.specs.Sha256.{sha256}
use Rattle.ebs_model.specs.declared.keys.SnapKey.{SnapKey}
use Rattle.ebs_model.specs.declared.keys.Moment.{Moment}
use Rattle.ebs_model.specs.declared.rows.SnapRow.{SnapRow}
use Rattle.ebs_model.specs.declared.rows.Tier.{Tier}
use Rattle.ebs_model.specs.declared.rows.Tier.TheVariants.{Standard, Archived, Temporary}
use Rattle.ebs_model.specs.declared.phases.TierPhase.TheVariants as phase
use Rattle.ebs_model.specs.declared.request.Request.TheVariants.{ListSnapshotBlocks, ListChangedBlocks, GetSnapshotBlock, ArchiveSnapshot, RestoreTier}
use Rattle.ebs_model.specs.declared.answer.Answer.TheVariants.{BlockRead}
use Rattle.ebs_model.specs.declared.answer.Kind.TheVariants.{Snapshot as snapshot}
use Rattle.ebs_model.specs.declared.answer.StateName.TheVariants as state
use Rattle.ebs_model.specs.declared.answer.Refusal.TheVariants.{NotFound, WrongState}
use Rattle.ebs_model.specs.Arrays.{WholeBlock}
use Rattle.ebs_model.specs.inner.Orders.{snaps_total, exact_snaps}
use Rattle.ebs_model.specs.Refuse.{refuse_if}
use Rattle.ebs_model.specs.Time.{Snapshot, status_at, status_by, is_completed, is_failed, is_ahead, is_reached, is_readable}
use Rattle.ebs_model.specs.Access.{owns, seen, ready, done}
use Rattle.ebs_model.specs.Machine.{Machine, advance}
use Rattle.ebs_model.specs.Tiers.{archive, restore, archive_by, restore_by}
use Rattle.ebs_laws.specs.Words.{moment_at}
use Rattle.ebs_model.specs.Timed.{after_all}
use Rattle.ebs_laws.specs.OneRow.{WritesRow}
use Rattle.ebs_laws.specs.TierLaws.{IsArchivedSo, IsRestoredSo, tier_for, ArchiveIsAsAsked, RestoreIsAsAsked, LaterReadIsTheBlock, LaterReaderGetsBlock, LaterListIsOfTheBlocks, IsArchived, StandsArchived, ArchivedBlockIsRefused, ArchivedListIsRefused, ArchivedFirstIsRefused, ArchivedSecondIsRefused, ArchivedIsHidden}
use Rattle.ebs_laws.proofs.Maps.{get-itself, get-other}
use Rattle.ebs_laws.proofs.Ages.{time-left}
use Rattle.ebs_laws.proofs.Cases.{Outcome, step-cases}
use Rattle.ebs_laws.proofs.Readers.{done-owned, done-shown, number_is, same_number, read-there}
use Rattle.ebs_laws.proofs.Acts.{row-there}
use Rattle.ebs_laws.proofs.Alone.{refuses}
use Rattle.ebs_laws.proofs.Answered.{reader-block}
use Rattle.ebs_laws.proofs.Fields.{list-each}
use Rattle.ebs_laws.proofs.OwnRows.{row_found}
use Rattle.ebs_laws.proofs.Stays.{whole-run, whole-later}
use Rattle.ebs_laws.proofs.Withdrawn.{IsUnseen, declines, others-bin}
use Rattle.ebs_laws.proofs.Uses.{repeat-aged}
use Rattle.ebs_laws.proofs.Whole.{with_snapshot, rewritten}
use Rattle.ebs_model.proofs.RowLaws.{get-row}

more : (n : ℕ) → n ≡ n + 1 → ⊥
more n e = absurd (omega (arith, e))

-- one completed row of the account's own, written anew
abbrev pub writes-row : (at : Machine) (account : ℕ) (key : SnapKey) (s : Snapshot) (row : SnapRow) → fin.get at.snaps key ≡ Some s → done account key at.clock.second s.row ≡ Ok tt → WritesRow at (with_snapshot at key (rewritten row s)) account key
writes-row at account key s row is passes = record {
  found = s;
  was_there = is;
  owned = done-owned account key at.clock.second s.row passes;
  completed = (done-shown account key at.clock.second s.row passes).1;
  row = row;
  is_there = get-itself snaps_total exact_snaps at.snaps key (rewritten row s);
  other_snapshots = λ k other. get-other snaps_total exact_snaps at.snaps key _ k other;
  accounts = refl;
  tokens = refl;
  volumes = refl;
  disks = refl;
  rules = refl;
  policies = refl;
}

archived-so : (tier new : Tier) (now : ℕ) → archive tier now ≡ Ok new → (tier ≡ Standard) × (new ≡ Archived)
archived-so Standard new now e = (refl, cc)
archived-so Archived new now e = cc
archived-so (Temporary until) new now e = by (nat_lt now until.second) refl e
  where
    by : (b : Bool) → nat_lt now until.second ≡ b → archive (Temporary until) now ≡ Ok new → (Temporary until ≡ Standard) × (new ≡ Archived)
    by true is e = none (sym (ap (λ b. archive_by (cond b phase.Temporary phase.Archived)) is) ∙ e)
      where
        none : archive_by phase.Temporary ≡ Ok new → (Temporary until ≡ Standard) × (new ≡ Archived)
        none e = cc
    by false is e = none (sym (ap (λ b. archive_by (cond b phase.Temporary phase.Archived)) is) ∙ e)
      where
        none : archive_by phase.Archived ≡ Ok new → (Temporary until ≡ Standard) × (new ≡ Archived)
        none e = cc

not-standard : (until : Moment) → Temporary until ≢ Standard
not-standard until e = cc

archived-standard : Archived ≢ Standard
archived-standard e = cc

restored-so : (tier new : Tier) (days : Option ℕ) (now : ℕ) → restore tier days now ≡ Ok new → (tier ≢ Standard) × (new ≡ tier_for days now)
restored-so Standard new days now e = cc
restored-so Archived new None now e = (archived-standard, cc)
restored-so Archived new (Some days) now e = (archived-standard, cc)
restored-so (Temporary until) new days now e = (not-standard until, by (nat_lt now until.second) refl e)
  where
    for : (days : Option ℕ) → restore_by phase.Archived days now ≡ Ok new → new ≡ tier_for days now
    for None e = cc
    for (Some days) e = cc

    by : (b : Bool) → nat_lt now until.second ≡ b → restore (Temporary until) days now ≡ Ok new → new ≡ tier_for days now
    by true is e = for days (sym (ap (λ b. restore_by (cond b phase.Temporary phase.Archived) days now) is) ∙ e)
    by false is e = for days (sym (ap (λ b. restore_by (cond b phase.Temporary phase.Archived) days now) is) ∙ e)

module _ (at : Machine) (account : ℕ) (key : SnapKey) where
  abbrev Archives : Outcome → Type 0
  Archives d = d.0.changes ≡ at.changes + 1 → IsArchivedSo at d.0 account key

  abbrev Restores : Option ℕ → Outcome → Type 0
  Restores days d = d.0.changes ≡ at.changes + 1 → IsRestoredSo at d.0 account key days at.clock.second

pub archive-asked : ArchiveIsAsAsked
archive-asked m account reading key =
    let at = advance m (moment_at m reading) in
    step-cases (Archives at account key) m account reading (ArchiveSnapshot key)
    (λ s new is passes changed e.
    let (was, so) = archived-so s.row.tier new at.clock.second changed in
    record { one = writes-row at account key s (record s.row { tier = new }) is passes; was_standard = was; rest = ap (λ (tier : Tier). record s.row { tier = tier }) so })
    (λ refusal e. absurd (more m.changes e))

pub restore-asked : RestoreIsAsAsked
restore-asked m account reading key days =
    let at = advance m (moment_at m reading) in
    step-cases (Restores at account key days) m account reading (RestoreTier key days)
    (λ s new is passes changed e.
    let (was, so) = restored-so s.row.tier new days at.clock.second changed in
    record { one = writes-row at account key s (record s.row { tier = new }) is passes; not_standard = was; rest = ap (λ (tier : Tier). record s.row { tier = tier }) so })
    (λ refusal e. absurd (more m.changes e))

-- ---- what is read later

abbrev ReadsIt : WholeBlock → List ℕ → List ℕ → Outcome → Type 0
ReadsIt block digest bytes d = d.1 ≡ BlockRead digest bytes → (bytes ≡ block.bytes) × (digest ≡ sha256 block.bytes)

pub later-block : LaterReadIsTheBlock
later-block m turns key s index block account reading token digest bytes given is whole there =
    let later = after_all m turns in
    let now = moment_at later reading in
    step-cases (ReadsIt block digest bytes) later account reading (GetSnapshotBlock key index token)
    (λ t found passes good other stands e.
    let array = (whole-later m turns key s t now given is whole found).1 in
    let same : Some other ≡ Some block = sym stands ∙ ap (λ a. fin.get a index) array ∙ there in
    let one : other ≡ block = cc in
    let read : other.bytes ≡ bytes = cc in
    let told : sha256 other.bytes ≡ digest = cc in
    (sym read ∙ ap (λ (b : WholeBlock). b.bytes) one, sym told ∙ ap (λ (b : WholeBlock). sha256 b.bytes) one))
    (λ refusal e. cc)

pub later-reader : LaterReaderGetsBlock
later-reader m turns key s index block account reading token t given is whole there may good =
    let later = after_all m turns in
    let array = (whole-run m turns key s t given is whole may.is_there).1 in
    reader-block later account reading key index token t block may good (ap (λ a. fin.get a index) array ∙ there)

pub later-list : LaterListIsOfTheBlocks
later-list m turns key s account reading most start entries expiry next size given is whole e =
    let later = after_all m turns in
    let (t, may, indexes, size_is, expiry_is) = list-each later account reading key most start entries expiry next size e in
    let array = (whole-run m turns key s t given is whole may.is_there).1 in
    indexes ∙ ap (λ a. take most (filter (λ index. nat_le start index) (fin.keys a))) array

-- ---- what isn't read

unread : (tier : Tier) (now : ℕ) → IsArchived tier now → is_readable tier now ≡ false
unread Standard now h = absurd h
unread Archived now h = refl
unread (Temporary until) now h = grind (arith, nat_tests)

not_owner : (account owner : ℕ) → account ≢ owner → (account == owner) ≡ false
not_owner account owner apart = by (account == owner) refl
  where
    by : (b : Bool) → (account == owner) ≡ b → (account == owner) ≡ false
    by true e = absurd (apart (same_number account owner e))
    by false e = e

whole-stands : (c late : Bool) → c ≡ true → (is_completed (status_by c late) ≡ true) × (is_failed (status_by c late) ≡ false)
whole-stands true late e = (refl, refl)
whole-stands false late e = cc

nobody-reads : (a b c : Bool) → (a && (b && (c && false))) ≡ false
nobody-reads true true true = refl
nobody-reads true true false = refl
nobody-reads true false c = refl
nobody-reads false b c = refl

module _ (m : Machine) (account : ℕ) (now : Moment) (key : SnapKey) (h : StandsArchived m key now.second) where
  abbrev row : SnapRow
  row = h.found.row

  whole : (is_completed (status_at row now.second) ≡ true) × (is_failed (status_at row now.second) ≡ false)
  whole = whole-stands row.completed _ h.completed

  archived-there : fin.get (advance m now).snaps key ≡ Some h.found
  archived-there = time-left m now key h.found h.is_there (ap (λ end. is_reached end now.second) h.not_binned) whole.1

  archived-own : account ≡ key.account → ready account key now.second row ≡ Err (WrongState state.Archived)
  archived-own mine =
      let out : is_ahead row.bin_end now.second ≡ false = ap (λ end. is_ahead end now.second) h.not_binned in
      let owner : owns account key ≡ true = number_is account key.account mine in
      let done = whole.0 in
      let closed = unread row.tier now.second h.archived in
      rw (out, owner, done, closed) refl

  archived-unseen : account ≢ key.account → seen account key now.second row ≡ Err (NotFound snapshot)
  archived-unseen other =
      let out : is_ahead row.bin_end now.second ≡ false = ap (λ end. is_ahead end now.second) h.not_binned in
      let owner : owns account key ≡ false = not_owner account key.account other in
      let closed = unread row.tier now.second h.archived in
      rw (out, owner, closed) (ap (λ b. refuse_if (not b) (NotFound snapshot)) (nobody-reads (row.public || list_any (λ own. own == account) row.shared) (is_completed (status_at row now.second)) true))

  hidden : account ≢ key.account → IsUnseen (advance m now) account key
  hidden other r is =
      let (s, there, same) = row_found (fin.get (advance m now).snaps key) r (sym (get-row (advance m now).snaps key) ∙ is) in
      let one : Some h.found ≡ Some s = sym archived-there ∙ there in
      let which : h.found ≡ s = cc in
      ap (seen account key now.second) (sym same ∙ ap (λ (s : Snapshot). s.row) (sym which)) ∙ archived-unseen other

pub archived-block : ArchivedBlockIsRefused
archived-block m account reading key index token h mine digits =
    let now = moment_at m reading in
    let there = row-there (advance m now) key h.found (archived-there m account now key h) in
    let closed = archived-own m account now key h mine in
    refuses (advance m now) account (GetSnapshotBlock key index token) (WrongState state.Archived) (rw digits refl) refl refl (rw (there, closed) refl)

pub archived-list : ArchivedListIsRefused
archived-list m account reading key page most start h mine fits digits =
    let now = moment_at m reading in
    let there = row-there (advance m now) key h.found (archived-there m account now key h) in
    let closed = archived-own m account now key h mine in
    refuses (advance m now) account (ListSnapshotBlocks key page most start) (WrongState state.Archived) (rw (fits, digits) refl) refl refl (rw (there, closed) refl)

pub archived-first : ArchivedFirstIsRefused
archived-first m account reading first second page most start h mine fits digits =
    let now = moment_at m reading in
    let there = row-there (advance m now) first h.found (archived-there m account now first h) in
    let closed = archived-own m account now first h mine in
    refuses (advance m now) account (ListChangedBlocks first second page most start) (WrongState state.Archived) (rw (fits, digits) refl) refl refl (rw (there, closed) refl)

pub archived-second : ArchivedSecondIsRefused
archived-second m account reading first second a page most start may h mine fits digits =
    let now = moment_at m reading in
    let (is, passes) = read-there m account now first a may in
    let one = row-there (advance m now) first a is in
    let there = row-there (advance m now) second h.found (archived-there m account now second h) in
    let closed = archived-own m account now second h mine in
    refuses (advance m now) account (ListChangedBlocks first second page most start) (WrongState state.Archived) (rw (fits, digits) refl) refl refl (rw (one, passes, there, closed) refl)

pub archived-hidden : ArchivedIsHidden
archived-hidden m account reading request key h other names fresh good size digest =
    let now = moment_at m reading in
    refuses (advance m now) account request (NotFound snapshot) good size digest (declines (advance m now) account request key names (repeat-aged m now account request ∙ fresh) (hidden m account now key h other) (λ asks row is. others-bin account key now.second row other))
