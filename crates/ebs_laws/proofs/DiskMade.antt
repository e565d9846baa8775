-- What a snapshot of a volume makes, and what a write of a block does.
use Rattle.std.proofs.Common.{◌≡◌, ℕ, ◌+◌, ◌*◌, ◌^◌, ◌<◌, ◌==◌, nat_le, nat_lt, not, codes, Bool, true, false, List, ◌∷◌, Option, Some, None, unwrap_or, sym, ap, subst, ◌∙◌, refl, arith}
use Rattle.std.proofs.lemmas.Bool.Decides.{nat_tests}
use Rattle.std.specs.Cmp.Lexicographic.{same_text, nat_list_eq_equiv}
use Rattle.std.specs.FinMap as fin
use Rattle.std.specs.FinMap.{nat_cmp-IsAntisymmetric}
use Rattle.std.specs.Cmp.{nat_cmp_total}
use Rattle.sha2.specs.Sha256.{sha256}
use Rattle.ebs_model.specs.declared.keys.SnapKey.{SnapKey}
use Rattle.ebs_model.specs.declared.keys.VolKey.{VolKey}
use Rattle.ebs_model.specs.declared.keys.Moment.{Moment}
use Rattle.ebs_model.specs.declared.tags.Tag.{Tag}
use Rattle.ebs_model.specs.declared.rows.Own.{Own}
use Rattle.ebs_model.specs.declared.rows.SnapRow.{SnapRow}
use Rattle.ebs_model.specs.declared.rows.VolRow.{VolRow}
use Rattle.ebs_model.specs.declared.views.SnapView.{SnapView}
use Rattle.ebs_model.specs.declared.request.Request.TheVariants.{CreateSnapshot, WriteVolumeBlock, ReadVolumeBlock}
use Rattle.ebs_model.specs.declared.answer.Answer.TheVariants.{SnapshotShown, BlockWritten}
use Rattle.ebs_model.specs.declared.answer.Refusal.TheVariants.{BadParameter}
use Rattle.ebs_model.specs.Quotas.{block_size, most_kept}
use Rattle.ebs_model.specs.inner.Orders.{snaps_total, exact_snaps, vols_total, exact_vols}
use Rattle.ebs_model.specs.Arrays.{WholeBlock, WholeArray}
use Rattle.ebs_model.specs.Machine.{Machine, advance, disk_of}
use Rattle.ebs_model.specs.Views.{view_of}
use Rattle.ebs_model.specs.Step.{settled, step}
use Rattle.ebs_laws.specs.Words.{moment_at, number_in, next_number}
use Rattle.ebs_laws.specs.OrderLaws.{first_of, IsRefusedBy}
use Rattle.ebs_laws.specs.VolumeOrders.{snapshot_tests, index_tests}
use Rattle.ebs_laws.specs.AccessLaws as access
use Rattle.ebs_laws.specs.DiskLaws.{IsTaken, SnapshotIsAsAsked, OwnerTakesSnapshot, SnapshotKeepsItsMoment, WritesVolumeBlock, WriteIsAsAsked, OwnerWrites, OwnerReads, ReadIsInRange}
use Rattle.ebs_laws.proofs.Acts.{call-whole}
use Rattle.ebs_laws.proofs.Begun.{numbered}
use Rattle.ebs_laws.proofs.Cases.{step-cases}
use Rattle.ebs_laws.proofs.Given.{numbers-step}
use Rattle.ebs_laws.proofs.Maps.{get-itself, get-other}
use Rattle.ebs_laws.proofs.Others.{SnapTests}
use Rattle.ebs_laws.proofs.Readers.{number_is}
use Rattle.ebs_laws.proofs.Rooms.{kept-own}
use Rattle.ebs_laws.proofs.Stays.{whole-run}
use Rattle.ebs_laws.proofs.Views.{shows-row}
use Rattle.ebs_laws.proofs.VolumeOrder.{snapshot-refused, read-refused}
use Rattle.ebs_laws.proofs.VolumeRows.{started-same}
use Rattle.ebs_laws.proofs.Whole.{own_of, next_snapshot, new_row, snapped, written, block_now}

below : (a b : ℕ) → nat_le b a ≡ false → a < b
below a b e = grind (arith, nat_tests)

room : (a b : ℕ) → a < b → nat_le b a ≡ false
room a b h = grind (arith, nat_tests)

fewer : (a b most : ℕ) → nat_le most a ≡ false → a ≡ b → b < most
fewer a b most e same = grind (arith, nat_tests)

module _ (m : Machine) (account : ℕ) (reading : Moment) (volume : VolKey) (text : Option (List ℕ)) (tags : List Tag) where
  abbrev at : Machine
  at = advance m (moment_at m reading)

  abbrev given : SnapKey
  given = next_snapshot at account

  module _ (of : VolRow) where
    abbrev row : SnapRow
    row = new_row at account volume of text tags

    abbrev view : SnapView
    view = view_of account at.clock.second given row

    abbrev new : Machine
    new = snapped at account volume of text tags

    abbrev own : Own
    own = record (own_of at account) { next_snap = given.number + 1 }

    number : given.number ≡ next_number m account
    number = sym (numbered (fin.get m.own account))

    taken : fin.get m.vols volume ≡ Some of → account ≡ volume.account → SnapTests at account → IsTaken m account reading volume text tags view new
    taken is owned tests = record {
      of = of;
      was_there = is;
      owned = owned;
      few = fewer _ _ most_kept tests.few_kept (kept-own at account);
      key_is = λ i. record { account = account; number = number i };
      number_fits = below given.number (2 ^ 28) tests.number;
      snapshot = record { row = row; array = disk_of m volume };
      is_there = get-itself snaps_total exact_snaps at.snaps given (record { row = row; array = disk_of m volume });
      row = record {
        key_is = refl;
        size_is = refl;
        line_is = refl;
        volume_is = refl;
        description_is = refl;
        tags_are = refl;
        starts = refl;
        last_is = refl;
        completed = refl;
        no_timeout = refl;
        no_parent = refl;
        no_put = refl;
        not_shared = refl;
        not_public = refl;
        no_lock = refl;
        tier_is = refl;
        not_binned = refl;
        no_policy = refl;
      };
      blocks = refl;
      shown = shows-row account given at.clock.second row;
      other_snapshots = λ k other. get-other snaps_total exact_snaps at.snaps given (record { row = row; array = disk_of m volume }) k other;
      volumes = refl;
      disks = refl;
      rules = refl;
      policies = refl;
      tokens = refl;
      snapshot_numbers = ap number_in (get-itself nat_cmp_total nat_cmp-IsAntisymmetric m.own account own) ∙ ap (λ n. n + 1) number;
      volume_numbers = λ a. started-same at account own refl a;
      other_numbers = λ a other. get-other nat_cmp_total nat_cmp-IsAntisymmetric m.own account own a other;
    }

told : (P : SnapView → Type 0) {a b : Bool} {v w : SnapView} → SnapshotShown a v ≡ SnapshotShown b w → P v → (b ≡ a) × P w
told P {v = v} {w = w} e h = let same : v ≡ w = cc in (cc, subst P same h)

pub snapshot-asked : SnapshotIsAsAsked
snapshot-asked m account reading volume text tags created shown =
    step-cases (λ d. d.1 ≡ SnapshotShown created shown → (created ≡ true) × IsTaken m account reading volume text tags shown d.0) m account reading (CreateSnapshot volume text tags)
    (λ of owned is tests e. told (λ v. IsTaken m account reading volume text tags v (new m account reading volume text tags of)) e (taken m account reading volume text tags of is owned tests))
    (λ refusal e. cc)

pub owner-snapshots : OwnerTakesSnapshot
owner-snapshots m account reading volume text tags of owned is good fits few number spare =
    let now = advance m (moment_at m reading) in
    subst (λ o. IsRefusedBy o (step m account reading (CreateSnapshot volume text tags)).1) none (snapshot-refused m account reading volume text tags)
  where
    none : first_of (snapshot_tests (advance m (moment_at m reading)) account volume text tags) ≡ None
    none =
        let mine = number_is account volume.account owned in
        let kept = room _ 10000 few in
        let left = room (next_number m account) (2 ^ 28) number in
        let changes = room m.changes (2 ^ 40) spare in
        rw (good, fits, mine, is, kept, left, changes) refl

pub snapshot-keeps : SnapshotKeepsItsMoment
snapshot-keeps m turns account reading volume text tags created shown later given e is =
    let s = step m account reading (CreateSnapshot volume text tags) in
    let made = (snapshot-asked m account reading volume text tags created shown e).1 in
    (whole-run s.0 turns shown.key made.snapshot later (numbers-step m account reading (CreateSnapshot volume text tags) given) made.is_there made.row.completed is).1 ∙ made.blocks

abbrev block_in : ℕ → Option WholeArray → Option WholeBlock
block_in index o = fin.get (unwrap_or o fin.empty) index

module _ (m : Machine) (account : ℕ) (reading : Moment) (key : VolKey) (index : ℕ) (bytes : List ℕ) where
  abbrev then : Machine
  then = advance m (moment_at m reading)

  abbrev array : WholeArray
  array = fin.insert (disk_of m key) index (block_now m bytes)

  writes : (of : VolRow) → fin.get m.vols key ≡ Some of → account ≡ key.account → nat_le (2048 * of.size) index ≡ false → WritesVolumeBlock m account reading key index bytes (written then key index bytes)
  writes of is owned within =
      let there = get-itself vols_total exact_vols m.disks key array in
      record {
        row = of;
        was_there = is;
        owned = owned;
        in_range = below index (2048 * of.size) within;
        block = ap (block_in index) there ∙ get-itself nat_cmp_total nat_cmp-IsAntisymmetric (disk_of m key) index (block_now m bytes);
        other_blocks = λ i other. ap (block_in i) there ∙ get-other nat_cmp_total nat_cmp-IsAntisymmetric (disk_of m key) index (block_now m bytes) i other;
        other_disks = λ k other. get-other vols_total exact_vols m.disks key array k other;
        rules = refl;
        policies = refl;
        snapshots = refl;
        volumes = refl;
        accounts = refl;
        tokens = refl;
        stamps = refl;
      }

pub write-asked : WriteIsAsAsked
write-asked m account reading key index digest bytes stated =
    step-cases (λ d. d.1 ≡ BlockWritten stated → (digest ≡ sha256 bytes) × (stated ≡ digest) × WritesVolumeBlock m account reading key index bytes d.0) m account reading (WriteVolumeBlock key index digest bytes)
    (λ of owned is tests e. (same_text digest (sha256 bytes) (sym tests.digest_is), cc, writes m account reading key index bytes of is owned tests.within))
    (λ refusal e. cc)

pub owner-writes : OwnerWrites
owner-writes m account reading key index bytes of owned is digits inside size spare =
    let now = advance m (moment_at m reading) in
    let mine = number_is account key.account owned in
    let same = nat_list_eq_equiv.refl (sha256 bytes) in
    let whole = ap (λ n. n == block_size) size in
    let within = room index (2048 * of.size) inside in
    let changes = room m.changes (2 ^ 40) spare in
    ap (λ r. (settled now r).1) (call-whole now account (WriteVolumeBlock key index (sha256 bytes) bytes)) ∙ rw (digits, whole, same, mine, is, within, changes) refl

pub owner-reads : OwnerReads
owner-reads m account reading key index of owned is digits inside = subst (λ o. IsRefusedBy o (step m account reading (ReadVolumeBlock key index)).1) none (read-refused m account reading key index)
  where
    none : first_of ((not (nat_lt index (10 ^ 10)), BadParameter (codes "blockIndex")) ∷ index_tests account key index (fin.get m.vols key)) ≡ None
    none =
        let mine = number_is account key.account owned in
        let within = room index (2048 * of.size) inside in
        rw (digits, is, mine, within) refl

pub read-in-range : ReadIsInRange
read-in-range m account reading key index =
    step-cases (λ d. access.IsAccepted d.1 → (of : VolRow) × (fin.get m.vols key ≡ Some of) × (index < 2048 * of.size)) m account reading (ReadVolumeBlock key index)
    (λ of owned is within accepted. (of, is, below index (2048 * of.size) within))
    (λ refusal accepted. absurd (accepted refusal refl))
