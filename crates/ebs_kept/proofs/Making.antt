-- A decided change, of the fields that stand for the machine before it and after it.
use Rattle.std.proofs.Common.{◌≡◌, ℕ, ◌+◌, ◌≤◌, ◌<◌, ◌^◌, arith, true, nat_le, List, Option, Some, sym, ap, subst, ◌∙◌}
use Rattle.std.proofs.lemmas.Bool.Decides.{nat_tests}
use Rattle.std.specs.FinMap.{get}
use Rattle.ebs_model.specs.declared.keys.SnapKey.{SnapKey}
use Rattle.ebs_model.specs.declared.keys.VolKey.{VolKey}
use Rattle.ebs_model.specs.declared.keys.Moment.{Moment}
use Rattle.ebs_model.specs.declared.rows.SnapRow.{SnapRow}
use Rattle.ebs_model.specs.declared.rows.VolRow.{VolRow}
use Rattle.ebs_model.specs.declared.request.Request.{Request}
use Rattle.ebs_model.specs.declared.request.Request.TheVariants.{StartSnapshot, PutSnapshotBlock, CompleteSnapshot, ListSnapshotBlocks, ListChangedBlocks, GetSnapshotBlock, DescribeSnapshot, DescribeSnapshots, DeleteSnapshot, ModifyPermission, LockSnapshot, UnlockSnapshot, ArchiveSnapshot, RestoreTier, CreateVolume, CreateSnapshot, WriteVolumeBlock, ReadVolumeBlock, DescribeVolume, DeleteVolume, CreateRule, GetRule, UpdateRule, DeleteRule, ListRules, LockRule, UnlockRule, ListBin, RestoreFromBin, CreatePolicy, GetPolicy, DeletePolicy, RunPolicy}
use Rattle.ebs_model.specs.declared.change.Change.{Change}
use Rattle.ebs_model.specs.declared.array.Block.{Block}
use Rattle.ebs_model.specs.Limits.{is_timeout}
use Rattle.ebs_model.specs.Arrays.{WholeArray}
use Rattle.ebs_model.specs.Rows.{Rows}
use Rattle.ebs_model.specs.inner.Rows.{aged, aged_snaps}
use Rattle.ebs_model.specs.Decisions.{made_snap, made_vol}
use Rattle.ebs_model.specs.Decide.{commit}
use Rattle.ebs_model.specs.Machine.{Machine, advance, aged_rows, rows_of, disk_of, with_arrays}
use Rattle.ebs_model.specs.Step.{begun_array, writes_of, changed}
use Rattle.ebs_model.proofs.Commits.{Facts, IsTimely}
use Rattle.ebs_model.proofs.Commits as commits
use Rattle.ebs_catalog.specs.Held.{rows_in, IsFit, IsDecided}
use Rattle.ebs_catalog.specs.Decided.{Passed}
use Rattle.ebs_catalog.proofs.Passes.{decided-passed}
use Rattle.ebs_kept.specs.declared.kept.Kept.TheInside.{Inside}
use Rattle.ebs_holds.specs.declared.holder.Holder.{Holder}
use Rattle.ebs_holds.specs.Holders.{of_snap, of_vol}
use Rattle.ebs_holds.specs.Holds.{Holding, blocks_at}
use Rattle.ebs_holds.specs.Changes.{HasSmallIndex}
use Rattle.ebs_holds.specs.Changes as changes
use Rattle.ebs_kept.specs.inner.Shown.{IsGoodRow, AreGoodVolumes, IsSound, kept_array, snap_array, disk_array, with_disks, shown}
use Rattle.ebs_kept.specs.inner.Room.{source_in}
use Rattle.ebs_kept.specs.inner.Counted.{IsAllShown}
use Rattle.ebs_kept.proofs.Arrays.{begun_by, begun_in, copies_in, copied, arrays_after, disks_after}
use Rattle.ebs_kept.proofs.PutShown.{put-all}
use Rattle.ebs_kept.proofs.Written.{snaps-written, disks-written}
use Rattle.ebs_kept.proofs.Runs.{AreMade}
use Rattle.ebs_kept.proofs.Decided.{decided-made}
use Rattle.ebs_kept.specs.inner.Requests.{Brings}
use Rattle.ebs_kept.proofs.AsKept as kept
use Rattle.ebs_kept.proofs.Changed as after
use Rattle.ebs_kept.proofs.Now as now
use Rattle.ebs_kept.proofs.Timely.{both, sized}
use Rattle.ebs_kept.proofs.Committed.{IsMadeGood}
use Rattle.ebs_kept.proofs.Committed as committed
use Rattle.ebs_kept.proofs.Volumes.{made-good, volumes-committed, disks-committed}
use Rattle.ebs_kept.proofs.Sound.{sound-advance, sound-changed}

timed : (minutes : ℕ) → is_timeout minutes ≡ true → 1 ≤ minutes
timed minutes e =
    let t = (both (nat_le 10 minutes) (nat_le minutes 4320) e).0 in
    grind (arith, nat_tests)

timely : (request : Request) → IsFit request → IsTimely request
timely (StartSnapshot size parent description tags token timeout) fits = (sized size fits.0, timed timeout fits.1)
timely (PutSnapshotBlock key index digest bytes) fits = tt
timely (CompleteSnapshot key count checksum) fits = tt
timely (ListSnapshotBlocks key page most start) fits = tt
timely (ListChangedBlocks first second page most start) fits = tt
timely (GetSnapshotBlock key index token) fits = tt
timely (DescribeSnapshot key) fits = tt
timely (DescribeSnapshots from most) fits = tt
timely (DeleteSnapshot key) fits = tt
timely (ModifyPermission key add add_all remove remove_all) fits = tt
timely (LockSnapshot key mode term cool_hours) fits = tt
timely (UnlockSnapshot key) fits = tt
timely (ArchiveSnapshot key) fits = tt
timely (RestoreTier key days) fits = tt
timely (CreateVolume origin size tags token) fits = tt
timely (CreateSnapshot source description tags) fits = tt
timely (WriteVolumeBlock key index digest bytes) fits = tt
timely (ReadVolumeBlock key index) fits = tt
timely (DescribeVolume key) fits = tt
timely (DeleteVolume key) fits = tt
timely (CreateRule days tags description delay) fits = tt
timely (GetRule key) fits = tt
timely (UpdateRule key days tags description) fits = tt
timely (DeleteRule key) fits = tt
timely ListRules fits = tt
timely (LockRule key delay) fits = tt
timely (UnlockRule key) fits = tt
timely (ListBin from most) fits = tt
timely (RestoreFromBin key) fits = tt
timely (CreatePolicy targets hours time retain add) fits = tt
timely (GetPolicy key) fits = tt
timely (DeletePolicy key) fits = tt
timely (RunPolicy key) fits = tt

module _ (k : Inside) (m : Machine) (is : shown k ≡ m) where
  -- nothing is shown of room that is reserved
  pub unchanged : (new : Inside) → record (shown new) { snaps = (shown k).snaps; own = (shown k).own; tokens = (shown k).tokens; vols = (shown k).vols; disks = (shown k).disks; books = (shown k).books; policies = (shown k).policies } ≡ shown k → rows_in new.catalog ≡ rows_in k.catalog
      → ((q : Holder) → blocks_at new.holdings q ≡ blocks_at k.holdings q) → new.clock ≡ k.clock → shown new ≡ m
  unchanged new others rows same clock =
      (λ i. record (others i) {
        snaps = aged_rows (clock i).second (with_arrays (rows i).snaps (λ q. kept_array (same (of_snap q) i)));
        own = (rows i).own;
        tokens = (rows i).tokens;
        vols = (rows i).vols;
        disks = with_disks (rows i).vols (λ q. kept_array (same (of_vol q) i));
        books = (rows i).books;
        policies = (rows i).policies;
      })
      ∙ is

  module _ (sound : IsSound m) (at : Moment) (later : m.clock.second ≤ at.second) (c : Change) (at_is : c.at ≡ at) (decided : IsDecided (rows_of (advance m at)) c) where
    abbrev rows : Rows
    rows = rows_in k.catalog

    abbrev arrays : SnapKey → WholeArray
    arrays = snap_array k.holdings

    abbrev disk : VolKey → WholeArray
    disk = disk_array k.holdings

    rows-at : rows_of (advance m at) ≡ aged at.second rows
    rows-at = kept.rows-at k m is at later

    good : (key : SnapKey) (row : SnapRow) → get (aged_snaps at.second rows.snaps) key ≡ Some row → IsGoodRow row
    good = now.good-now rows arrays k.clock.second m (ap (λ (n : Machine). n.snaps) is) (ap (λ (n : Machine). n.own) is) (ap (λ (n : Machine). n.tokens) is) (ap (λ (n : Machine). n.vols) is) (ap (λ (n : Machine). n.books) is) (ap (λ (n : Machine). n.policies) is) at (kept.earlier k m is at later) sound.rows

    volumes : AreGoodVolumes rows.vols
    volumes = subst AreGoodVolumes (sym (ap (λ (n : Machine). n.vols) is)) sound.volumes

    disks_are : (key : VolKey) (row : VolRow) → get rows.vols key ≡ Some row → disk_of m key ≡ disk key
    disks_are key row found = kept.disk-at k m is at later key row (ap (λ (n : Machine). get n.vols key) (sym is) ∙ found)

    made_good : IsMadeGood c.request
    made_good = made-good (aged at.second rows) c.at c.account c.shared (λ key row e. (good key row e).size) c.request
        (subst (λ (r : Rows). Passed r c.at c.account c.shared c.request) rows-at (decided-passed (rows_of (advance m at)) c decided))

    facts : Facts (aged at.second rows) c.account (made_snap c.made) c.request at.second
    facts =
        subst (λ (r : Rows). Facts r c.account (made_snap c.made) c.request at.second) rows-at
        (subst (λ (t : Moment). Facts (rows_of (advance m at)) c.account (made_snap c.made) c.request t.second) at_is
        (commits.facts (rows_of (advance m at)) c decided.request decided.answer decided.gives (timely decided.request decided.fits)))

    made_so : AreMade (aged at.second rows) at.second c.made c.sources c.request
    made_so =
        subst (λ (r : Rows). AreMade r at.second c.made c.sources c.request) rows-at
        (subst (λ (t : Moment). AreMade (rows_of (advance m at)) t.second c.made c.sources c.request) at_is (decided-made (rows_of (advance m at)) c decided))

    pub small : HasSmallIndex c.request
    small = after.small-index rows arrays disk m at (kept.array-at k m is at later) rows-at good disks_are volumes c.account (made_snap c.made) c.request facts

    pub decided-there : (there : Rows) → there ≡ rows → IsDecided (aged c.at.second there) c
    decided-there there e = subst (λ (r : Rows). IsDecided r c) (rows-at ∙ (λ i. aged (sym at_is i).second (sym e i))) decided

    pub sound-after : (bytes : List ℕ) → at.second ≤ 2 ^ 36 → m.changes < 2 ^ 40 → IsSound (changed (advance m at) bytes c)
    sound-after bytes early few =
        sound-changed (advance m at) bytes c (sound-advance m at sound early) few small
        (after.good-after rows arrays disk m at (kept.array-at k m is at later) rows-at good disks_are volumes c (ap (λ (t : Moment). t.second) at_is) facts made_so made_good)
        (subst (λ (r : Rows). AreGoodVolumes (commit r c).vols) (sym rows-at) (volumes-committed at.second c.at c.account rows (made_snap c.made) (made_vol c.made) volumes c.request made_good))

    -- a put leaves nothing of what time has ended where nothing was
    pub settled-after : (new : Rows) (holding : Holding) (source : Option Holder) (block : Block)
        → aged c.at.second new ≡ commit (aged c.at.second rows) c
        → ((q : Holder) → blocks_at holding q ≡ changes.after c.made c.sources source block (blocks_at k.holdings) c.request q)
        → writes_of c.request ≡ 1 → IsAllShown at.second rows k.holdings → IsAllShown at.second new holding
    settled-after new holding source block new_is written writes all =
        let second : c.at.second ≡ at.second = ap (λ (t : Moment). t.second) at_is in
        let is_committed : aged at.second new ≡ commit (aged at.second rows) c = (λ i. aged (sym at_is i).second new) ∙ new_is ∙ (λ i. commit (aged (at_is i).second rows) c) in
        put-all at.second rows new k.holdings holding all c.at second good c.account (made_snap c.made) (made_vol c.made) c.made c.sources source block c.request facts is_committed written writes

    abbrev block_of : List ℕ → Block
    block_of digest = record { stamp = k.stamps; digest = digest }

    pub machine-after : (bytes digest : List ℕ) → Brings c.request digest bytes → (new : Rows) (holding : Holding) (source : Option Holder) (writes : ℕ)
        → source ≡ source_in c.at.second rows c.request
        → aged c.at.second new ≡ commit (aged c.at.second rows) c
        → ((q : Holder) → blocks_at holding q ≡ changes.after c.made c.sources source (block_of digest) (blocks_at k.holdings) c.request q)
        → writes ≡ writes_of c.request
        → record (shown k) { clock = at; changes = k.changes + 1; stamps = k.stamps + writes; snaps = aged_rows at.second (with_arrays new.snaps (snap_array holding)); own = new.own; tokens = new.tokens; vols = new.vols; disks = with_disks new.vols (disk_array holding); books = new.books; policies = new.policies } ≡ changed (advance m at) bytes c
    machine-after bytes digest brings new holding source writes source_is new_is written writes_is =
        λ i. record {
          clock = at;
          changes = (is i).changes + 1;
          stamps = (is i).stamps + writes_is i;
          secret = (is i).secret;
          snaps = snaps i;
          own = own i;
          tokens = tokens i;
          vols = vols i;
          disks = disks i;
          books = books i;
          policies = policies i;
        }
      where
        is_committed : aged at.second new ≡ commit (aged at.second rows) c
        is_committed = (λ i. aged (sym at_is i).second new) ∙ new_is ∙ (λ i. commit (aged (at_is i).second rows) c)

        of_source : (q : Holder) → blocks_at holding q ≡ changes.after c.made c.sources (source_in c.at.second rows c.request) (block_of digest) (blocks_at k.holdings) c.request q
        of_source q = written q ∙ (λ i. changes.after c.made c.sources (source_is i) (block_of digest) (blocks_at k.holdings) c.request q)

        arrays_are : (q : SnapKey) → snap_array holding q ≡ copied (copies_in disk c.made c.sources c.request) q (arrays_after m.stamps digest (begun_in at.second rows arrays disk c.request) arrays (made_snap c.made) c.request q)
        arrays_are q =
            ap kept_array (of_source (of_snap q))
            ∙ snaps-written k.holdings c.at.second rows c.made c.sources (block_of digest) c.request q
            ∙ ap (copied (copies_in disk c.made c.sources c.request) q) (λ i. arrays_after (is i).stamps digest (begun_in (at_is i).second rows arrays disk c.request) arrays (made_snap c.made) c.request q)

        snaps : aged_rows at.second (with_arrays new.snaps (snap_array holding)) ≡ (changed (advance m at) bytes c).snaps
        snaps =
            after.snaps-after rows arrays disk m at (kept.array-at k m is at later) rows-at good disks_are volumes c (ap (λ (t : Moment). t.second) at_is) facts made_so bytes digest brings new.snaps (snap_array holding)
            (ap (λ (r : Rows). r.snaps) is_committed) arrays_are

        own : new.own ≡ (changed (advance m at) bytes c).own
        own = ap (λ (r : Rows). r.own) is_committed ∙ (λ i. (commit (sym rows-at i) c).own)

        tokens : new.tokens ≡ (changed (advance m at) bytes c).tokens
        tokens = ap (λ (r : Rows). r.tokens) is_committed ∙ (λ i. (commit (sym rows-at i) c).tokens)

        vols : new.vols ≡ (changed (advance m at) bytes c).vols
        vols = ap (λ (r : Rows). r.vols) is_committed ∙ (λ i. (commit (sym rows-at i) c).vols)

        books : new.books ≡ (changed (advance m at) bytes c).books
        books = ap (λ (r : Rows). r.books) is_committed ∙ (λ i. (commit (sym rows-at i) c).books)

        policies : new.policies ≡ (changed (advance m at) bytes c).policies
        policies = ap (λ (r : Rows). r.policies) is_committed ∙ (λ i. (commit (sym rows-at i) c).policies)

        disks_left : (q : VolKey) → disk_array holding q ≡ disks_after m.stamps digest (begun_in at.second rows arrays disk c.request) disk (made_vol c.made) c.request q
        disks_left q =
            ap kept_array (of_source (of_vol q))
            ∙ disks-written k.holdings c.at.second rows c.made c.sources (block_of digest) c.request q
            ∙ (λ i. disks_after (is i).stamps digest (begun_in (at_is i).second rows arrays disk c.request) disk (made_vol c.made) c.request q)

        begins : (origin : Option SnapKey) → begun_by at.second rows arrays origin ≡ begun_array (advance m at) origin
        begins origin = committed.begun-is at.second rows arrays origin ∙ after.begun-is rows arrays disk m at (kept.array-at k m is at later) rows-at good disks_are volumes origin

        disks : with_disks new.vols (disk_array holding) ≡ (changed (advance m at) bytes c).disks
        disks =
            (λ i. with_disks (ap (λ (r : Rows). r.vols) is_committed i) (λ q. disks_left q i))
            ∙ disks-committed at.second c.at c.account rows (made_snap c.made) (made_vol c.made) arrays disk m at (kept.disks_are k m is at later) begins disks_are digest bytes c.request brings facts
