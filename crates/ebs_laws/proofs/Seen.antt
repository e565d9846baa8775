-- To whom a snapshot is there.
use Rattle.std.proofs.Common.{◌≡◌, ◌≢◌, ℕ, Bool, true, false, ◌==◌, ◌&&◌, List, Option, Some, Ok, sym, ap, subst, ◌∙◌, refl}
use Rattle.std.specs.FinMap as fin
use Rattle.std.specs.FinMap.{nat_cmp-IsAntisymmetric}
use Rattle.std.specs.Cmp.{nat_cmp_total}
use Rattle.ebs_model.specs.declared.keys.SnapKey.{SnapKey}
use Rattle.ebs_model.specs.declared.keys.VolKey.{VolKey}
use Rattle.ebs_model.specs.declared.keys.Moment.{Moment}
use Rattle.ebs_model.specs.declared.rows.Line.{Line}
use Rattle.ebs_model.specs.declared.tags.Tag.{Tag}
use Rattle.ebs_model.specs.declared.entries.BlockEntry.{BlockEntry}
use Rattle.ebs_model.specs.declared.entries.ChangedToken.{ChangedToken}
use Rattle.ebs_model.specs.declared.request.Request.{Request}
use Rattle.ebs_model.specs.declared.request.Request.TheVariants.{StartSnapshot, PutSnapshotBlock, CompleteSnapshot, ListSnapshotBlocks, ListChangedBlocks, GetSnapshotBlock, ModifyPermission}
use Rattle.ebs_model.specs.declared.answer.Answer.TheVariants.{Started, BlockWritten, Completed, BlockList, ChangedList, BlockRead, Done}
use Rattle.ebs_model.specs.Time.{Snapshot, rested}
use Rattle.ebs_model.specs.Access.{open_upload}
use Rattle.ebs_model.specs.Machine.{Machine, advance}
use Rattle.ebs_model.specs.Calls.List.{is_same_line, are_alike}
use Rattle.ebs_model.specs.inner.Orders.{snaps_total, exact_snaps}
use Rattle.ebs_laws.specs.Words.{moment_at, MayRead, MayWrite, MayShare, IsNoRestore}
use Rattle.ebs_laws.specs.AccessLaws.{BlockIsForReaders, ListIsForReaders, ComparisonIsForReaders, ParentIsForReaders, PutIsForOwner, CompleteIsForOwner, SharingIsForOwner, OthersChangeNothing, OthersChangeNoAccount}
use Rattle.ebs_laws.proofs.Maps.{get-other, get-left}
use Rattle.ebs_laws.proofs.Cases.{Outcome, Accepted, step-cases}
use Rattle.ebs_laws.proofs.Others.{others}
use Rattle.ebs_laws.proofs.Uses.{unused-later}
use Rattle.ebs_laws.proofs.Origins.{parent-found}
use Rattle.ebs_laws.proofs.Readers.{was-there, may-read, may-write, may-share, base-ready, open-owned, same_number}
use Rattle.ebs_laws.proofs.Whole.{own_of}
use Rattle.ebs_laws.proofs.PolicyRuns.{left-other}

module _ (m : Machine) (account : ℕ) (now : Moment) where
  abbrev ReadsBlock : SnapKey → List ℕ → List ℕ → Outcome → Type 0
  ReadsBlock key digest bytes d = d.1 ≡ BlockRead digest bytes → (s : Snapshot) × MayRead m account key now.second s

  abbrev ReadsList : SnapKey → List BlockEntry → Moment → Option (List ℕ) → ℕ → Outcome → Type 0
  ReadsList key entries expiry next size d = d.1 ≡ BlockList entries expiry next size → (s : Snapshot) × MayRead m account key now.second s

  abbrev Compares : SnapKey → SnapKey → List ChangedToken → Moment → Option (List ℕ) → ℕ → Outcome → Type 0
  Compares first second entries expiry next size d = d.1 ≡ ChangedList entries expiry next size → (a : Snapshot) × (b : Snapshot) × MayRead m account first now.second a × MayRead m account second now.second b × (a.row.line ≡ b.row.line)

  abbrev Begins : SnapKey → Option (List ℕ) → ℕ → Option SnapKey → SnapKey → Moment → List Tag → ℕ → Outcome → Type 0
  Begins parent told owner from key begin shown gib d = d.1 ≡ Started told owner from key begin shown gib → (s : Snapshot) × MayRead m account parent now.second s × IsNoRestore s.row.tier

  abbrev Writes : SnapKey → List ℕ → Outcome → Type 0
  Writes key stated d = d.1 ≡ BlockWritten stated → (s : Snapshot) × MayWrite m account key now.second s

  abbrev Shares : SnapKey → Outcome → Type 0
  Shares key d = d.1 ≡ Done → (s : Snapshot) × MayShare m account key s

  abbrev Ends : SnapKey → Outcome → Type 0
  Ends key d = d.1 ≡ Completed → (s : Snapshot) × MayWrite m account key now.second s

pub block-readers : BlockIsForReaders
block-readers m account reading key index token digest bytes =
    step-cases (ReadsBlock m account (moment_at m reading) key digest bytes) m account reading (GetSnapshotBlock key index token)
    (λ s is passes good block there e. may-read m account (moment_at m reading) key s is passes)
    (λ refusal e. cc)

pub list-readers : ListIsForReaders
list-readers m account reading key page most start entries expiry next size =
    step-cases (ReadsList m account (moment_at m reading) key entries expiry next size) m account reading (ListSnapshotBlocks key page most start)
    (λ s is passes index at e. may-read m account (moment_at m reading) key s is passes)
    (λ refusal e. cc)

pub same-line : (a b : Line) → is_same_line a b ≡ true → a ≡ b
same-line a b e = by a.of_volume b.of_volume refl refl (a.account == b.account) (a.number == b.number) refl refl e
  where
    by : (v w : Bool) → a.of_volume ≡ v → b.of_volume ≡ w → (t u : Bool) → (a.account == b.account) ≡ t → (a.number == b.number) ≡ u → (are_alike v w && (t && u)) ≡ true → a ≡ b
    by true true av bv true true at an e = λ i. record { of_volume = (av ∙ sym bv) i; account = same_number a.account b.account at i; number = same_number a.number b.number an i }
    by false false av bv true true at an e = λ i. record { of_volume = (av ∙ sym bv) i; account = same_number a.account b.account at i; number = same_number a.number b.number an i }
    by true false av bv t u at an e = cc
    by false true av bv t u at an e = cc
    by true true av bv false u at an e = cc
    by true true av bv true false at an e = cc
    by false false av bv false u at an e = cc
    by false false av bv true false at an e = cc

pub comparison-readers : ComparisonIsForReaders
comparison-readers m account reading first second page most start entries expiry next size =
    let now = moment_at m reading in
    step-cases (Compares m account now first second entries expiry next size) m account reading (ListChangedBlocks first second page most start)
    (λ a b index tests e.
    let one = was-there m now first a tests.first_is in
    let two = was-there m now second b tests.second_is in
    let (old, reads) = may-read m account now first a tests.first_is tests.first_ready in
    let (other, too) = may-read m account now second b tests.second_is tests.second_ready in
    let here : old.row.line ≡ a.row.line = lines now first a old one.old reads.is_there one.is_there one.rests in
    let there : other.row.line ≡ b.row.line = lines now second b other two.old too.is_there two.is_there two.rests in
    (old, other, reads, too, here ∙ same-line a.row.line b.row.line tests.one_line ∙ sym there))
    (λ refusal e. cc)
  where
    lines : (now : Moment) (key : SnapKey) (s x : Snapshot) (old : Snapshot) → fin.get m.snaps key ≡ Some x → fin.get m.snaps key ≡ Some old → rested now.second old ≡ s → x.row.line ≡ s.row.line
    lines now key s x old is was rests = let same : Some x ≡ Some old = sym is ∙ was in let one : x ≡ old = cc in ap (λ (s : Snapshot). s.row.line) one ∙ ap (λ (s : Snapshot). s.row.line) rests

pub parent-readers : ParentIsForReaders
parent-readers m account reading size parent text tags token timeout told owner from key begin shown gib unused =
    let now = moment_at m reading in
    step-cases (Begins m account now parent told owner from key begin shown gib) m account reading (StartSnapshot size (Some parent) text tags token timeout) (
      λ origin tests e.
          let (s, is, passes, same) = parent-found (advance m now) account (record { account = account; number = (own_of (advance m now) account).next_snap }) origin parent tests.begins_with in
          let (reads, tier) = base-ready account parent now.second s.row passes in
          let was = was-there m now parent s is in
          let (old, may) = may-read m account now parent s is reads in
          let one : Some old ≡ Some was.old = sym may.is_there ∙ was.is_there in
          let which : old ≡ was.old = cc in
          (old, may, subst IsNoRestore (ap (λ (s : Snapshot). s.row.tier) (sym was.rests) ∙ ap (λ (s : Snapshot). s.row.tier) (sym which)) tier),
      λ row tests e. absurd (unused-later m now account token row unused tests.used),
    )
    (λ refusal e. cc)

pub put-owner : PutIsForOwner
put-owner m account reading key index digest bytes stated =
    step-cases (Writes m account (moment_at m reading) key stated) m account reading (PutSnapshotBlock key index digest bytes)
    (λ s is passes tests e. may-write m account (moment_at m reading) key s is passes)
    (λ refusal e. cc)

pub complete-owner : CompleteIsForOwner
complete-owner m account reading key count checksum =
    step-cases (Ends m account (moment_at m reading) key) m account reading (CompleteSnapshot key count checksum)
    (λ s is passes tests e. may-write m account (moment_at m reading) key s is passes)
    (λ refusal e. cc)

pub sharing-owner : SharingIsForOwner
sharing-owner m account reading key add add_all remove remove_all =
    step-cases (Shares m account (moment_at m reading) key) m account reading (ModifyPermission key add add_all remove remove_all)
    (λ s is passes few e. may-share m account (moment_at m reading) key s is passes)
    (λ refusal e. cc)

-- another's row stays
module _ (m : Machine) (account : ℕ) (key : SnapKey) (other : key.account ≢ account) where
  abbrev Stays : Outcome → Type 0
  Stays d = fin.get d.0.snaps key ≡ fin.get m.snaps key

  not_key : (k : SnapKey) (s : Snapshot) → open_upload account k m.clock.second s.row ≡ Ok tt → key ≢ k
  not_key k s passes same = let mine = (open-owned account k m.clock.second s.row passes).1 in other (ap (λ k. k.account) same ∙ sym mine)

  stays-accepted : (request : Request) → Accepted Stays m account request
  stays-accepted (StartSnapshot size parent description tags token timeout) = (λ from tests. get-other snaps_total exact_snaps m.snaps _ _ key (λ same. other (ap (λ k. k.account) same)), λ row tests. refl)
  stays-accepted (PutSnapshotBlock k index digest bytes) = λ s is passes tests. get-other snaps_total exact_snaps m.snaps k _ key (not_key k s passes)
  stays-accepted (CompleteSnapshot k count checksum) = λ s is passes tests. get-other snaps_total exact_snaps m.snaps k _ key (not_key k s passes)
  stays-accepted request = others Stays m account request (λ answer says. refl) (λ k s row answer is same says. get-other snaps_total exact_snaps m.snaps k _ key (λ e. other (ap (λ k. k.account) e ∙ sym same.owned)))
      (λ k s answer is same says. get-left snaps_total exact_snaps m.snaps k key (λ e. other (ap (λ k. k.account) e ∙ sym same.owned))) (λ k row array token answer is says. refl) (λ k row answer there is says. refl) (λ v row text tags is made. get-other snaps_total exact_snaps m.snaps _ _ key (λ same. other (ap (λ k. k.account) same))) (λ v row i digest bytes is asked. refl) (λ command change answer is says. refl)
      (λ snaps own policies answer is says. left-other m account own key other (fin.get snaps key) (is.leaves key))

pub others-stay : OthersChangeNothing
others-stay m account reading request key other =
    let at = advance m (moment_at m reading) in
    step-cases (Stays at account key other) m account reading request (stays-accepted at account key other request) (λ refusal. refl)

-- another's counters stay
module _ (m : Machine) (account other : ℕ) (apart : other ≢ account) where
  abbrev SameAccount : Outcome → Type 0
  SameAccount d = fin.get d.0.own other ≡ fin.get m.own other

  account-accepted : (request : Request) → Accepted SameAccount m account request
  account-accepted (StartSnapshot size parent description tags token timeout) = (λ from tests. get-other nat_cmp_total nat_cmp-IsAntisymmetric m.own account _ other apart, λ row tests. refl)
  account-accepted (PutSnapshotBlock k index digest bytes) = λ s is passes tests. refl
  account-accepted (CompleteSnapshot k count checksum) = λ s is passes tests. refl
  account-accepted request = others SameAccount m account request (λ answer says. refl) (λ k s row answer is same says. refl) (λ k s answer is same says. refl) (λ k row array token answer is says. get-other nat_cmp_total nat_cmp-IsAntisymmetric m.own k.account _ other (λ e. apart (e ∙ ap (λ (k : VolKey). k.account) is.key_is))) (λ k row answer there is says. refl) (λ v row text tags is made. get-other nat_cmp_total nat_cmp-IsAntisymmetric m.own account _ other apart) (λ v row i digest bytes is asked. refl) (λ command change answer is says. refl) (λ snaps own policies answer is says. is.other_own other apart)

pub accounts-stay : OthersChangeNoAccount
accounts-stay m account reading request other apart =
    let at = advance m (moment_at m reading) in
    step-cases (SameAccount at account other apart) m account reading request (account-accepted at account other apart request) (λ refusal. refl)
