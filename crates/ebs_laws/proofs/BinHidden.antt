-- Who finds what is in the bin.
use Rattle.std.proofs.Common.{◌≡◌, ℕ, ◌<◌, true, arith, Option, Some, None, Err, sym, ap, subst, ◌∙◌, refl}
use Rattle.std.proofs.lemmas.Bool.Decides.{nat_tests}
use Rattle.std.specs.FinMap as fin
use Rattle.ebs_model.specs.declared.keys.SnapKey.{SnapKey}
use Rattle.ebs_model.specs.declared.keys.Moment.{Moment}
use Rattle.ebs_model.specs.declared.rows.SnapRow.{SnapRow}
use Rattle.ebs_model.specs.declared.request.Request.TheVariants.{ListChangedBlocks, RestoreFromBin}
use Rattle.ebs_model.specs.declared.answer.Kind.TheVariants.{Snapshot as snapshot}
use Rattle.ebs_model.specs.declared.answer.Refusal.TheVariants.{NotFound}
use Rattle.ebs_model.specs.Time.{Snapshot, is_ahead}
use Rattle.ebs_model.specs.Access.{seen}
use Rattle.ebs_model.specs.Machine.{Machine, advance}
use Rattle.ebs_laws.specs.Words.{second_of, moment_at}
use Rattle.ebs_laws.specs.AccessLaws.{IsAccepted}
use Rattle.ebs_laws.specs.OwnLaws.{IsPlaced}
use Rattle.ebs_laws.specs.DeletionLaws.{binned_until}
use Rattle.ebs_laws.specs.BinLaws.{IsBinned, BinnedIsNotFound, BinnedIsNotCompared, BinnedIsListed, RestoreIsFromBin}
use Rattle.ebs_laws.proofs.Acts.{row-there}
use Rattle.ebs_laws.proofs.Ages.{time-left}
use Rattle.ebs_laws.proofs.Alone.{refuses}
use Rattle.ebs_laws.proofs.Cases.{step-cases}
use Rattle.ebs_laws.proofs.Readers.{was-there, read-there, binned-owned, binned-ahead}
use Rattle.ebs_laws.proofs.Uses.{repeat-aged}
use Rattle.ebs_laws.proofs.Withdrawn.{IsUnseen, declines, others-bin, not-compared}
use Rattle.ebs_laws.proofs.Binned.{is-ahead, not-reached, stood}

seen-binned : (account : ℕ) (key : SnapKey) (now : ℕ) (row : SnapRow) → is_ahead row.bin_end now ≡ true → seen account key now row ≡ Err (NotFound snapshot)
seen-binned account key now row ahead = rw ahead refl

module _ (m : Machine) (now : Moment) (key : SnapKey) (s : Snapshot) (end : ℕ) (h : IsBinned m key s end) (early : now.second < end) where
  pub still-there : fin.get (advance m now).snaps key ≡ Some (binned_until end s)
  still-there = time-left m now key (binned_until end s) h.is_there (not-reached now.second end early) (stood s.row.completed _ h.was_whole)

  unseen : (account : ℕ) → IsUnseen (advance m now) account key
  unseen account row is =
      let same : (binned_until end s).row ≡ row = only (sym (row-there (advance m now) key (binned_until end s) still-there) ∙ is) in
      subst (λ (row : SnapRow). seen account key now.second row ≡ Err (NotFound snapshot)) same (seen-binned account key now.second (binned_until end s).row (is-ahead now.second end early))
    where
      only : {a b : SnapRow} → Some a ≡ Some b → a ≡ b
      only e = cc

pub binned-not-found : BinnedIsNotFound
binned-not-found m account reading request key s end h early names other fresh good size digest =
    let now = moment_at m reading in
    refuses (advance m now) account request (NotFound snapshot) good size digest
    (declines (advance m now) account request key names (repeat-aged m now account request ∙ fresh) (unseen m now key s end h early account) (λ asks row is. others-bin account key now.second row (other asks)))

pub binned-not-compared : BinnedIsNotCompared
binned-not-compared m account reading first second page most start a s end may h early fits digits =
    let now = moment_at m reading in
    let (is, passes) = read-there m account now first a may in
    refuses (advance m now) account (ListChangedBlocks first second page most start) (NotFound snapshot) (rw (fits, digits) refl) refl refl (not-compared (advance m now) account first second page most start a is passes (unseen m now second s end h early account))

pub binned-listed : BinnedIsListed
binned-listed m reading key s end h early = (
  record { is_there = h.is_there; not_before = omega arith; placed = (record { second = end }, refl, early) },
  λ t row. nothing (sym row.placed ∙ ap (λ (s : Snapshot). s.row.bin_end) (only (sym row.is_there ∙ h.is_there))),
)
  where
    nothing : {end : Moment} → None ≡ Some end → ⊥
    nothing e = cc

    only : {a b : Snapshot} → Some a ≡ Some b → a ≡ b
    only e = cc

pub from-bin : RestoreIsFromBin
from-bin m account reading key =
    step-cases (λ d. IsAccepted d.1 → (s : Snapshot) × (fin.get m.snaps key ≡ Some s) × (account ≡ key.account) × IsPlaced true (second_of m reading) s.row) m account reading (RestoreFromBin key)
    (λ s is passes accepted.
    let now = moment_at m reading in
    let was = was-there m now key s is in
    (was.old, was.is_there, binned-owned account key now.second s.row passes, placed was.old.row.bin_end now.second was.old.row refl (ap (λ (s : Snapshot). is_ahead s.row.bin_end now.second) was.rests ∙ binned-ahead account key now.second s.row passes)))
    (λ refusal accepted. absurd (accepted refusal refl))
  where
    placed : (end : Option Moment) (now : ℕ) (row : SnapRow) → row.bin_end ≡ end → is_ahead end now ≡ true → IsPlaced true now row
    placed None now row is ahead = cc
    placed (Some end) now row is ahead = (end, is, grind (arith, nat_tests))
