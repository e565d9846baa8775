-- To whom a volume is shown, and who takes it out.
use Rattle.std.proofs.Common.{◌≡◌, ◌≢◌, ◌⊎◌, inl, inr, ℕ, ◌^◌, ◌<◌, ◌==◌, nat_le, Bool, true, false, Some, None, sym, ap, subst, ◌∙◌, refl, arith, Ok}
use Rattle.std.proofs.lemmas.Bool.Decides.{nat_tests}
use Rattle.std.specs.FinMap as fin
use Rattle.ebs_model.specs.declared.keys.VolKey.{VolKey}
use Rattle.ebs_model.specs.declared.keys.Moment.{Moment}
use Rattle.ebs_model.specs.declared.rows.VolRow.{VolRow}
use Rattle.ebs_model.specs.declared.request.Request.TheVariants.{DescribeVolume, DeleteVolume, CreateSnapshot, ReadVolumeBlock, WriteVolumeBlock}
use Rattle.ebs_model.specs.declared.answer.Answer.TheVariants.{VolumeShown, Done, Refused}
use Rattle.ebs_model.specs.declared.answer.Kind.TheVariants.{Volume as volume}
use Rattle.ebs_model.specs.declared.answer.Refusal.TheVariants.{NotFound}
use Rattle.ebs_model.specs.inner.Orders.{vols_total, exact_vols}
use Rattle.ebs_model.specs.Quotas.{most_changes}
use Rattle.ebs_model.specs.Machine.{Machine, advance}
use Rattle.ebs_model.specs.Step.{call, settled, refuse_digest}
use Rattle.ebs_laws.specs.Words.{moment_at}
use Rattle.ebs_laws.specs.AccessLaws.{IsAccepted, NamesVolume}
use Rattle.ebs_laws.specs.VolumeLaws.{OwnerIsShown, IsTakenOut, OwnerTakesOut, VolumeIsUnknown, ShownVolumeIsTheRow, DeletedVolumeIsOwn}
use Rattle.ebs_laws.proofs.Acts.{call-whole}
use Rattle.ebs_laws.proofs.Cases.{Outcome, step-cases}
use Rattle.ebs_laws.proofs.Maps.{get-gone, get-left}
use Rattle.ebs_laws.proofs.Readers.{number_is, same_number}
use Rattle.ebs_laws.proofs.Whole.{dropped}
use Rattle.ebs_model.specs.declared.request.Request.{Request}
use Rattle.sha2.specs.Sha256.{sha256}
use Rattle.ebs_model.specs.Limits.{bad_member}

module _ (at : Machine) (account : ℕ) (key : VolKey) where
  abbrev step-of : Request → Outcome
  step-of request = settled at (call at account request)

  of-key : (k : VolKey) {b : Bool} → k ≡ key → (account == key.account) ≡ b → (account == k.account) ≡ b
  of-key k same is = ap (λ (k : VolKey). account == k.account) same ∙ is

  at-key : (k : VolKey) → k ≡ key → fin.get at.vols key ≡ None → fin.get at.vols k ≡ None
  at-key k same is = ap (fin.get at.vols) same ∙ is

  describes : (row : VolRow) → (account == key.account) ≡ true → fin.get at.vols key ≡ Some row → settled at (call at account (DescribeVolume key)) ≡ (at, VolumeShown false row.size row.origin row.tags key)
  describes row mine is = ap (settled at) (call-whole at account (DescribeVolume key)) ∙ rw (mine, is) refl

  drops : (row : VolRow) → (account == key.account) ≡ true → fin.get at.vols key ≡ Some row → nat_le most_changes at.changes ≡ false → settled at (call at account (DeleteVolume key)) ≡ (dropped at key, Done)
  drops row mine is few = ap (settled at) (call-whole at account (DeleteVolume key)) ∙ rw (mine, is, few) refl

  abbrev Declined : Request → Type 0
  Declined request = step-of request ≡ (at, Refused (NotFound volume))

  of-another : (request : Request) → NamesVolume key request → bad_member request ≡ None → refuse_digest sha256 request ≡ Ok tt → (account == key.account) ≡ false → Declined request
  of-another (CreateSnapshot k text tags) same good digest other = let mine = of-key k same other in rw (good, mine) refl
  of-another (WriteVolumeBlock k index stated bytes) same good digest other = let mine = of-key k same other in rw (good, digest, mine) refl
  of-another (ReadVolumeBlock k index) same good digest other = let mine = of-key k same other in rw (good, mine) refl
  of-another (DescribeVolume k) same good digest other = let mine = of-key k same other in rw mine refl
  of-another (DeleteVolume k) same good digest other = let mine = of-key k same other in rw mine refl
  of-another request same good digest other = absurd same

  not-there : (request : Request) → NamesVolume key request → bad_member request ≡ None → refuse_digest sha256 request ≡ Ok tt → (account == key.account) ≡ true → fin.get at.vols key ≡ None → Declined request
  not-there (CreateSnapshot k text tags) same good digest mine none = let own = of-key k same mine in let gone = at-key k same none in rw (good, own, gone) refl
  not-there (WriteVolumeBlock k index stated bytes) same good digest mine none = let own = of-key k same mine in let gone = at-key k same none in rw (good, digest, own, gone) refl
  not-there (ReadVolumeBlock k index) same good digest mine none = let own = of-key k same mine in let gone = at-key k same none in rw (good, own, gone) refl
  not-there (DescribeVolume k) same good digest mine none = let own = of-key k same mine in let gone = at-key k same none in rw (own, gone) refl
  not-there (DeleteVolume k) same good digest mine none = let own = of-key k same mine in let gone = at-key k same none in rw (own, gone) refl
  not-there request same good digest mine none = absurd same

pub owner-shown : OwnerIsShown
owner-shown m account reading key row owned is = describes (advance m (moment_at m reading)) account key row (number_is account key.account owned) is

-- the machine after a volume was taken out
taken-out : (m : Machine) (reading : Moment) (key : VolKey) → IsTakenOut m reading key (dropped (advance m (moment_at m reading)) key)
taken-out m reading key = record {
  gone = get-gone vols_total exact_vols m.vols key;
  no_blocks = get-gone vols_total exact_vols m.disks key;
  other_volumes = λ k other. get-left vols_total exact_vols m.vols key k other;
  other_disks = λ k other. get-left vols_total exact_vols m.disks key k other;
  rules = refl;
  policies = refl;
  snapshots = refl;
  tokens = refl;
  accounts = refl;
}

room : (changes : ℕ) → changes < 2 ^ 40 → nat_le most_changes changes ≡ false
room changes h = grind (arith, nat_tests)

pub owner-takes : OwnerTakesOut
owner-takes m account reading key row owned is few =
    let at = advance m (moment_at m reading) in
    by (drops at account key row (number_is account key.account owned) is (room m.changes few))
  where
    by : {d : Outcome} → d ≡ (dropped (advance m (moment_at m reading)) key, Done) → (d.1 ≡ Done) × IsTakenOut m reading key d.0
    by e = (ap (λ (d : Outcome). d.1) e, subst (IsTakenOut m reading key) (ap (λ (d : Outcome). d.0) (sym e)) (taken-out m reading key))

pub volume-unknown : VolumeIsUnknown
volume-unknown m account reading request key names good digest h = by (account == key.account) refl h
  where
    by : (b : Bool) → (account == key.account) ≡ b → (account ≢ key.account) ⊎ (fin.get m.vols key ≡ None) → Declined (advance m (moment_at m reading)) account key request
    by false e h = of-another (advance m (moment_at m reading)) account key request names good digest e
    by true e (inl other) = absurd (other (same_number account key.account e))
    by true e (inr none) = not-there (advance m (moment_at m reading)) account key request names good digest e none

pub shown-volume : ShownVolumeIsTheRow
shown-volume m account reading key created gib from shown told =
    step-cases (λ d. d.1 ≡ VolumeShown created gib from shown told → (row : VolRow) × (fin.get m.vols key ≡ Some row) × (account ≡ key.account) × (created ≡ false) × (gib ≡ row.size) × (from ≡ row.origin) × (shown ≡ row.tags) × (told ≡ key))
    m account reading (DescribeVolume key)
    (λ row owned is e. (row, is, owned, cc, cc, cc, cc, cc))
    (λ refusal e. cc)

pub deleted-own : DeletedVolumeIsOwn
deleted-own m account reading key =
    step-cases (λ d. IsAccepted d.1 → (row : VolRow) × (fin.get m.vols key ≡ Some row) × (account ≡ key.account) × (d.1 ≡ Done) × IsTakenOut m reading key d.0)
    m account reading (DeleteVolume key)
    (λ row owned is accepted. (row, is, owned, refl, taken-out m reading key))
    (λ refusal accepted. absurd (accepted refusal refl))
