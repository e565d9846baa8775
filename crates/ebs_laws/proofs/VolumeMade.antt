-- What a creation makes.
use Rattle.std.proofs.Common.{◌≡◌, ◌⊎◌, inl, inr, ℕ, ◌+◌, ◌^◌, ◌<◌, nat_le, Bool, true, false, List, Option, Some, None, Result, Ok, unwrap_or, sym, ap, subst, ◌∙◌, refl, arith}
use Rattle.std.proofs.lemmas.Bool.Decides.{nat_tests}
use Rattle.std.specs.FinMap as fin
use Rattle.std.specs.FinMap.{nat_cmp-IsAntisymmetric}
use Rattle.std.specs.Cmp.{nat_cmp_total}
use Rattle.ebs_model.specs.declared.keys.SnapKey.{SnapKey}
use Rattle.ebs_model.specs.declared.keys.VolKey.{VolKey}
use Rattle.ebs_model.specs.declared.keys.TokenKey.{TokenKey}
use Rattle.ebs_model.specs.declared.keys.Moment.{Moment}
use Rattle.ebs_model.specs.declared.tags.Tag.{Tag}
use Rattle.ebs_model.specs.declared.rows.Own.{Own}
use Rattle.ebs_model.specs.declared.rows.VolRow.{VolRow}
use Rattle.ebs_model.specs.declared.request.Request.{Request}
use Rattle.ebs_model.specs.declared.request.Request.TheVariants.{CreateVolume}
use Rattle.ebs_model.specs.declared.answer.Answer.TheVariants.{VolumeShown}
use Rattle.ebs_model.specs.declared.answer.Refusal.{Refusal}
use Rattle.ebs_model.specs.inner.Orders.{vols_total, exact_vols, tokens_total, exact_tokens}
use Rattle.ebs_model.specs.Limits.{bad_create}
use Rattle.ebs_model.specs.Machine.{Machine, advance}
use Rattle.ebs_model.specs.Calls.Start.{with_token}
use Rattle.ebs_laws.specs.Words.{moment_at, second_of, IsNoRestore, next_volume_number, volume_number_in}
use Rattle.ebs_model.specs.Time.{Snapshot}
use Rattle.ebs_laws.specs.AccessLaws.{OriginIsForReaders}
use Rattle.ebs_laws.specs.VolumeLaws.{BeginsWith, IsCreated, VolumeIsAsAsked}
use Rattle.ebs_laws.proofs.Begun.{numbered}
use Rattle.ebs_laws.proofs.Beside.{same-next}
use Rattle.ebs_laws.proofs.Cases.{step-cases}
use Rattle.ebs_laws.proofs.Maps.{get-itself, get-other}
use Rattle.ebs_laws.proofs.Origins.{at_most, parent-found}
use Rattle.ebs_laws.proofs.Others.{CreateTests}
use Rattle.ebs_laws.proofs.Readers.{was-there, may-read, read-there, base-ready}
use Rattle.ebs_laws.proofs.Uses.{unused-later}
use Rattle.ebs_laws.proofs.VolumeOrder.{volume-numbered}
use Rattle.ebs_laws.proofs.Whole.{own_of, Origin, of_no_origin, next_volume, volume_row, creation, created}

-- an answer's fields are the other's
pub told : (P : ℕ → Option SnapKey → List Tag → VolKey → Type 0) {a b : Bool} {g h : ℕ} {p q : Option SnapKey} {t u : List Tag} {k l : VolKey} → VolumeShown a g p t k ≡ VolumeShown b h q u l → P g p t k → (b ≡ a) × P h q u l
told P {g = g} {h = h} {p = p} {q = q} {t = t} {u = u} {k = k} {l = l} e x =
    let gs : g ≡ h = cc in
    let ps : p ≡ q = cc in
    let ts : t ≡ u = cc in
    let ks : k ≡ l = cc in
    (cc, subst (λ g. P g q u l) gs (subst (λ p. P g p u l) ps (subst (λ t. P g p t l) ts (subst (λ k. P g p t k) ks x))))

-- the size that is made
sizes : (size : Option ℕ) (least : ℕ) → (size ≡ Some (unwrap_or size least)) ⊎ ((size ≡ None) × (unwrap_or size least ≡ least))
sizes None least = inr (refl, refl)
sizes (Some size) least = inl refl

sized : (size : Option ℕ) (tags : List Tag) (token : Option (List ℕ)) (least : ℕ) → bad_create None size tags token ≡ None → size ≡ Some (unwrap_or size least)
sized None tags token least e = cc
sized (Some size) tags token least e = refl

begun_is : (a b : Origin) → ◌≡◌ {A = Result Origin Refusal} (Ok a) (Ok b) → a ≡ b
begun_is a b e = cc

below : (a b : ℕ) → nat_le b a ≡ false → a < b
below a b e = grind (arith, nat_tests)

module _ (m : Machine) (account : ℕ) (reading : Moment) (size : Option ℕ) (tags : List Tag) (token : Option (List ℕ)) (begun : Origin) where
  abbrev at : Machine
  at = advance m (moment_at m reading)

  abbrev given : VolKey
  given = next_volume at account

  begins : (from : Option SnapKey) → CreateTests at account from size tags token begun → BeginsWith m account (second_of m reading) from size given (volume_row given (unwrap_or size begun.size) begun.line from tags) begun.array
  begins None tests =
      let same : of_no_origin given ≡ begun = begun_is (of_no_origin given) begun tests.begins_with in
      (sized size tags token begun.size tests.good, ap (λ (o : Origin). o.line) (sym same), ap (λ (o : Origin). o.array) (sym same))
  begins (Some from) tests =
      let now = moment_at m reading in
      let (s, is, passes, same) = parent-found at account (record { account = account; number = 0 }) begun from tests.begins_with in
      let (reads, tier) = base-ready account from now.second s.row passes in
      let was = was-there m now from s is in
      let (old, may) = may-read m account now from s is reads in
      let one : Some old ≡ Some was.old = sym may.is_there ∙ was.is_there in
      let which : old ≡ was.old = cc in
      let gib : begun.size ≡ old.row.size = ap (λ (o : Origin). o.size) (sym same) ∙ sym (ap (λ (s : Snapshot). s.row.size) was.rests) ∙ sym (ap (λ (s : Snapshot). s.row.size) which) in
      let least = at_most (unwrap_or size begun.size) begun.size tests.reaches in (
        old,
        may,
        subst IsNoRestore (ap (λ (s : Snapshot). s.row.tier) (sym was.rests) ∙ ap (λ (s : Snapshot). s.row.tier) (sym which)) tier,
        ap (λ (o : Origin). o.line) (sym same) ∙ sym (ap (λ (s : Snapshot). s.row.line) was.rests) ∙ sym (ap (λ (s : Snapshot). s.row.line) which),
        ap (λ (o : Origin). o.array) (sym same) ∙ ap (λ (s : Snapshot). s.array) (only (sym is ∙ (read-there m account now from old may).0)),
        omega (arith, gib, least),
        by (sizes size begun.size) gib,
      )
    where
      only : {a b : Snapshot} → Some a ≡ Some b → a ≡ b
      only e = cc

      by : {n : ℕ} → ((size ≡ Some (unwrap_or size begun.size)) ⊎ ((size ≡ None) × (unwrap_or size begun.size ≡ begun.size))) → begun.size ≡ n → (size ≡ Some (unwrap_or size begun.size)) ⊎ ((size ≡ None) × (unwrap_or size begun.size ≡ n))
      by (inl asked) gib = inl asked
      by (inr (none, is)) gib = inr (none, is ∙ gib)

  module _ (from : Option SnapKey) (tests : CreateTests at account from size tags token begun) where
    abbrev row : VolRow
    row = volume_row given (unwrap_or size begun.size) begun.line from tags

    abbrev new : Machine
    new = created at given row begun.array token

    abbrev own : Own
    own = record (own_of at account) { next_vol = given.number + 1 }

    number : given.number ≡ next_volume_number m account
    number = sym (volume-numbered (fin.get m.own account))

    kept-tokens : (used : Option (List ℕ)) (first : Request) (k : TokenKey) → (k.account ≡ account → used ≡ Some k.text → ⊥) → fin.get (with_token m.tokens at.clock account given.number first used) k ≡ fin.get m.tokens k
    kept-tokens None first k h = refl
    kept-tokens (Some text) first k h =
        get-other tokens_total exact_tokens m.tokens (record { account = account; text = text }) (record { at = at.clock; first = first; number = given.number }) k
        (λ same. h (ap (λ (k : TokenKey). k.account) same) (ap (λ (k : TokenKey). Some k.text) (sym same)))

    made : IsCreated m account reading from size tags token (unwrap_or size begun.size) from tags given new
    made = record {
      row = row;
      is_there = get-itself vols_total exact_vols m.vols given row;
      owned = refl;
      number_is = number;
      number_fits = below given.number (2 ^ 28) tests.number;
      key_is = refl;
      origin_is = refl;
      tags_are = refl;
      blocks = begun.array;
      disk_is = get-itself vols_total exact_vols m.disks given begun.array;
      begins = begins from tests;
      size_is = refl;
      from_is = refl;
      shown_are = refl;
      few = below _ 1000 tests.few;
      other_volumes = λ k other. get-other vols_total exact_vols m.vols given row k other;
      other_disks = λ k other. get-other vols_total exact_vols m.disks given begun.array k other;
      rules = refl;
      policies = refl;
      snapshots = refl;
      other_tokens = kept-tokens token (creation row token);
      snapshot_numbers = λ a. numbered (fin.get new.own a) ∙ same-next at given row begun.array token a ∙ sym (numbered (fin.get m.own a));
      volume_numbers = ap volume_number_in (get-itself nat_cmp_total nat_cmp-IsAntisymmetric m.own account own) ∙ ap (λ n. n + 1) number;
      other_numbers = λ a other. get-other nat_cmp_total nat_cmp-IsAntisymmetric m.own account own a other;
    }

pub volume-asked : VolumeIsAsAsked
volume-asked m account reading from size tags token created_so gib shown_from shown key unused =
    step-cases (λ d. d.1 ≡ VolumeShown created_so gib shown_from shown key → (created_so ≡ true) × IsCreated m account reading from size tags token gib shown_from shown key d.0)
    m account reading (CreateVolume from size tags token) (
      λ begun tests e. told (λ g p t k. IsCreated m account reading from size tags token g p t k (new m account reading size tags token begun from tests)) e (made m account reading size tags token begun from tests),
      λ row tests e. absurd (unused-later m (moment_at m reading) account token row unused tests.used),
    )
    (λ refusal e. cc)

pub origin-readers : OriginIsForReaders
origin-readers m account reading origin size tags token created_so gib from shown key unused e =
    let asked = volume-asked m account reading (Some origin) size tags token created_so gib from shown key unused e in
    let (s, may, tier, line, blocks, least, made) = asked.1.begins in
    (s, may, tier)
