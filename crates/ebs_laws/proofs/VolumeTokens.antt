-- A creation that is repeated gets the first answer.
use Rattle.std.proofs.Common.{◌≡◌, inl, inr, ℕ, ◌==◌, Bool, true, false, not, ◌&&◌, List, Option, Some, None, Ok, unwrap_or, sym, ap, ◌∙◌, refl}
use Rattle.std.specs.FinMap as fin
use Rattle.ebs_model.specs.declared.keys.SnapKey.{SnapKey}
use Rattle.ebs_model.specs.declared.keys.VolKey.{VolKey}
use Rattle.ebs_model.specs.declared.keys.Moment.{Moment}
use Rattle.ebs_model.specs.declared.tags.Tag.{Tag}
use Rattle.ebs_model.specs.declared.rows.TokenRow.{TokenRow}
use Rattle.ebs_model.specs.declared.request.Request.{Request}
use Rattle.ebs_model.specs.declared.request.Request.TheVariants.{StartSnapshot, CreateVolume}
use Rattle.ebs_model.specs.declared.answer.Answer.TheVariants.{Started, VolumeShown, Refused}
use Rattle.ebs_model.specs.declared.answer.FirstKey.TheVariants.{Snap, Vol}
use Rattle.ebs_model.specs.declared.answer.Refusal.TheVariants.{BadSize, TokenConflict}
use Rattle.ebs_model.specs.inner.Orders.{tokens_total, exact_tokens}
use Rattle.ebs_model.specs.Refuse.{refuse_if}
use Rattle.ebs_model.specs.Limits.{bad_create, is_size, is_size_given}
use Rattle.ebs_model.specs.Calls.Start.{is_same_parent, is_same_start, key_by, first_key}
use Rattle.ebs_model.specs.Calls.Volume.{is_same_size, is_same_create, made_size, first_volume}
use Rattle.ebs_model.specs.Machine.{Machine, advance}
use Rattle.ebs_model.specs.Step.{call, settled, step}
use Rattle.ebs_model.specs.Timed.{after_all}
use Rattle.ebs_laws.specs.Words.{moment_at, use_of, created_id}
use Rattle.ebs_laws.specs.VolumeLaws.{IsSizeMade, CreationActsOnce, SizeMadeIsTheSame, OtherCreationConflicts, StartConflictsWithVolume, CreationConflictsWithStart, CreationKeepsToken, CreationTellsFirst}
use Rattle.ebs_laws.proofs.Cases.{Outcome, step-cases}
use Rattle.ebs_laws.proofs.Maps.{get-itself}
use Rattle.ebs_laws.proofs.Readers.{same_number}
use Rattle.ebs_laws.proofs.KeptTokens as kept
use Rattle.ebs_laws.proofs.KeptTokens.{number_itself, both, tags-itself, parent-itself, same-parent, same-tags, same-fields, uses-step, tokens-stay, sized, turned}
use Rattle.ebs_laws.proofs.Uses.{use-aged, unused-later}

-- a creation is the same as itself, and its size as the one that was made
size-itself : (size : Option ℕ) (least : ℕ) → is_same_size (Some (unwrap_or size least)) size ≡ true
size-itself None least = refl
size-itself (Some size) least = number_itself size

creation-itself : (origin : Option SnapKey) (size again : Option ℕ) (tags : List Tag) (token : Option (List ℕ)) → is_same_size size again ≡ true → is_same_create (CreateVolume origin size tags token) origin again tags ≡ true
creation-itself origin size again tags token same = λ i. parent-itself origin i && (same i && tags-itself tags i)

-- and what is the same creation has the same fields
record HasFields (first : Request) (origin : Option SnapKey) (size : Option ℕ) (tags : List Tag) : Type 0 where
  made : Option ℕ
  token : Option (List ℕ)
  is : first ≡ CreateVolume origin made tags token
  size_is : is_same_size made size ≡ true

creation-fields : (first : Request) (origin : Option SnapKey) (size : Option ℕ) (tags : List Tag) → is_same_create first origin size tags ≡ true → HasFields first origin size tags
creation-fields (CreateVolume o s t token) origin size tags e =
    let (origins, e) = both (is_same_parent o origin) _ e in
    let (sizes, lists) = both (is_same_size s size) _ e in
    record { made = s; token = token; is = λ i. CreateVolume (same-parent o origin origins i) s (same-tags t tags lists i) token; size_is = sizes }
creation-fields first origin size tags e = cc

-- the use that a creation leaves of its token
record IsMade (account : ℕ) (origin : Option SnapKey) (size : Option ℕ) (tags : List Tag) (token : List ℕ) (d : Outcome) : Type 0 where
  row : TokenRow
  used : fin.get d.0.tokens (record { account = account; text = token }) ≡ Some row
  same : is_same_create row.first origin size tags ≡ true
  good : bad_create origin size tags (Some token) ≡ None
  fits : is_size_given size ≡ true
  answer_is : d.1 ≡ VolumeShown true (made_size row.first) origin tags (first_volume account row)

made-step : (m : Machine) (account : ℕ) (reading : Moment) (origin : Option SnapKey) (size : Option ℕ) (tags : List Tag) (token : List ℕ) (created : Bool) (gib : ℕ) (from : Option SnapKey) (shown : List Tag) (key : VolKey)
    → let s = step m account reading (CreateVolume origin size tags (Some token)) in s.1 ≡ VolumeShown created gib from shown key → IsMade account origin size tags token s
made-step m account reading origin size tags token created gib from shown key =
    step-cases (λ d. d.1 ≡ VolumeShown created gib from shown key → IsMade account origin size tags token d) m account reading (CreateVolume origin size tags (Some token)) (
      λ begun tests e. record {
        row = _;
        used = get-itself tokens_total exact_tokens m.tokens (record { account = account; text = token }) _;
        same = creation-itself origin (Some (unwrap_or size begun.size)) size tags (Some token) (size-itself size begun.size);
        good = tests.good;
        fits = tests.fits;
        answer_is = refl;
      },
      λ row tests e. record { row = row; used = tests.used; same = tests.same; good = tests.good; fits = tests.fits; answer_is = refl },
    )
    (λ refusal e. cc)

-- a creation whose token was used
module _ (at : Machine) (account : ℕ) (origin : Option SnapKey) (size : Option ℕ) (tags : List Tag) (token : List ℕ) (row : TokenRow) (used : use_of at account (Some token) ≡ Some row) (good : bad_create origin size tags (Some token) ≡ None) (fits : is_size_given size ≡ true) where
  repeats : is_same_create row.first origin size tags ≡ true → settled at (call at account (CreateVolume origin size tags (Some token))) ≡ (at, VolumeShown true (made_size row.first) origin tags (first_volume account row))
  repeats same = rw (good, fits, used, same) refl

  conflicts : is_same_create row.first origin size tags ≡ false → settled at (call at account (CreateVolume origin size tags (Some token))) ≡ (at, Refused (TokenConflict (first_key account row)))
  conflicts other = rw (good, fits, used, other) refl

fitting : (size : Option ℕ) → refuse_if (not (is_size_given size)) BadSize ≡ Ok tt → is_size_given size ≡ true
fitting size e = turned (is_size_given size) (sized (not (is_size_given size)) e)

pub creation-once : CreationActsOnce
creation-once m turns account reading later origin size tags token created gib from shown key e =
    let s = step m account reading (CreateVolume origin size tags (Some token)) in
    let n = after_all s.0 turns in
    let one = made-step m account reading origin size tags token created gib from shown key e in
    let used = tokens-stay s.0 turns (record { account = account; text = token }) one.row one.used in
    repeats (advance n (moment_at n later)) account origin size tags token one.row used one.good one.fits one.same
    ∙ ap (λ answer. (advance n (moment_at n later), answer)) (sym one.answer_is)

-- which volume the answer told
key-told : {a b : Bool} {g h : ℕ} {p q : Option SnapKey} {t u : List Tag} {k l : VolKey} → VolumeShown a g p t k ≡ VolumeShown b h q u l → k ≡ l
key-told e = cc

size-told : {a b : Bool} {g h : ℕ} {p q : Option SnapKey} {t u : List Tag} {k l : VolKey} → VolumeShown a g p t k ≡ VolumeShown b h q u l → g ≡ h
size-told e = cc

pub creation-keeps : CreationKeepsToken
creation-keeps m account reading origin size tags token created gib from shown key unused =
    step-cases (λ d. d.1 ≡ VolumeShown created gib from shown key → fin.get d.0.tokens (record { account = account; text = token }) ≡ Some (record { at = moment_at m reading; first = CreateVolume origin (Some gib) tags (Some token); number = key.number }))
    m account reading (CreateVolume origin size tags (Some token)) (
      λ begun tests e.
          get-itself tokens_total exact_tokens m.tokens (record { account = account; text = token }) (record { at = moment_at m reading; first = CreateVolume origin (Some (unwrap_or size begun.size)) tags (Some token); number = _ })
          ∙ (λ i. Some (record { at = moment_at m reading; first = CreateVolume origin (Some (size-told e i)) tags (Some token); number = (key-told e i).number })),
      λ row tests e. absurd (unused-later m (moment_at m reading) account (Some token) row unused tests.used),
    )
    (λ refusal e. cc)

same-made : (gib : ℕ) (again : Option ℕ) → IsSizeMade again gib → is_same_size (Some gib) again ≡ true
same-made gib None h = refl
same-made gib (Some size) (inl e) = cc
same-made gib (Some size) (inr e) = let one : size ≡ gib = cc in ap (λ n. gib == n) one ∙ number_itself gib

only : {a b : TokenRow} → Some a ≡ Some b → a ≡ b
only e = cc

pub size-made : SizeMadeIsTheSame
size-made m turns account reading later origin size tags token created gib from shown key again unused e same good fits =
    let s = step m account reading (CreateVolume origin size tags (Some token)) in
    let n = after_all s.0 turns in
    let one = made-step m account reading origin size tags token created gib from shown key e in
    let used = tokens-stay s.0 turns (record { account = account; text = token }) one.row one.used in
    let first = only (sym one.used ∙ creation-keeps m account reading origin size tags token created gib from shown key unused e) in
    repeats (advance n (moment_at n later)) account origin again tags token one.row used good (fitting again fits)
    (ap (λ (r : TokenRow). is_same_create r.first origin again tags) first ∙ creation-itself origin (Some gib) again tags (Some token) (same-made gib again same))
    ∙ ap (λ answer. (advance n (moment_at n later), answer)) (sym one.answer_is)

-- two creations that are the same as one are the same but for a size that is absent
fields-told : {o p : Option SnapKey} {s r : Option ℕ} {t u : List Tag} {v w : Option (List ℕ)} → CreateVolume o s t v ≡ CreateVolume p r u w → (o ≡ p) × (t ≡ u)
fields-told e = (cc, cc)

made-so : (made size : Option ℕ) (gib : ℕ) → is_same_size made size ≡ true → unwrap_or made 0 ≡ gib → IsSizeMade size gib
made-so made None gib same is = inl refl
made-so None (Some size) gib same is = cc
made-so (Some made) (Some size) gib same is = inr (ap Some (sym (same_number made size same) ∙ is))

other-creation : (first : Request) (origin other_origin : Option SnapKey) (size other_size : Option ℕ) (tags other_tags : List Tag) (gib : ℕ) → is_same_create first origin size tags ≡ true → made_size first ≡ gib
    → ((other_origin ≡ origin) × (other_tags ≡ tags) × IsSizeMade other_size gib → ⊥) → is_same_create first other_origin other_size other_tags ≡ false
other-creation first origin other_origin size other_size tags other_tags gib same gib_is other = by (is_same_create first other_origin other_size other_tags) refl
  where
    by : (b : Bool) → is_same_create first other_origin other_size other_tags ≡ b → is_same_create first other_origin other_size other_tags ≡ false
    by false e = e
    by true e =
        let one = creation-fields first origin size tags same in
        let two = creation-fields first other_origin other_size other_tags e in
        let alike = fields-told (sym two.is ∙ one.is) in
        absurd (other (alike.0, alike.1, made-so two.made other_size gib two.size_is (sym (ap made_size two.is) ∙ gib_is)))

-- the volume of a token's first use
first-volume : (account : ℕ) (row : TokenRow) (origin : Option SnapKey) (size : Option ℕ) (tags : List Tag) → is_same_create row.first origin size tags ≡ true → first_key account row ≡ Vol (first_volume account row)
first-volume account row origin size tags same = ap (λ first. key_by first account row.number) (creation-fields row.first origin size tags same).is

pub other-creation-conflicts : OtherCreationConflicts
other-creation-conflicts m turns account reading later origin size tags token created gib from shown key other_origin other_size other_tags e other good fits =
    let s = step m account reading (CreateVolume origin size tags (Some token)) in
    let n = after_all s.0 turns in
    let one = made-step m account reading origin size tags token created gib from shown key e in
    let used = tokens-stay s.0 turns (record { account = account; text = token }) one.row one.used in
    let answer = sym one.answer_is ∙ e in
    conflicts (advance n (moment_at n later)) account other_origin other_size other_tags token one.row used good (fitting other_size fits)
    (other-creation one.row.first origin other_origin size other_size tags other_tags gib one.same (size-told answer) other)
    ∙ ap (λ k. (advance n (moment_at n later), Refused (TokenConflict k))) (first-volume account one.row origin size tags one.same ∙ ap Vol (key-told answer))

-- a start isn't the same as a creation
no-start : (first : Request) (origin : Option SnapKey) (made : Option ℕ) (made_tags : List Tag) (token : Option (List ℕ)) (size : ℕ) (parent : Option SnapKey) (text : Option (List ℕ)) (tags : List Tag) (timeout : ℕ)
    → first ≡ CreateVolume origin made made_tags token → is_same_start first size parent text tags timeout ≡ false
no-start first origin made made_tags token size parent text tags timeout e = ap (λ first. is_same_start first size parent text tags timeout) e

pub start-conflicts : StartConflictsWithVolume
start-conflicts m turns account reading later origin size tags token created gib from shown key other_size parent text other_tags timeout e good fits =
    let s = step m account reading (CreateVolume origin size tags (Some token)) in
    let n = after_all s.0 turns in
    let one = made-step m account reading origin size tags token created gib from shown key e in
    let used = tokens-stay s.0 turns (record { account = account; text = token }) one.row one.used in
    let fields = creation-fields one.row.first origin size tags one.same in
    kept.conflicts (advance n (moment_at n later)) account other_size parent text other_tags token timeout one.row used good (turned (is_size other_size) (sized (not (is_size other_size)) fits))
    (no-start one.row.first origin fields.made tags fields.token other_size parent text other_tags timeout fields.is)
    ∙ ap (λ k. (advance n (moment_at n later), Refused (TokenConflict k))) (first-volume account one.row origin size tags one.same ∙ ap Vol (key-told (sym one.answer_is ∙ e)))

no-creation : (first : Request) (size : ℕ) (parent : Option SnapKey) (text : Option (List ℕ)) (made_tags : List Tag) (token : Option (List ℕ)) (timeout : ℕ) (origin : Option SnapKey) (other_size : Option ℕ) (tags : List Tag)
    → first ≡ StartSnapshot size parent text made_tags token timeout → is_same_create first origin other_size tags ≡ false
no-creation first size parent text made_tags token timeout origin other_size tags e = ap (λ first. is_same_create first origin other_size tags) e

pub creation-conflicts : CreationConflictsWithStart
creation-conflicts m turns account reading later size parent text tags token timeout told owner from key begin shown gib origin other_size other_tags e good fits =
    let s = step m account reading (StartSnapshot size parent text tags (Some token) timeout) in
    let n = after_all s.0 turns in
    let one = uses-step m account reading size parent text tags token timeout told owner from key begin shown gib e in
    let used = tokens-stay s.0 turns (record { account = account; text = token }) one.row one.used in
    let fields = same-fields one.row.first size parent text tags timeout one.same in
    conflicts (advance n (moment_at n later)) account origin other_size other_tags token one.row used good (fitting other_size fits)
    (no-creation one.row.first size parent text tags fields.token timeout origin other_size other_tags fields.is)
    ∙ ap (λ k. (advance n (moment_at n later), Refused (TokenConflict k))) (ap (λ first. key_by first account one.row.number) fields.is ∙ ap Snap (made-is (sym one.answer_is ∙ e)))
  where
    made-is : {a b : Option (List ℕ)} {c d : ℕ} {p q : Option SnapKey} {k l : SnapKey} {f g : Moment} {t u : List Tag} {v w : ℕ} → Started a c p k f t v ≡ Started b d q l g u w → k ≡ l
    made-is e = cc

-- what is the same as a creation made a volume
creation-key : (first : Request) (account number : ℕ) (origin : Option SnapKey) (size : Option ℕ) (tags : List Tag) → is_same_create first origin size tags ≡ true → key_by first account number ≡ Vol (record { account = account; number = number })
creation-key (CreateVolume first_origin first_size first_tags first_token) account number origin size tags same = refl
creation-key first account number origin size tags same = cc

pub creation-tells : CreationTellsFirst
creation-tells m account reading origin size tags token row key used =
    step-cases (λ d. created_id d.1 ≡ Some key → first_key account row ≡ Vol key) m account reading (CreateVolume origin size tags token) (
      λ begun tests e. absurd (nothing (sym tests.unused ∙ use-aged m (moment_at m reading) account token ∙ used)),
      λ found tests e.
          let one = only (sym (sym (use-aged m (moment_at m reading) account token ∙ used) ∙ tests.used)) in
          ap (λ (r : TokenRow). first_key account r) (sym one) ∙ creation-key found.first account found.number origin size tags tests.same ∙ ap Vol (only_key e),
    )
    (λ refusal e. cc)
  where
    nothing : None ≡ Some row → ⊥
    nothing e = cc

    only_key : {a b : VolKey} → Some a ≡ Some b → a ≡ b
    only_key e = cc
