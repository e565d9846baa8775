-- A client token is kept for good, and a start that is repeated gets the first answer.
use Rattle.std.proofs.Common.{◌≡◌, ◌≢◌, ◌⊎◌, inl, inr, ℕ, ◌==◌, Bool, true, false, not, ◌&&◌, nat_eq, List, [], ◌∷◌, Option, Some, None, is_some, Ok, sym, ap, ◌∙◌, refl}
use Rattle.std.specs.Cmp.Lexicographic.{pointwise, same_text}
use Rattle.std.specs.FinMap as fin
use Rattle.ebs_model.specs.declared.keys.SnapKey.{SnapKey}
use Rattle.ebs_model.specs.declared.keys.VolKey.{VolKey}
use Rattle.ebs_model.specs.declared.keys.TokenKey.{TokenKey}
use Rattle.ebs_model.specs.declared.keys.Moment.{Moment}
use Rattle.ebs_model.specs.declared.tags.Tag.{Tag}
use Rattle.ebs_model.specs.declared.rows.TokenRow.{TokenRow}
use Rattle.ebs_model.specs.declared.rows.VolRow.{VolRow}
use Rattle.ebs_model.specs.declared.answer.Answer.{Answer}
use Rattle.ebs_model.specs.declared.answer.FirstKey.{FirstKey}
use Rattle.ebs_model.specs.declared.request.Request.{Request}
use Rattle.ebs_model.specs.declared.request.Request.TheVariants.{StartSnapshot, PutSnapshotBlock, CompleteSnapshot, CreateVolume}
use Rattle.ebs_model.specs.declared.answer.Answer.TheVariants.{Started, Refused}
use Rattle.ebs_model.specs.declared.answer.FirstKey.TheVariants.{Snap, Vol}
use Rattle.ebs_model.specs.declared.answer.Refusal.{Refusal}
use Rattle.ebs_model.specs.declared.answer.Refusal.TheVariants.{BadSize, TokenConflict}
use Rattle.ebs_model.specs.inner.Orders.{tokens_total, exact_tokens}
use Rattle.ebs_model.specs.Refuse.{refuse_if}
use Rattle.ebs_model.specs.Limits.{bad_start, is_size}
use Rattle.ebs_model.specs.Calls.Start.{is_same_text, is_same_parent, is_same_tag, is_same_start, first_made, key_by, first_key, with_token}
use Rattle.ebs_model.specs.Arrays.{WholeArray}
use Rattle.ebs_model.specs.Machine.{Machine, advance, moment_of}
use Rattle.ebs_model.specs.Step.{call, settled, step}
use Rattle.ebs_model.proofs.RowLaws.{key_itself, is_key-same}
use Rattle.ebs_model.specs.Timed.{Timed, turn, after_all, made_id}
use Rattle.ebs_laws.specs.Words.{moment_at, started_id, use_of, is_repeat}
use Rattle.ebs_laws.specs.AccessLaws.{OthersChangeNoToken}
use Rattle.ebs_laws.specs.TokenLaws.{StartActsOnce, OtherStartConflicts, StartKeepsToken, TokensStay, OnlyStartsUseTokens, RepeatTellsFirst, RepeatChangesNothing, RefusedUsesNoToken}
use Rattle.ebs_laws.proofs.Cases.{Outcome, Accepted, step-cases}
use Rattle.ebs_laws.proofs.Others.{others, IsCreated, rule-once}
use Rattle.ebs_laws.proofs.Whole.{creation}
use Rattle.ebs_laws.proofs.Given.{kept_by_run}
use Rattle.ebs_laws.proofs.Maps.{get-itself, get-other, by_key}
use Rattle.ebs_laws.proofs.Uses.{use-aged, repeat-aged, unused-later}
use Rattle.ebs_laws.proofs.Readers.{same_number, number_is}

pub number_itself : (n : ℕ) → (n == n) ≡ true
number_itself n = number_is n n refl

pub both : (a b : Bool) → (a && b) ≡ true → (a ≡ true) × (b ≡ true)
both true b e = (refl, e)
both false b e = cc

text-itself : (a : List ℕ) → pointwise nat_eq a a ≡ true
text-itself [] = refl
text-itself (x ∷ xs) = λ i. number_itself x i && text-itself xs i

pub tags-itself : (tags : List Tag) → pointwise is_same_tag tags tags ≡ true
tags-itself [] = refl
tags-itself (tag ∷ tags) = λ i. (text-itself tag.key i && text-itself tag.value i) && tags-itself tags i

option-itself : (text : Option (List ℕ)) → is_same_text text text ≡ true
option-itself None = refl
option-itself (Some text) = text-itself text

pub parent-itself : (parent : Option SnapKey) → is_same_parent parent parent ≡ true
parent-itself None = refl
parent-itself (Some key) = key_itself key

-- a start is the same as itself
same-itself : (size : ℕ) (parent : Option SnapKey) (text : Option (List ℕ)) (tags : List Tag) (token : Option (List ℕ)) (timeout : ℕ) → is_same_start (StartSnapshot size parent text tags token timeout) size parent text tags timeout ≡ true
same-itself size parent text tags token timeout = λ i. number_itself size i && (parent-itself parent i && (option-itself text i && (tags-itself tags i && number_itself timeout i)))

same-option : (a b : Option (List ℕ)) → is_same_text a b ≡ true → a ≡ b
same-option None None e = refl
same-option None (Some b) e = cc
same-option (Some a) None e = cc
same-option (Some a) (Some b) e = ap Some (same_text a b (sym e))

pub same-parent : (a b : Option SnapKey) → is_same_parent a b ≡ true → a ≡ b
same-parent None None e = refl
same-parent None (Some b) e = cc
same-parent (Some a) None e = cc
same-parent (Some a) (Some b) e = ap Some (is_key-same a b e)

pub same-tags : (a b : List Tag) → pointwise is_same_tag a b ≡ true → a ≡ b
same-tags [] [] e = refl
same-tags [] (y ∷ ys) e = cc
same-tags (x ∷ xs) [] e = cc
same-tags (x ∷ xs) (y ∷ ys) e =
    let (one, more) = both (is_same_tag x y) _ e in
    let (keys, values) = both (pointwise nat_eq x.key y.key) _ one in
    λ i. record { key = same_text x.key y.key (sym keys) i; value = same_text x.value y.value (sym values) i } ∷ same-tags xs ys more i

-- and what is the same start has the same fields
pub record HasFields (first : Request) (size : ℕ) (parent : Option SnapKey) (text : Option (List ℕ)) (tags : List Tag) (timeout : ℕ) : Type 0 where
  pub token : Option (List ℕ)
  pub is : first ≡ StartSnapshot size parent text tags token timeout

pub same-fields : (first : Request) (size : ℕ) (parent : Option SnapKey) (text : Option (List ℕ)) (tags : List Tag) (timeout : ℕ) → is_same_start first size parent text tags timeout ≡ true → HasFields first size parent text tags timeout
same-fields (StartSnapshot s p d t token o) size parent text tags timeout e =
    let (sizes, e) = both (s == size) _ e in
    let (parents, e) = both (is_same_parent p parent) _ e in
    let (texts, e) = both (is_same_text d text) _ e in
    let (lists, times) = both (pointwise is_same_tag t tags) _ e in
    record {
      token = token;
      is = λ i. StartSnapshot (same_number s size sizes i) (same-parent p parent parents i) (same-option d text texts i) (same-tags t tags lists i) token (same_number o timeout times i);
    }
same-fields first size parent text tags timeout e = cc

-- two starts that are the same as one are the same but for their tokens
other-differs : (first : Request) (size other_size : ℕ) (parent other_parent : Option SnapKey) (text other_text : Option (List ℕ)) (tags other_tags : List Tag) (token : Option (List ℕ)) (timeout other_timeout : ℕ)
    → is_same_start first size parent text tags timeout ≡ true → StartSnapshot other_size other_parent other_text other_tags token other_timeout ≢ StartSnapshot size parent text tags token timeout
    → is_same_start first other_size other_parent other_text other_tags other_timeout ≡ false
other-differs first size other_size parent other_parent text other_text tags other_tags token timeout other_timeout same other = by (is_same_start first other_size other_parent other_text other_tags other_timeout) refl
  where
    retokened : Request → Request
    retokened (StartSnapshot s p d t used o) = StartSnapshot s p d t token o
    retokened request = request

    by : (b : Bool) → is_same_start first other_size other_parent other_text other_tags other_timeout ≡ b → is_same_start first other_size other_parent other_text other_tags other_timeout ≡ false
    by false e = e
    by true e =
        let one = same-fields first size parent text tags timeout same in
        let two = same-fields first other_size other_parent other_text other_tags other_timeout e in
        absurd (other (ap retokened (sym two.is ∙ one.is)))

-- what is found of client tokens after a start
module _ (m : Machine) (account : ℕ) (request : Request) (number : ℕ) where
  abbrev new : TokenRow
  new = record { at = m.clock; first = request; number = number }

  stays-kept : (token : Option (List ℕ)) (key : TokenKey) (row : TokenRow) → use_of m account token ≡ None → fin.get m.tokens key ≡ Some row → fin.get (with_token m.tokens m.clock account number request token) key ≡ Some row
  stays-kept None key row unused is = is
  stays-kept (Some text) key row unused is =
      by_key tokens_total exact_tokens (fin.get (fin.insert m.tokens (record { account = account; text = text }) new) key ≡ Some row) key (record { account = account; text = text })
      (λ same. absurd (nothing (sym unused ∙ ap (fin.get m.tokens) (sym same) ∙ is)))
      (λ other. get-other tokens_total exact_tokens m.tokens (record { account = account; text = text }) new key other ∙ is)
    where
      nothing : None ≡ Some row → ⊥
      nothing e = cc

  comes-of : (token : Option (List ℕ)) (key : TokenKey) (row : TokenRow) → fin.get (with_token m.tokens m.clock account number request token) key ≡ Some row
      → (fin.get m.tokens key ≡ Some row) ⊎ ((key.account ≡ account) × (new ≡ row))
  comes-of None key row is = inl is
  comes-of (Some text) key row is =
      let at : TokenKey = record { account = account; text = text } in
      by_key tokens_total exact_tokens ((fin.get m.tokens key ≡ Some row) ⊎ ((key.account ≡ account) × (new ≡ row))) key at
      (λ same. let there : Some new ≡ Some row = sym (get-itself tokens_total exact_tokens m.tokens at new) ∙ ap (fin.get (fin.insert m.tokens at new)) (sym same) ∙ is in inr (ap (λ (k : TokenKey). k.account) same, only there))
      (λ other. inl (sym (get-other tokens_total exact_tokens m.tokens at new key other) ∙ is))
    where
      only : Some new ≡ Some row → new ≡ row
      only e = cc

  others-keep : (token : Option (List ℕ)) (key : TokenKey) → key.account ≢ account → fin.get (with_token m.tokens m.clock account number request token) key ≡ fin.get m.tokens key
  others-keep None key other = refl
  others-keep (Some text) key other = get-other tokens_total exact_tokens m.tokens (record { account = account; text = text }) new key (λ same. other (ap (λ (k : TokenKey). k.account) same))

-- each token that was used stays
module _ (key : TokenKey) (row : TokenRow) (m : Machine) (h : fin.get m.tokens key ≡ Some row) where
  abbrev Stays : Outcome → Type 0
  Stays d = fin.get d.0.tokens key ≡ Some row

  stays-accepted : (account : ℕ) (request : Request) → Accepted Stays m account request
  stays-accepted account (StartSnapshot size parent text tags token timeout) = (λ from tests. stays-kept m account (StartSnapshot size parent text tags token timeout) _ token key row tests.unused h, λ row tests. h)
  stays-accepted account (PutSnapshotBlock k index digest bytes) = λ s is passes tests. h
  stays-accepted account (CompleteSnapshot k count checksum) = λ s is passes tests. h
  stays-accepted account request = others Stays m account request (λ answer says. h) (λ k s row answer is same says. h) (λ k s answer is same says. h) (λ v new array token answer is says. ap (λ a. fin.get (with_token m.tokens m.clock a v.number (creation new token) token) key) (ap (λ (k : VolKey). k.account) is.key_is) ∙ stays-kept m account (creation new token) v.number token key row is.unused h) (λ v new answer there is says. h) (λ v row text tags is made. h) (λ v row i digest bytes is asked. h) (λ command change answer is says. h) (λ snaps own policies answer is says. h)

stays-turn : (key : TokenKey) (row : TokenRow) (m : Machine) (t : Timed) → fin.get m.tokens key ≡ Some row → fin.get (turn m t).0.tokens key ≡ Some row
stays-turn key row m t h =
    let at = advance m (moment_of m t.reading) in
    step-cases (λ d. fin.get d.0.tokens key ≡ Some row) m t.call.account t.reading t.call.request (stays-accepted key row at h t.call.account t.call.request) (λ refusal. h)

pub tokens-stay : TokensStay
tokens-stay m turns key row h = kept_by_run (λ m. fin.get m.tokens key ≡ Some row) (stays-turn key row) turns m h

-- where each one comes from
module _ (key : TokenKey) (row : TokenRow) (m : Machine) (account : ℕ) where
  abbrev id_of : TokenRow → Option FirstKey
  id_of row = Some (first_key account row)

  abbrev Comes : Outcome → Type 0
  Comes d = fin.get d.0.tokens key ≡ Some row → (fin.get m.tokens key ≡ Some row) ⊎ ((key.account ≡ account) × (made_id d.1 ≡ id_of row))

  abbrev id_by : ℕ → ℕ → Option FirstKey
  id_by number a = Some (Vol (record { account = a; number = number }))

  created-comes : {request : Request} (v : VolKey) (new : VolRow) (array : WholeArray) (token : Option (List ℕ)) (answer : Answer) → IsCreated m account v new array token request answer
      → fin.get (with_token m.tokens m.clock v.account v.number (creation new token) token) key ≡ Some row → (fin.get m.tokens key ≡ Some row) ⊎ ((key.account ≡ account) × (made_id answer ≡ id_of row))
  created-comes v new array token answer is there = told (comes-of m account (creation new token) v.number token key row (ap (λ a. fin.get (with_token m.tokens m.clock a v.number (creation new token) token) key) (sym mine) ∙ there))
    where
      mine : v.account ≡ account
      mine = ap (λ (k : VolKey). k.account) is.key_is

      told : let row_new : TokenRow = record { at = m.clock; first = creation new token; number = v.number } in
          ((fin.get m.tokens key ≡ Some row) ⊎ ((key.account ≡ account) × (row_new ≡ row))) → (fin.get m.tokens key ≡ Some row) ⊎ ((key.account ≡ account) × (made_id answer ≡ id_of row))
      told (inl was) = inl was
      told (inr (mine_too, same)) = inr (mine_too, ap made_id is.answer_is ∙ ap (id_by v.number) mine ∙ ap id_of same)

  comes-accepted : (request : Request) → Accepted Comes m account request
  comes-accepted (StartSnapshot size parent text tags token timeout) = (λ from tests is. told (comes-of m account (StartSnapshot size parent text tags token timeout) _ token key row is), λ row tests is. inl is)
    where
      told : {new : TokenRow} → ((fin.get m.tokens key ≡ Some row) ⊎ ((key.account ≡ account) × (new ≡ row))) → (fin.get m.tokens key ≡ Some row) ⊎ ((key.account ≡ account) × (id_of new ≡ id_of row))
      told (inl was) = inl was
      told (inr (mine, same)) = inr (mine, ap id_of same)
  comes-accepted (PutSnapshotBlock k index digest bytes) = λ s is passes tests there. inl there
  comes-accepted (CompleteSnapshot k count checksum) = λ s is passes tests there. inl there
  comes-accepted request = others Comes m account request (λ answer says there. inl there) (λ k s row answer is same says there. inl there) (λ k s answer is same says there. inl there) (λ v new array token answer is says there. created-comes v new array token answer is there) (λ v new answer out is says there. inl there) (λ v row text tags is made there. inl there) (λ v row i digest bytes is asked there. inl there) (λ command change answer is says there. inl there) (λ snaps own policies answer is says there. inl there)

pub only-starts : OnlyStartsUseTokens
only-starts m account reading request key row =
    let at = advance m (moment_of m reading) in
    step-cases (Comes key row at account) m account reading request (comes-accepted key row at account request) (λ refusal is. inl is)

-- the use that a start leaves of its token
pub record IsUsed (account size : ℕ) (parent : Option SnapKey) (text : Option (List ℕ)) (tags : List Tag) (token : List ℕ) (timeout : ℕ) (d : Outcome) : Type 0 where
  pub row : TokenRow
  pub used : fin.get d.0.tokens (record { account = account; text = token }) ≡ Some row
  pub same : is_same_start row.first size parent text tags timeout ≡ true
  pub good : bad_start text tags (Some token) timeout ≡ None
  pub fits : is_size size ≡ true
  pub answer_is : d.1 ≡ Started text account parent (first_made account row) row.at tags size

module _ (m : Machine) (account size : ℕ) (parent : Option SnapKey) (text : Option (List ℕ)) (tags : List Tag) (token : List ℕ) (timeout : ℕ) (told : Option (List ℕ)) (owner : ℕ) (from : Option SnapKey) (key : SnapKey) (begin : Moment) (shown : List Tag) (gib : ℕ) where
  abbrev pub Uses : Outcome → Type 0
  Uses d = d.1 ≡ Started told owner from key begin shown gib → IsUsed account size parent text tags token timeout d

  uses-accepted : Accepted Uses m account (StartSnapshot size parent text tags (Some token) timeout)
  uses-accepted = (
    λ origin tests e. record {
      row = _;
      used = get-itself tokens_total exact_tokens m.tokens (record { account = account; text = token }) _;
      same = same-itself size parent text tags (Some token) timeout;
      good = tests.good;
      fits = tests.fits;
      answer_is = refl;
    },
    λ row tests e. record { row = row; used = tests.used; same = tests.same; good = tests.good; fits = tests.fits; answer_is = refl },
  )

pub uses-step : (m : Machine) (account : ℕ) (reading : Moment) (size : ℕ) (parent : Option SnapKey) (text : Option (List ℕ)) (tags : List Tag) (token : List ℕ) (timeout : ℕ) (told : Option (List ℕ)) (owner : ℕ) (from : Option SnapKey) (key : SnapKey) (begin : Moment) (shown : List Tag) (gib : ℕ)
    → Uses m account size parent text tags token timeout told owner from key begin shown gib (step m account reading (StartSnapshot size parent text tags (Some token) timeout))
uses-step m account reading size parent text tags token timeout told owner from key begin shown gib =
    let at = advance m (moment_of m reading) in
    step-cases (Uses m account size parent text tags token timeout told owner from key begin shown gib) m account reading (StartSnapshot size parent text tags (Some token) timeout)
    (uses-accepted at account size parent text tags token timeout told owner from key begin shown gib) (λ refusal e. cc)

-- a start whose token was used
module _ (at : Machine) (account size : ℕ) (parent : Option SnapKey) (text : Option (List ℕ)) (tags : List Tag) (token : List ℕ) (timeout : ℕ) (row : TokenRow) (used : use_of at account (Some token) ≡ Some row) (good : bad_start text tags (Some token) timeout ≡ None) (fits : is_size size ≡ true) where
  repeats : is_same_start row.first size parent text tags timeout ≡ true → settled at (call at account (StartSnapshot size parent text tags (Some token) timeout)) ≡ (at, Started text account parent (first_made account row) row.at tags size)
  repeats same = rw (good, fits, used, same) refl

  pub conflicts : is_same_start row.first size parent text tags timeout ≡ false → settled at (call at account (StartSnapshot size parent text tags (Some token) timeout)) ≡ (at, Refused (TokenConflict (first_key account row)))
  conflicts other = rw (good, fits, used, other) refl

pub sized : (b : Bool) → refuse_if b BadSize ≡ Ok tt → b ≡ false
sized true e = cc
sized false e = refl

pub turned : (b : Bool) → not b ≡ false → b ≡ true
turned true e = refl
turned false e = cc

pub acts-once : StartActsOnce
acts-once m turns account reading later size parent text tags token timeout told owner from key begin shown gib e =
    let s = step m account reading (StartSnapshot size parent text tags (Some token) timeout) in
    let n = after_all s.0 turns in
    let one = uses-step m account reading size parent text tags token timeout told owner from key begin shown gib e in
    let used = tokens-stay s.0 turns (record { account = account; text = token }) one.row one.used in
    repeats (advance n (moment_at n later)) account size parent text tags token timeout one.row used one.good one.fits one.same
    ∙ ap (λ answer. (advance n (moment_at n later), answer)) (sym one.answer_is)

pub other-conflicts : OtherStartConflicts
other-conflicts m turns account reading later size parent text tags token timeout told owner from key begin shown gib other_size other_parent other_text other_tags other_timeout e other good fits =
    let s = step m account reading (StartSnapshot size parent text tags (Some token) timeout) in
    let n = after_all s.0 turns in
    let one = uses-step m account reading size parent text tags token timeout told owner from key begin shown gib e in
    let used = tokens-stay s.0 turns (record { account = account; text = token }) one.row one.used in
    conflicts (advance n (moment_at n later)) account other_size other_parent other_text other_tags token other_timeout one.row used good (turned (is_size other_size) (sized (not (is_size other_size)) fits))
    (other-differs one.row.first size other_size parent other_parent text other_text tags other_tags (Some token) timeout other_timeout one.same other)
    ∙ ap (λ k. (advance n (moment_at n later), Refused (TokenConflict k))) (ap (λ first. key_by first account one.row.number) (same-fields one.row.first size parent text tags timeout one.same).is ∙ ap Snap (made-is (sym one.answer_is ∙ e)))
  where
    made-is : {a b : Option (List ℕ)} {c d : ℕ} {p q : Option SnapKey} {k l : SnapKey} {f g : Moment} {t u : List Tag} {v w : ℕ} → Started a c p k f t v ≡ Started b d q l g u w → k ≡ l
    made-is e = cc

pub start-keeps : StartKeepsToken
start-keeps m account reading size parent text tags token timeout told owner from key begin shown gib unused =
    let at = advance m (moment_at m reading) in
    let request = StartSnapshot size parent text tags (Some token) timeout in
    step-cases (λ d. d.1 ≡ Started told owner from key begin shown gib → fin.get d.0.tokens (record { account = account; text = token }) ≡ Some (record { at = moment_at m reading; first = request; number = key.number })) m account reading request (
      λ origin tests e.
          get-itself tokens_total exact_tokens m.tokens (record { account = account; text = token }) (record { at = moment_at m reading; first = request; number = _ })
          ∙ ap (λ (k : SnapKey). Some (record { at = moment_at m reading; first = request; number = k.number })) (made-is e),
      λ row tests e. absurd (unused-later m (moment_at m reading) account (Some token) row unused tests.used),
    )
    (λ refusal e. cc)
  where
    made-is : {a b : Option (List ℕ)} {c d : ℕ} {p q : Option SnapKey} {k l : SnapKey} {f g : Moment} {t u : List Tag} {v w : ℕ} → Started a c p k f t v ≡ Started b d q l g u w → k ≡ l
    made-is e = cc

pub repeat-tells : RepeatTellsFirst
repeat-tells m account reading size parent text tags token timeout row key used =
    let at = advance m (moment_of m reading) in
    step-cases (λ d. started_id d.1 ≡ Some key → first_key account row ≡ Snap key) m account reading (StartSnapshot size parent text tags token timeout) (
      λ origin tests e. absurd (nothing (sym tests.unused ∙ use-aged m (moment_of m reading) account token ∙ used)),
      λ found tests e.
          let one = only (sym (sym (use-aged m (moment_of m reading) account token ∙ used) ∙ tests.used)) in
          ap (λ (r : TokenRow). first_key account r) (sym one)
          ∙ ap (λ (first : Request). key_by first account found.number) (same-fields found.first size parent text tags timeout tests.same).is
          ∙ ap Snap (only_key e),
    )
    (λ refusal e. cc)
  where
    nothing : None ≡ Some row → ⊥
    nothing e = cc

    only : {a b : TokenRow} → Some a ≡ Some b → a ≡ b
    only e = cc

    only_key : {a b : SnapKey} → Some a ≡ Some b → a ≡ b
    only_key e = cc

-- a refused call
abbrev RefusedSo : Machine → Refusal → Outcome → Type 0
RefusedSo m refusal d = d.1 ≡ Refused refusal → d.0.tokens ≡ m.tokens

pub refused-uses : RefusedUsesNoToken
refused-uses m account reading request refusal =
    let at = advance m (moment_of m reading) in
    step-cases (RefusedSo at refusal) m account reading request (uses-none at account request refusal) (λ r e. refl)
  where
    uses-none : (at : Machine) (account : ℕ) (request : Request) (refusal : Refusal) → Accepted (RefusedSo at refusal) at account request
    uses-none at account (StartSnapshot size parent text tags token timeout) refusal = (λ from tests e. cc, λ row tests e. cc)
    uses-none at account (PutSnapshotBlock k index digest bytes) refusal = λ s is passes tests e. refl
    uses-none at account (CompleteSnapshot k count checksum) refusal = λ s is passes tests e. refl
    uses-none at account request refusal = others (RefusedSo at refusal) at account request (λ answer says e. refl) (λ k s row answer is same says e. refl) (λ k s answer is same says e. refl) (λ k row array token answer is says e. absurd (says.answers refusal e)) (λ k row answer there is says e. refl) (λ v row text tags is made e. refl) (λ v row i digest bytes is asked e. refl) (λ command change answer is says e. refl) (λ snaps own policies answer is says e. refl)

-- another's tokens stay
module _ (m : Machine) (account : ℕ) (key : TokenKey) (other : key.account ≢ account) where
  abbrev SameToken : Outcome → Type 0
  SameToken d = fin.get d.0.tokens key ≡ fin.get m.tokens key

  others-created : {request : Request} (v : VolKey) (new : VolRow) (array : WholeArray) (token : Option (List ℕ)) (answer : Answer) → IsCreated m account v new array token request answer
      → fin.get (with_token m.tokens m.clock v.account v.number (creation new token) token) key ≡ fin.get m.tokens key
  others-created v new array token answer is =
      ap (λ a. fin.get (with_token m.tokens m.clock a v.number (creation new token) token) key) (ap (λ (k : VolKey). k.account) is.key_is)
      ∙ others-keep m account (creation new token) v.number token key other

  token-accepted : (request : Request) → Accepted SameToken m account request
  token-accepted (StartSnapshot size parent text tags token timeout) = (λ from tests. others-keep m account (StartSnapshot size parent text tags token timeout) _ token key other, λ row tests. refl)
  token-accepted (PutSnapshotBlock k index digest bytes) = λ s is passes tests. refl
  token-accepted (CompleteSnapshot k count checksum) = λ s is passes tests. refl
  token-accepted request = others SameToken m account request (λ answer says. refl) (λ k s row answer is same says. refl) (λ k s answer is same says. refl) (λ v new array token answer is says. others-created v new array token answer is) (λ v new answer there is says. refl) (λ v row text tags is made. refl) (λ v row i digest bytes is asked. refl) (λ command change answer is says. refl) (λ snaps own policies answer is says. refl)

pub others-tokens : OthersChangeNoToken
others-tokens m account reading request key other =
    let at = advance m (moment_of m reading) in
    step-cases (SameToken at account key other) m account reading request (token-accepted at account key other request) (λ refusal. refl)

-- a start whose token was used
module _ (m : Machine) (account : ℕ) where
  abbrev Leaves : Request → Outcome → Type 0
  Leaves request d = is_repeat m account request ≡ true → d.0 ≡ m

  false_true : false ≡ true → ⊥
  false_true e = cc

  leaves-accepted : (request : Request) → Accepted (Leaves request) m account request
  leaves-accepted (StartSnapshot size parent text tags token timeout) = (λ from tests again. absurd (false_true (sym (ap is_some tests.unused) ∙ again)), λ row tests again. refl)
  leaves-accepted (PutSnapshotBlock k index digest bytes) = λ s is passes tests again. absurd (false_true again)
  leaves-accepted (CompleteSnapshot k count checksum) = λ s is passes tests again. absurd (false_true again)
  leaves-accepted (CreateVolume from size tags token) = (λ begun tests again. absurd (false_true (sym (ap is_some tests.unused) ∙ again)), λ row tests again. refl)
  leaves-accepted request = others (Leaves request) m account request (λ answer says again. refl) (λ k s row answer is same says again. absurd (false_true again)) (λ k s answer is same says again. absurd (false_true again)) (λ v new array token answer is says again. absurd (false_true (sym (ap (is_repeat m account) is.request_is ∙ ap is_some is.unused) ∙ again))) (λ v new answer there is says again. absurd (false_true (sym (ap (is_repeat m account) is.request_is) ∙ again))) (λ v row text tags is made again. absurd (false_true (sym (ap (is_repeat m account) made.request_is) ∙ again))) (λ v row i digest bytes is asked again. absurd (false_true (sym (ap (is_repeat m account) asked.request_is) ∙ again))) (λ command change answer is says again. absurd (false_true (sym (ap (is_repeat m account) is.request_is ∙ rule-once m account command) ∙ again)))
      (λ snaps own policies answer is says again. absurd (false_true (sym is.fresh ∙ again)))

pub repeat-nothing : RepeatChangesNothing
repeat-nothing m account reading request again =
    let at = advance m (moment_at m reading) in
    step-cases (Leaves at account request) m account reading request (leaves-accepted at account request) (λ refusal again. refl) (repeat-aged m (moment_at m reading) account request ∙ again)
