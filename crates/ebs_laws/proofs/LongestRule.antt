-- The most days of the rules that match.
use Rattle.std.proofs.lemmas.Int.{clamps, ints}
use Rattle.std.proofs.Common.{◌≡◌, ℕ, ◌≤◌, ◌⊎◌, inl, inr, Bool, true, false, cond, ◌&&◌, ◌||◌, max, arith, List, [], ◌∷◌, map, Option, Some, None, refl, sym, ap, subst, ◌∙◌}
use Rattle.std.specs.Prelude.{nat_le, nat_eq}
use Rattle.std.specs.List.{list_any, AllByRecursion}
use Rattle.std.specs.Ordering.{nat_cmp, eq_by_cmp}
use Rattle.std.specs.FinMap as fin
use Rattle.std.specs.Cmp.Lexicographic.{pointwise, same_text}
use Rattle.std.proofs.lemmas.Cmp.{nat_list_eq_equiv}
use Rattle.std.proofs.lemmas.Bool.{false≢true}
use Rattle.std.proofs.lemmas.Bool.Decides.{nat_tests}
use Rattle.ebs_model.specs.declared.tags.Tag.{Tag}
use Rattle.ebs_model.specs.declared.rules.Rule.{Rule}
use Rattle.ebs_model.specs.declared.rules.RuleTag.{RuleTag}
use Rattle.ebs_model.specs.Rules.{longest, longer, matches, is_wanted, is_value, has, Book, rules_in, retention}
use Rattle.ebs_model.specs.Rows.{book_of}
use Rattle.ebs_model.specs.Machine.{Machine, rows_of}
use Rattle.ebs_model.specs.Timed.{IsIn}
use Rattle.ebs_laws.specs.RuleWords.{IsValue, Matches, IsMatching, NoneMatches, IsLongest}
use Rattle.ebs_laws.proofs.Elements.{entries-found}

-- ---- what matches

either : (a b : Bool) → (a || b) ≡ true → (a ≡ true) ⊎ (b ≡ true)
either true b e = inl refl
either false b e = inr e

both : (a b : Bool) → (a && b) ≡ true → (a ≡ true) × (b ≡ true)
both true b e = (refl, e)
both false b e = absurd (false≢true e)

or_right : (a : Bool) → (a || true) ≡ true
or_right true = refl
or_right false = refl

module _ {X : Type 0} (p : X → Bool) where
  pub any_of : (xs : List X) → list_any p xs ≡ true → (x : X) × IsIn xs x × (p x ≡ true)
  any_of [] e = absurd (false≢true e)
  any_of (y ∷ ys) e = by (either (p y) (list_any p ys) e) (any_of ys)
    where
      by : (p y ≡ true) ⊎ (list_any p ys ≡ true) → (list_any p ys ≡ true → (x : X) × IsIn ys x × (p x ≡ true)) → (x : X) × IsIn (y ∷ ys) x × (p x ≡ true)
      by (inl h) rest = (y, inl refl, h)
      by (inr h) rest = let f = rest h in (f.0, inr f.1, f.2)

  pub of_any : (xs : List X) (x : X) → IsIn xs x → p x ≡ true → list_any p xs ≡ true
  of_any [] x h e = absurd h
  of_any (y ∷ ys) x (inl same) e = ap (λ b. b || list_any p ys) (ap p same ∙ e)
  of_any (y ∷ ys) x (inr h) e = ap (λ b. p y || b) (of_any ys x h e) ∙ or_right (p y)

value_is : (wanted : Option (List ℕ)) (value : List ℕ) → is_value wanted value ≡ true → IsValue wanted value
value_is None value e = tt
value_is (Some wanted) value e = same_text wanted value (sym e)

is_the_value : (wanted : Option (List ℕ)) (value : List ℕ) → IsValue wanted value → is_value wanted value ≡ true
is_the_value None value h = refl
is_the_value (Some wanted) value h = ap (λ v. pointwise nat_eq wanted v) (sym h) ∙ nat_list_eq_equiv.refl wanted

pub matching : (wanted : List RuleTag) (tags : List Tag) → matches wanted tags ≡ true → Matches wanted tags
matching [] tags e = inl refl
matching (one ∷ wanted) tags e =
    let f = any_of (λ w. has w tags) (one ∷ wanted) e in
    let g = any_of (λ t. is_wanted f.0 t) tags f.2 in
    let h = both (pointwise nat_eq f.0.key g.0.key) (is_value f.0.value g.0.value) g.2 in
    inr (f.0, g.0, f.1, g.1, same_text f.0.key g.0.key (sym h.0), value_is f.0.value g.0.value h.1)

wanted_is : (one : RuleTag) (tag : Tag) → one.key ≡ tag.key → IsValue one.value tag.value → is_wanted one tag ≡ true
wanted_is one tag k v =
    ap (λ b. b && is_value one.value tag.value) (ap (λ t. pointwise nat_eq one.key t) (sym k) ∙ nat_list_eq_equiv.refl one.key) ∙ is_the_value one.value tag.value v

any_matches : (wanted : List RuleTag) (tags : List Tag) → list_any (λ w. has w tags) wanted ≡ true → matches wanted tags ≡ true
any_matches [] tags e = refl
any_matches (one ∷ wanted) tags e = e

pub matched : (wanted : List RuleTag) (tags : List Tag) → Matches wanted tags → matches wanted tags ≡ true
matched wanted tags (inl e) = ap (λ w. matches w tags) e
matched wanted tags (inr f) =
    any_matches wanted tags (of_any (λ w. has w tags) wanted f.0 f.2 (of_any (λ t. is_wanted f.0 t) tags f.1 f.3 (wanted_is f.0 f.1 f.4 f.5)))

-- ---- the most days

abbrev pub IsUpTo : ℕ → Option ℕ → Type 0
IsUpTo days None = ⊥
IsUpTo days (Some most) = days ≤ most

up_to_itself : (found : Option ℕ) (days : ℕ) → IsUpTo days (longer found days)
up_to_itself None days = omega arith
up_to_itself (Some most) days = omega (arith, ints, clamps)

up_to_longer : (found : Option ℕ) (days other : ℕ) → IsUpTo days found → IsUpTo days (longer found other)
up_to_longer None days other h = absurd h
up_to_longer (Some most) days other h = omega (arith, ints, clamps, h)

module _ (tags : List Tag) where
  pub bounded : (rules : List Rule) (rule : Rule) → IsIn rules rule → matches rule.tags tags ≡ true → IsUpTo rule.days (longest tags rules)
  bounded [] rule h m = absurd h
  bounded (first ∷ rules) rule (inl e) m =
      subst (λ (r : Rule). IsUpTo r.days (longest tags (first ∷ rules))) e
      (subst (λ b. IsUpTo first.days (cond b (longer (longest tags rules) first.days) (longest tags rules))) (sym (ap (λ (r : Rule). matches r.tags tags) e ∙ m)) (up_to_itself (longest tags rules) first.days))
  bounded (first ∷ rules) rule (inr h) m = by (matches first.tags tags) (bounded rules rule h m)
    where
      by : (b : Bool) → IsUpTo rule.days (longest tags rules) → IsUpTo rule.days (cond b (longer (longest tags rules) first.days) (longest tags rules))
      by true rest = up_to_longer (longest tags rules) rule.days first.days rest
      by false rest = rest

  pub record Got (rules : List Rule) (days : ℕ) : Type 0 where
    pub rule : Rule
    pub in_rules : IsIn rules rule
    pub does_match : matches rule.tags tags ≡ true
    pub same : rule.days ≡ days

  some_is : (a b : ℕ) → ◌≡◌ {A = Option ℕ} (Some a) (Some b) → a ≡ b
  some_is a b e = cc

  none_some : {a : ℕ} → ◌≡◌ {A = Option ℕ} None (Some a) → ⊥
  none_some e = cc

  later : (first : Rule) (rules : List Rule) (n days : ℕ) → Got rules n → n ≡ days → Got (first ∷ rules) days
  later first rules n days g s = record { rule = g.rule; in_rules = inr g.in_rules; does_match = g.does_match; same = g.same ∙ s }

  greater : (first : Rule) (rules : List Rule) (n days : ℕ) → matches first.tags tags ≡ true → Got rules n → max n first.days ≡ days → (q : Bool) → nat_le n first.days ≡ q → Got (first ∷ rules) days
  greater first rules n days m g s true t = let l : n ≤ first.days = grind (arith, nat_tests) in record { rule = first; in_rules = inl refl; does_match = m; same = omega (arith, ints, clamps, l, s) }
  greater first rules n days m g s false t = let l : first.days ≤ n = grind (arith, nat_tests) in later first rules n days g (omega (arith, ints, clamps, l, s))

  pub reached : (rules : List Rule) (days : ℕ) → longest tags rules ≡ Some days → Got rules days
  reached [] days e = absurd (none_some e)
  reached (first ∷ rules) days e = by (matches first.tags tags) refl (longest tags rules) (λ n f. reached rules n f) e
    where
      by : (b : Bool) → matches first.tags tags ≡ b → (found : Option ℕ) → ((n : ℕ) → found ≡ Some n → Got rules n) → cond b (longer found first.days) found ≡ Some days → Got (first ∷ rules) days
      by true m None f h = record { rule = first; in_rules = inl refl; does_match = m; same = some_is first.days days h }
      by true m (Some n) f h = greater first rules n days m (f n refl) (some_is (max n first.days) days h) (nat_le n first.days) refl
      by false m None f h = absurd (none_some h)
      by false m (Some n) f h = later first rules n days (f n refl) (some_is n days h)

-- ---- of an account

in-entries : (es : List (ℕ × Rule)) (number : ℕ) (rule : Rule) → fin.find nat_cmp number es ≡ Some rule → IsIn (map (λ e. e.1) es) rule
in-entries [] number rule h = cc
in-entries (e ∷ es) number rule h = by (eq_by_cmp nat_cmp number e.0) (in-entries es number rule) h
  where
    by : (b : Bool) → (fin.find nat_cmp number es ≡ Some rule → IsIn (map (λ e. e.1) es) rule) → cond b (Some e.1) (fin.find nat_cmp number es) ≡ Some rule → IsIn (map (λ e. e.1) (e ∷ es)) rule
    by true rest h = inl cc
    by false rest h = inr (rest h)

module _ (m : Machine) (account : ℕ) (tags : List Tag) where
  abbrev book : Book
  book = book_of (rows_of m) account

  numbered : (es : List (ℕ × Rule)) (rule : Rule) → AllByRecursion (λ e. fin.get book.rules e.0 ≡ Some e.1) es → IsIn (map (λ e. e.1) es) rule → (number : ℕ) × (fin.get book.rules number ≡ Some rule)
  numbered [] rule h is = absurd is
  numbered (e ∷ es) rule h (inl same) = (e.0, h.0 ∙ ap Some same)
  numbered (e ∷ es) rule h (inr is) = numbered es rule h.1 is

  within : (rule : Rule) → IsMatching m account tags rule → IsUpTo rule.days (retention book tags)
  within rule is =
      bounded tags (rules_in book) rule (in-entries (fin.entries book.rules) is.0.0 rule (sym (fin.get-entries book.rules is.0.0) ∙ is.0.1)) (matched rule.tags tags is.1)

  pub for-none : retention book tags ≡ None → NoneMatches m account tags
  for-none e rule is = subst (IsUpTo rule.days) e (within rule is)

  pub for-days : (days : ℕ) → retention book tags ≡ Some days → IsLongest m account tags days
  for-days days e =
      let got = reached tags (rules_in book) days e in
      ((got.rule, (numbered (fin.entries book.rules) got.rule (entries-found book.rules) got.in_rules, matching got.rule.tags tags got.does_match), got.same), λ rule is. subst (IsUpTo rule.days) e (within rule is))
