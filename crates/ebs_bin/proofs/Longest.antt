-- The most days of the rules that match.
use Rattle.std.proofs.lemmas.Int.{clamps, ints}
use Rattle.std.proofs.Common.{◌≡◌, ℕ, ◌≤◌, ◌⊎◌, inl, inr, Bool, true, false, cond, ◌&&◌, ◌||◌, max, arith, List, [], ◌∷◌, Option, Some, None, refl, sym, ap, subst, ◌∙◌}
use Rattle.std.specs.Prelude.{nat_le, nat_eq}
use Rattle.std.specs.List.{list_any, filter}
use Rattle.std.specs.Cmp.Lexicographic.{pointwise, same_text}
use Rattle.std.proofs.lemmas.Cmp.{nat_list_eq_equiv}
use Rattle.std.proofs.lemmas.Bool.{false≢true}
use Rattle.std.proofs.lemmas.Bool.Decides.{nat_tests}
use Rattle.ebs_model.specs.declared.tags.Tag.{Tag}
use Rattle.ebs_model.specs.declared.rules.Rule.{Rule}
use Rattle.ebs_model.specs.declared.rules.RuleTag.{RuleTag}
use Rattle.ebs_model.specs.Rules.{longest, longer, matches, is_wanted, is_value, has}
use Rattle.ebs_bin.specs.BinLaws.{IsIn, IsValue, Matches}

abbrev pub joined : Option ℕ → Option ℕ → Option ℕ
joined None found = found
joined (Some most) found = longer found most

pub joined-none : (most : Option ℕ) → joined most None ≡ most
joined-none None = refl
joined-none (Some most) = refl

joined-longer : (most : Option ℕ) (days : ℕ) (found : Option ℕ) → joined (longer most days) found ≡ joined most (longer found days)
joined-longer None days found = refl
joined-longer (Some most) days None = ap Some (omega (arith, ints, clamps))
joined-longer (Some most) days (Some more) = ap Some (omega (arith, ints, clamps))

pub counted : (most : Option ℕ) (tags : List Tag) (rule : Rule) (rules : List Rule) → matches rule.tags tags ≡ true → joined (longer most rule.days) (longest tags rules) ≡ joined most (longest tags (rule ∷ rules))
counted most tags rule rules e = joined-longer most rule.days (longest tags rules) ∙ ap (λ b. joined most (cond b (longer (longest tags rules) rule.days) (longest tags rules))) (sym e)

pub passed : (most : Option ℕ) (tags : List Tag) (rule : Rule) (rules : List Rule) → matches rule.tags tags ≡ false → joined most (longest tags rules) ≡ joined most (longest tags (rule ∷ rules))
passed most tags rule rules e = ap (λ b. joined most (cond b (longer (longest tags rules) rule.days) (longest tags rules))) (sym e)

-- ---- what matches

either : (a b : Bool) → (a || b) ≡ true → (a ≡ true) ⊎ (b ≡ true)
either true b e = inl refl
either false b e = inr e

both : (a b : Bool) → (a && b) ≡ true → (a ≡ true) × (b ≡ true)
both true b e = (refl, e)
both false b e = absurd (false≢true e)

or_right : (a : Bool) → (a || true) ≡ true
or_right true = refl
or_right false = refl

module _ {X : Type 0} (p : X → Bool) where
  pub any_of : (xs : List X) → list_any p xs ≡ true → (x : X) × IsIn xs x × (p x ≡ true)
  any_of [] e = absurd (false≢true e)
  any_of (y ∷ ys) e = by (either (p y) (list_any p ys) e) (any_of ys)
    where
      by : (p y ≡ true) ⊎ (list_any p ys ≡ true) → (list_any p ys ≡ true → (x : X) × IsIn ys x × (p x ≡ true)) → (x : X) × IsIn (y ∷ ys) x × (p x ≡ true)
      by (inl h) rest = (y, inl refl, h)
      by (inr h) rest = let f = rest h in (f.0, inr f.1, f.2)

  pub of_any : (xs : List X) (x : X) → IsIn xs x → p x ≡ true → list_any p xs ≡ true
  of_any [] x h e = absurd h
  of_any (y ∷ ys) x (inl same) e = ap (λ b. b || list_any p ys) (ap p same ∙ e)
  of_any (y ∷ ys) x (inr h) e = ap (λ b. p y || b) (of_any ys x h e) ∙ or_right (p y)

value_is : (wanted : Option (List ℕ)) (value : List ℕ) → is_value wanted value ≡ true → IsValue wanted value
value_is None value e = tt
value_is (Some wanted) value e = same_text wanted value (sym e)

is_the_value : (wanted : Option (List ℕ)) (value : List ℕ) → IsValue wanted value → is_value wanted value ≡ true
is_the_value None value h = refl
is_the_value (Some wanted) value h = ap (λ v. pointwise nat_eq wanted v) (sym h) ∙ nat_list_eq_equiv.refl wanted

pub matching : (wanted : List RuleTag) (tags : List Tag) → matches wanted tags ≡ true → Matches wanted tags
matching [] tags e = inl refl
matching (one ∷ wanted) tags e =
    let f = any_of (λ w. has w tags) (one ∷ wanted) e in
    let g = any_of (λ t. is_wanted f.0 t) tags f.2 in
    let h = both (pointwise nat_eq f.0.key g.0.key) (is_value f.0.value g.0.value) g.2 in
    inr (f.0, g.0, f.1, g.1, same_text f.0.key g.0.key (sym h.0), value_is f.0.value g.0.value h.1)

wanted_is : (one : RuleTag) (tag : Tag) → one.key ≡ tag.key → IsValue one.value tag.value → is_wanted one tag ≡ true
wanted_is one tag k v =
    ap (λ b. b && is_value one.value tag.value) (ap (λ t. pointwise nat_eq one.key t) (sym k) ∙ nat_list_eq_equiv.refl one.key) ∙ is_the_value one.value tag.value v

any_matches : (wanted : List RuleTag) (tags : List Tag) → list_any (λ w. has w tags) wanted ≡ true → matches wanted tags ≡ true
any_matches [] tags e = refl
any_matches (one ∷ wanted) tags e = e

pub matched : (wanted : List RuleTag) (tags : List Tag) → Matches wanted tags → matches wanted tags ≡ true
matched wanted tags (inl e) = ap (λ w. matches w tags) e
matched wanted tags (inr f) =
    any_matches wanted tags (of_any (λ w. has w tags) wanted f.0 f.2 (of_any (λ t. is_wanted f.0 t) tags f.1 f.3 (wanted_is f.0 f.1 f.4 f.5)))

-- ---- the most days

abbrev pub IsUpTo : ℕ → Option ℕ → Type 0
IsUpTo days None = ⊥
IsUpTo days (Some most) = days ≤ most

up_to_itself : (found : Option ℕ) (days : ℕ) → IsUpTo days (longer found days)
up_to_itself None days = omega arith
up_to_itself (Some most) days = omega (arith, ints, clamps)

up_to_longer : (found : Option ℕ) (days other : ℕ) → IsUpTo days found → IsUpTo days (longer found other)
up_to_longer None days other h = absurd h
up_to_longer (Some most) days other h = omega (arith, ints, clamps, h)

module _ (tags : List Tag) where
  pub bounded : (rules : List Rule) (rule : Rule) → IsIn rules rule → matches rule.tags tags ≡ true → IsUpTo rule.days (longest tags rules)
  bounded [] rule h m = absurd h
  bounded (first ∷ rules) rule (inl e) m =
      subst (λ (r : Rule). IsUpTo r.days (longest tags (first ∷ rules))) e
      (subst (λ b. IsUpTo first.days (cond b (longer (longest tags rules) first.days) (longest tags rules))) (sym (ap (λ (r : Rule). matches r.tags tags) e ∙ m)) (up_to_itself (longest tags rules) first.days))
  bounded (first ∷ rules) rule (inr h) m = by (matches first.tags tags) (bounded rules rule h m)
    where
      by : (b : Bool) → IsUpTo rule.days (longest tags rules) → IsUpTo rule.days (cond b (longer (longest tags rules) first.days) (longest tags rules))
      by true rest = up_to_longer (longest tags rules) rule.days first.days rest
      by false rest = rest

  pub record Got (rules : List Rule) (days : ℕ) : Type 0 where
    pub rule : Rule
    pub in_rules : IsIn rules rule
    pub does_match : matches rule.tags tags ≡ true
    pub same : rule.days ≡ days

  some_is : (a b : ℕ) → ◌≡◌ {A = Option ℕ} (Some a) (Some b) → a ≡ b
  some_is a b e = cc

  none_some : {a : ℕ} → ◌≡◌ {A = Option ℕ} None (Some a) → ⊥
  none_some e = cc

  later : (first : Rule) (rules : List Rule) (n days : ℕ) → Got rules n → n ≡ days → Got (first ∷ rules) days
  later first rules n days g s = record { rule = g.rule; in_rules = inr g.in_rules; does_match = g.does_match; same = g.same ∙ s }

  greater : (first : Rule) (rules : List Rule) (n days : ℕ) → matches first.tags tags ≡ true → Got rules n → max n first.days ≡ days → (q : Bool) → nat_le n first.days ≡ q → Got (first ∷ rules) days
  greater first rules n days m g s true t = let l : n ≤ first.days = grind (arith, nat_tests) in record { rule = first; in_rules = inl refl; does_match = m; same = omega (arith, ints, clamps, l, s) }
  greater first rules n days m g s false t = let l : first.days ≤ n = grind (arith, nat_tests) in later first rules n days g (omega (arith, ints, clamps, l, s))

  pub reached : (rules : List Rule) (days : ℕ) → longest tags rules ≡ Some days → Got rules days
  reached [] days e = absurd (none_some e)
  reached (first ∷ rules) days e = by (matches first.tags tags) refl (longest tags rules) (λ n f. reached rules n f) e
    where
      by : (b : Bool) → matches first.tags tags ≡ b → (found : Option ℕ) → ((n : ℕ) → found ≡ Some n → Got rules n) → cond b (longer found first.days) found ≡ Some days → Got (first ∷ rules) days
      by true m None f h = record { rule = first; in_rules = inl refl; does_match = m; same = some_is first.days days h }
      by true m (Some n) f h = greater first rules n days m (f n refl) (some_is (max n first.days) days h) (nat_le n first.days) refl
      by false m None f h = absurd (none_some h)
      by false m (Some n) f h = later first rules n days (f n refl) (some_is n days h)

-- ---- all rules

pub from_0 : (es : List (ℕ × Rule)) → filter (λ e. nat_le 0 e.0) es ≡ es
from_0 [] = refl
from_0 (e ∷ es) = ap (λ b. cond b (e ∷ filter (λ e. nat_le 0 e.0) es) (filter (λ e. nat_le 0 e.0) es)) (least e.0) ∙ ap (λ rest. e ∷ rest) (from_0 es)
  where
    least : (n : ℕ) → nat_le 0 n ≡ true
    least n = grind (arith, nat_tests)
