-- Moments that are a whole number of intervals after another.
use Rattle.std.proofs.Common.{◌≡◌, ℕ, ◌+◌, ◌-◌, ◌*◌, ◌/◌, ◌%◌, ◌<◌, ◌≤◌, Bool, true, false, cond, true≢false, ◌&&◌, Option, Some, None, refl, arith, sym, ap, ◌∙◌, subst, inl, inr}
use Rattle.std.proofs.Math.Nat.{mod-add-div', mul-le-mul_right, add-mul, one-mul}
use Rattle.std.proofs.lemmas.Nat.{mod_below}
use Rattle.std.specs.Prelude.{nat_le, nat_lt}
use Rattle.std.proofs.lemmas.Bool.{cases_lt}
use Rattle.std.proofs.lemmas.Bool.Decides.{nat_tests}
use Rattle.ebs_model.specs.declared.policy.Policy.{Policy}
use Rattle.ebs_model.specs.declared.keys.Moment.{Moment}
use Rattle.ebs_model.specs.Policies.{interval, latest_due, is_due}
use Rattle.ebs_model.specs.inner.Due.{due_moment}
use Rattle.ebs_lifecycle.specs.Due.{IsDue, IsLatestDue, NoneIsDue}
use Rattle.ebs_lifecycle.specs.DueLaws.{LatestIsDue, AreWholeIntervalsApart, NextIsAnIntervalLater, IsDueEachDay}

-- a multiple that is less is less by the whole divisor
step : (k n i : ℕ) → k < n → k * i + i ≤ n * i
step k n i lt = let h : (k + 1) * i ≤ n * i = mul-le-mul_right i (omega (arith, lt)) in let e = add-mul k 1 i in let o = one-mul i in omega (arith, h, e, o)

-- the last one at or below a moment
last_is : (now at i : ℕ) → at ≤ now → now - (now - at) % i ≡ at + (now - at) / i * i
last_is now at i le = let e = mod-add-div' (now - at) i in omega (arith, e, le)

last_is_last : (now at i k : ℕ) → 0 < i → at ≤ now → at + k * i ≤ now → at + k * i ≤ now - (now - at) % i
last_is_last now at i k pos le below =
    elim (cases_lt ((now - at) / i) k) [
      | inl more ↦ let s = step ((now - at) / i) k i more in let e = mod-add-div' (now - at) i in let r = mod_below (now - at) i pos in absurd (omega (arith, s, e, r, le, below))
      | inr least ↦ let h : k * i ≤ (now - at) / i * i = mul-le-mul_right i least in let e = last_is now at i le in omega (arith, h, e)
    ]

-- with at and i as the code has them
pub latest_due_is : (p : Policy) (now at i : ℕ) → at ≡ p.at → i ≡ interval p → 1 ≤ p.hours → at ≤ now → IsLatestDue p now (now - (now - at) % i)
latest_due_is p now at i a e pos le =
    (((now - at) / i, last_is now at i le ∙ ap (λ x. x + (now - at) / i * i) a ∙ ap (λ x. p.at + (now - at) / i * x) e), omega arith, last)
  where
    last : (other : ℕ) → IsDue p other → other ≤ now → other ≤ now - (now - at) % i
    last other due below =
        let is : other ≡ at + due.0 * i = due.1 ∙ ap (λ x. x + due.0 * interval p) (sym a) ∙ ap (λ x. at + due.0 * x) (sym e) in
        subst (λ x. x ≤ now - (now - at) % i) (sym is) (last_is_last now at i due.0 (omega (arith, e, pos)) le (subst (λ x. x ≤ now) is below))

pub none_due : (p : Policy) (since now m : ℕ) → IsLatestDue p now m → m ≤ since → NoneIsDue p since now
none_due p since now m latest le other due below = let h = latest.2 other due below in omega (arith, h, le)

pub none_before : (p : Policy) (since now : ℕ) → now < p.at → NoneIsDue p since now
none_before p since now lt other due below = absurd (omega (arith, lt, due.1, below))

-- ---- as the machine has it

le_true : (a b : ℕ) → a ≤ b → nat_le a b ≡ true
le_true a b h = grind (arith, nat_tests)

le_false : (a b : ℕ) → b < a → nat_le a b ≡ false
le_false a b h = grind (arith, nat_tests)

lt_true : (a b : ℕ) → a < b → nat_lt a b ≡ true
lt_true a b h = grind (arith, nat_tests)

lt_false : (a b : ℕ) → b ≤ a → nat_lt a b ≡ false
lt_false a b h = grind (arith, nat_tests)

le_is : (a b : ℕ) → nat_le a b ≡ true → a ≤ b
le_is a b e = grind (arith, nat_tests)

le_not : (a b : ℕ) → nat_le a b ≡ false → b < a
le_not a b e = grind (arith, nat_tests)

lt_is : (a b : ℕ) → nat_lt a b ≡ true → a < b
lt_is a b e = grind (arith, nat_tests)

lt_not : (a b : ℕ) → nat_lt a b ≡ false → b ≤ a
lt_not a b e = grind (arith, nat_tests)

-- with at and i as the code has them
pub latest_is : (p : Policy) (now at i : ℕ) → at ≡ p.at → i ≡ interval p → at ≤ now → now - (now - at) % i ≡ latest_due p now
latest_is p now at i a e le = last_is now at i le ∙ (λ j. a j + (now - a j) / e j * e j)

abbrev found : Policy → ℕ → Bool → Option Moment
found p now b = cond b (Some (record { second = latest_due p now })) None

pub due_some : (p : Policy) (since now m : ℕ) → p.at ≤ now → m ≡ latest_due p now → since < m → ◌≡◌ {A = Option Moment} (Some (record { second = m })) (due_moment p since now)
due_some p since now m le is less =
    ap (λ (s : ℕ). Some (record { second = s })) is
    ∙ ap (found p now) (sym ((λ j. le_true p.at now le j && lt_true since (latest_due p now) (subst (λ s. since < s) is less) j)))

pub due_none : (p : Policy) (since now m : ℕ) → m ≡ latest_due p now → m ≤ since → None ≡ due_moment p since now
due_none p since now m is low = ap (found p now) (sym (by (nat_le p.at now)))
  where
    by : (b : Bool) → (b && nat_lt since (latest_due p now)) ≡ false
    by true = lt_false since (latest_due p now) (subst (λ s. s ≤ since) is low)
    by false = refl

pub due_before : (p : Policy) (since now : ℕ) → now < p.at → None ≡ due_moment p since now
due_before p since now less = ap (found p now) (sym (ap (λ b. b && nat_lt since (latest_due p now)) (le_false p.at now less)))

pub latest_law : LatestIsDue
latest_law p since now pos = (is_one, is_none)
  where
    latest : p.at ≤ now → IsLatestDue p now (latest_due p now)
    latest le = subst (IsLatestDue p now) (latest_is p now p.at (interval p) refl refl le) (latest_due_is p now p.at (interval p) refl refl pos le)

    both : (a b : Bool) → (a && b) ≡ true → (a ≡ true) × (b ≡ true)
    both true true e = (refl, refl)
    both true false e = absurd (true≢false (sym e))
    both false b e = absurd (true≢false (sym e))

    is_one : is_due p since now ≡ true → IsLatestDue p now (latest_due p now) × (since < latest_due p now)
    is_one e = let h = both _ _ e in (latest (le_is _ _ h.0), lt_is _ _ h.1)

    none_of : (a : Bool) → nat_le p.at now ≡ a → (a && nat_lt since (latest_due p now)) ≡ false → NoneIsDue p since now
    none_of true t e = none_due p since now (latest_due p now) (latest (le_is _ _ t)) (lt_not _ _ e)
    none_of false t e = none_before p since now (le_not _ _ t)

    is_none : is_due p since now ≡ false → NoneIsDue p since now
    is_none e = none_of (nat_le p.at now) refl e

-- ---- laws

fewer : (at i k n : ℕ) → at + k * i ≤ at + n * i → 0 < i → k ≤ n
fewer at i k n le pos =
    elim (cases_lt n k) [
      | inl less ↦ let s = step n k i less in absurd (omega (arith, s, le, pos))
      | inr least ↦ least
    ]

added : (at i k d : ℕ) → at + (k + d) * i ≡ at + k * i + d * i
added at i k d = let e = add-mul k d i in omega (arith, e)

pub whole_apart : AreWholeIntervalsApart
whole_apart p m later due next le =
    elim (cases_lt next.0 due.0) [
      | inl less ↦ (0, let h : next.0 * interval p ≤ due.0 * interval p = mul-le-mul_right (interval p) (omega (arith, less)) in omega (arith, h, due.1, next.1, le))
      | inr least ↦ (next.0 - due.0, let h : next.0 ≡ due.0 + (next.0 - due.0) = omega (arith, least) in let g = added p.at (interval p) due.0 (next.0 - due.0) in next.1 ∙ ap (λ x. p.at + x * interval p) h ∙ g ∙ ap (λ x. x + (next.0 - due.0) * interval p) (sym due.1))
    ]

pub next_after : NextIsAnIntervalLater
next_after p m due = ((due.0 + 1, let e = added p.at (interval p) due.0 1 in let o = one-mul (interval p) in omega (arith, e, o, due.1)), none)
  where
    none : (now : ℕ) → now < m + interval p → NoneIsDue p m now
    none now before other next le =
        elim (cases_lt due.0 next.0) [
          | inl more ↦ let s = step due.0 next.0 (interval p) more in absurd (omega (arith, s, due.1, next.1, le, before))
          | inr least ↦ let h : next.0 * interval p ≤ due.0 * interval p = mul-le-mul_right (interval p) least in omega (arith, h, due.1, next.1)
        ]

pub each_day : IsDueEachDay
each_day p n m e due = (due.0 + n, let g = added p.at (interval p) due.0 n in let d : n * interval p ≡ 86400 = whole p.hours n e in omega (arith, g, d, due.1))
  where
    whole : (h k : ℕ) → k * h ≡ 24 → k * (3600 * h) ≡ 86400
    whole h k f = grind (arith)
