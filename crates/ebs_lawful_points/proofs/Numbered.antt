-- The rules of one account, by number.
use Rattle.std.proofs.Common.{◌≡◌, ℕ, Bool, true, false, cond, ◌==◌, List, [], ◌∷◌, map, Some, refl, sym, ap, subst, ◌∙◌}
use Rattle.std.proofs.lemmas.Bool.Decides.{nat_tests}
use Rattle.std.proofs.Common.{arith}
use Rattle.std.proofs.lemmas.Cmp.{tied_itself, on_total, then_total}
use Rattle.std.specs.declared.cmp.Ordering.{Ordering}
use Rattle.std.specs.declared.cmp.Ordering.TheVariants.{Less}
use Rattle.std.specs.List.{AllByRecursion, filter}
use Rattle.std.specs.List.Sorted.{IsStrictlySortedBy}
use Rattle.std.specs.Map.{keys_of}
use Rattle.std.specs.Ordering.{nat_cmp, ordering_then}
use Rattle.std.specs.Cmp.{IsTotalOrder, nat_cmp_total}
use Rattle.std.specs.FinMap.{FinMap, get, len, len-entries, entries, from_entries}
use Rattle.ebs_tables.proofs.TreeMaps.{entries-seen}
use Rattle.ebs_model.specs.declared.keys.RuleKey.{RuleKey}
use Rattle.ebs_model.specs.declared.rules.Rule.{Rule}
use Rattle.ebs_row_rules.specs.Order.{rule_cmp, ascends}
use Rattle.ebs_lawful.proofs.Maps.{each-entry}
use Rattle.ebs_lawful_points.proofs.Ordered.{sorted}

rules_total : IsTotalOrder rule_cmp
rules_total = then_total (on_total (λ (k : RuleKey). k.account) nat_cmp_total) (on_total (λ (k : RuleKey). k.number) nat_cmp_total)

-- each is below all behind it
Rising : List Rule → Type 0
Rising [] = Unit {0}
Rising (r ∷ rs) = AllByRecursion (λ (x : Rule). rule_cmp r.key x.key ≡ Less) rs × Rising rs

module _ where
  keys-below : (k : RuleKey) (rs : List Rule) → AllByRecursion (λ (y : RuleKey). rule_cmp k y ≡ Less) (keys_of (map (λ (r : Rule). (r.key, r)) rs)) → AllByRecursion (λ (x : Rule). rule_cmp k x.key ≡ Less) rs
  keys-below k [] h = tt
  keys-below k (r ∷ rs) h = (h.0, keys-below k rs h.1)

  rising-of : (rs : List Rule) → IsStrictlySortedBy rule_cmp (keys_of (map (λ (r : Rule). (r.key, r)) rs)) → Rising rs
  unfolding IsStrictlySortedBy Rising
  rising-of [] h = tt
  rising-of (r ∷ rs) h = (keys-below r.key rs h.0, rising-of rs h.1)

same : (a b n : ℕ) → (a == n) ≡ true → (b == n) ≡ true → a ≡ b
same a b n e h = grind (arith, nat_tests)

-- of one account it is the number that rises
number-less : (n : ℕ) (r x : Rule) → (r.key.account == n) ≡ true → (x.key.account == n) ≡ true → rule_cmp r.key x.key ≡ Less → nat_cmp r.key.number x.key.number ≡ Less
number-less n r x mine also less =
    let tie = ap (nat_cmp r.key.account) (same x.key.account r.key.account n also mine) ∙ tied_itself nat_cmp_total r.key.account in
    sym (ap (λ (o : Ordering). ordering_then o (nat_cmp r.key.number x.key.number)) tie) ∙ less

module _ (n : ℕ) where
  abbrev pub numbered : List Rule → List (ℕ × Rule)
  numbered rs = map (λ (r : Rule). (r.key.number, r)) (filter (λ (r : Rule). r.key.account == n) rs)

  behind : (r : Rule) → (r.key.account == n) ≡ true → (rs : List Rule) → AllByRecursion (λ (x : Rule). rule_cmp r.key x.key ≡ Less) rs → AllByRecursion (λ y. nat_cmp r.key.number y ≡ Less) (keys_of (numbered rs))
  behind r mine [] h = tt
  behind r mine (x ∷ rs) h = by (x.key.account == n) refl (behind r mine rs h.1)
    where
      by : (b : Bool) → (x.key.account == n) ≡ b → AllByRecursion (λ y. nat_cmp r.key.number y ≡ Less) (keys_of (numbered rs))
          → AllByRecursion (λ y. nat_cmp r.key.number y ≡ Less) (keys_of (map (λ (r : Rule). (r.key.number, r)) (cond b (x ∷ filter (λ (r : Rule). r.key.account == n) rs) (filter (λ (r : Rule). r.key.account == n) rs))))
      by true also rest = (number-less n r x mine also h.0, rest)
      by false also rest = rest

  numbers-rise : (rs : List Rule) → Rising rs → IsStrictlySortedBy nat_cmp (keys_of (numbered rs))
  unfolding IsStrictlySortedBy Rising
  numbers-rise [] up = tt
  numbers-rise (r ∷ rs) up = elim (r.key.account == n) as (λ b. (r.key.account == n) ≡ b → IsStrictlySortedBy nat_cmp (keys_of (map (λ (r : Rule). (r.key.number, r)) (cond b (r ∷ filter (λ (r : Rule). r.key.account == n) rs) (filter (λ (r : Rule). r.key.account == n) rs))))) [
    | true ↦ λ mine. (behind r mine rs up.0, numbers-rise rs up.1)
    | false ↦ λ mine. numbers-rise rs up.1
  ] refl

  spread : (P : Rule → Type 0) (rs : List Rule) → AllByRecursion (λ (e : ℕ × Rule). P e.1) (numbered rs) → AllByRecursion (λ (r : Rule). (r.key.account == n) ≡ true → P r) rs
  spread P [] h = tt
  spread P (r ∷ rs) h = by (r.key.account == n) refl h (λ g. spread P rs g)
    where
      wrong : {A : Type 0} → (r.key.account == n) ≡ false → (r.key.account == n) ≡ true → A
      wrong e t = absurd (never (sym e ∙ t))
        where
          never : false ≡ true → ⊥
          never e = cc

      by : (b : Bool) → (r.key.account == n) ≡ b → AllByRecursion (λ (e : ℕ × Rule). P e.1) (map (λ (r : Rule). (r.key.number, r)) (cond b (r ∷ filter (λ (r : Rule). r.key.account == n) rs) (filter (λ (r : Rule). r.key.account == n) rs)))
          → (AllByRecursion (λ (e : ℕ × Rule). P e.1) (numbered rs) → AllByRecursion (λ (r : Rule). (r.key.account == n) ≡ true → P r) rs)
          → ((r.key.account == n) ≡ true → P r) × AllByRecursion (λ (r : Rule). (r.key.account == n) ≡ true → P r) rs
      by true is h again = (λ t. h.0, again h.1)
      by false is h again = (λ t. wrong is t, again h)

  module _ (rs : List Rule) (up : ascends rule_cmp (λ (r : Rule). r.key) rs ≡ true) where
    entries-are : entries (from_entries {R = nat_cmp} (numbered rs)) ≡ numbered rs
    entries-are = entries-seen nat_cmp_total (numbered rs) (numbers-rise rs (rising-of rs (sorted rules_total (λ (r : Rule). r.key) (λ (r : Rule). r) rs up)))

    pub rules-len : len (from_entries {R = nat_cmp} (numbered rs)) ≡ Rattle.std.specs.Prelude.length (numbered rs)
    rules-len = len-entries (from_entries {R = nat_cmp} (numbered rs)) ∙ ap Rattle.std.specs.Prelude.length entries-are

    -- each rule of the account is found by its number
    pub rules-found : AllByRecursion (λ (r : Rule). (r.key.account == n) ≡ true → get (from_entries {R = nat_cmp} (numbered rs)) r.key.number ≡ Some r) rs
    rules-found =
        let m : FinMap nat_cmp Rule = from_entries (numbered rs) in
        let all : AllByRecursion (λ (e : ℕ × Rule). get m e.0 ≡ Some e.1) (numbered rs) =
        subst (λ (es : List (ℕ × Rule)). AllByRecursion (λ (e : ℕ × Rule). get m e.0 ≡ Some e.1) es) entries-are (each-entry nat_cmp_total m (λ (e : ℕ × Rule). get m e.0 ≡ Some e.1) (λ e there. there)) in
        spread (λ (r : Rule). get m r.key.number ≡ Some r) rs (keyed rs all)
      where
        keyed : (xs : List Rule) → AllByRecursion (λ (e : ℕ × Rule). get (from_entries {R = nat_cmp} (numbered rs)) e.0 ≡ Some e.1) (numbered xs)
            → AllByRecursion (λ (e : ℕ × Rule). get (from_entries {R = nat_cmp} (numbered rs)) e.1.key.number ≡ Some e.1) (numbered xs)
        keyed xs = of (filter (λ (r : Rule). r.key.account == n) xs)
          where
            of : (ys : List Rule) → AllByRecursion (λ (e : ℕ × Rule). get (from_entries {R = nat_cmp} (numbered rs)) e.0 ≡ Some e.1) (map (λ (r : Rule). (r.key.number, r)) ys)
                → AllByRecursion (λ (e : ℕ × Rule). get (from_entries {R = nat_cmp} (numbered rs)) e.1.key.number ≡ Some e.1) (map (λ (r : Rule). (r.key.number, r)) ys)
            of [] h = tt
            of (y ∷ ys) h = (h.0, of ys h.1)
