-- The list of an account's rules.
use Rattle.std.proofs.Common.{◌≡◌, ℕ, ◌==◌, ◌||◌, Bool, true, false, cond, List, [], ◌∷◌, map, Some, sym, ap, subst, ◌∙◌, refl}
use Rattle.std.proofs.lemmas.List.Elements.{All-from_recursion}
use Rattle.std.specs.FinMap as fin
use Rattle.std.specs.FinMap.{nat_cmp-IsAntisymmetric}
use Rattle.std.specs.Ordering.{nat_cmp, eq_by_cmp}
use Rattle.std.specs.Map.{keys_of}
use Rattle.std.specs.List.{AllByRecursion}
use Rattle.std.specs.List.Sorted.{IsStrictlySortedBy}
use Rattle.ebs_tables.proofs.TreeMaps.{entries-sorted}
use Rattle.ebs_tables.proofs.MapEdits.{is_same}
use Rattle.ebs_model.specs.declared.rules.Rule.{Rule}
use Rattle.ebs_model.specs.declared.rules.RuleView.{RuleView}
use Rattle.ebs_model.specs.declared.keys.RuleKey.{RuleKey}
use Rattle.ebs_model.specs.declared.request.Request.TheVariants.{ListRules}
use Rattle.ebs_model.specs.Rows.{book_of}
use Rattle.ebs_model.specs.Rules.{Book, rule_view}
use Rattle.ebs_model.specs.Machine.{Machine, rows_of, advance}
use Rattle.ebs_model.specs.Step.{settled}
use Rattle.ebs_laws.specs.Words.{second_of, moment_at}
use Rattle.ebs_laws.specs.RuleWords.{rule_at}
use Rattle.ebs_laws.specs.SharingLaws.{is_among}
use Rattle.ebs_laws.specs.RuleLaws.{RulesFit, ShowsRule, ListsRules, ListHasRules}
use Rattle.ebs_laws.proofs.Acts.{call-whole}
use Rattle.ebs_laws.proofs.Elements.{entries-found}
use Rattle.ebs_laws.proofs.Readers.{number_is}
use Rattle.ebs_laws.proofs.RuleShows.{shows-rule}

on-first : (a b : Bool) → a ≡ true → (a || b) ≡ true
on-first true b e = refl
on-first false b e = cc

on-last : (a b : Bool) → b ≡ true → (a || b) ≡ true
on-last true b e = refl
on-last false b e = e

has-key : (es : List (ℕ × Rule)) (number : ℕ) (rule : Rule) → fin.find nat_cmp number es ≡ Some rule → is_among number (keys_of es) ≡ true
has-key [] number rule h = cc
has-key (e ∷ es) number rule h = by (eq_by_cmp nat_cmp number e.0) refl (has-key es number rule) h
  where
    by : (b : Bool) → eq_by_cmp nat_cmp number e.0 ≡ b → (fin.find nat_cmp number es ≡ Some rule → is_among number (keys_of es) ≡ true) → cond b (Some e.1) (fin.find nat_cmp number es) ≡ Some rule → is_among number (keys_of (e ∷ es)) ≡ true
    by true t rest h = on-first (e.0 == number) (is_among number (keys_of es)) (number_is e.0 number (sym (is_same nat_cmp-IsAntisymmetric number e.0 t)))
    by false t rest h = on-last (e.0 == number) (is_among number (keys_of es)) (rest h)

module _ (m : Machine) (account now : ℕ) (fit : RulesFit m) where
  abbrev book : Book
  book = book_of (rows_of m) account

  abbrev shown : List (ℕ × Rule) → List RuleView
  shown es = map (rule_view now) (map (λ e. e.1) es)

  abbrev IsFound : ℕ × Rule → Type 0
  IsFound e = fin.get book.rules e.0 ≡ Some e.1

  number-of : (e : ℕ × Rule) → IsFound e → e.1.key.number ≡ e.0
  number-of e is = ap (λ (k : RuleKey). k.number) (fit account e.0 e.1 is).key_is

  numbers-are : (es : List (ℕ × Rule)) → AllByRecursion IsFound es → map (λ (view : RuleView). view.key.number) (shown es) ≡ keys_of es
  numbers-are [] h = refl
  numbers-are (e ∷ es) h = let rest = numbers-are es h.1 in let first = number-of e h.0 in λ i. first i ∷ rest i

  all-own : (es : List (ℕ × Rule)) → AllByRecursion IsFound es → AllByRecursion (λ (view : RuleView). (rule : Rule) × (rule_at m account view.key.number ≡ Some rule) × ShowsRule now rule view) (shown es)
  all-own [] h = tt
  all-own (e ∷ es) h = ((e.1, ap (fin.get book.rules) (number-of e h.0) ∙ h.0, shows-rule now e.1), all-own es h.1)

  lists-rules : ListsRules m account now (shown (fin.entries book.rules))
  lists-rules =
      let all = entries-found book.rules in
      let same = numbers-are (fin.entries book.rules) all in
      record {
        own = All-from_recursion _ _ (all-own (fin.entries book.rules) all);
        ascending = subst (IsStrictlySortedBy nat_cmp) (sym same) (entries-sorted nat_cmp book.rules);
        each = λ number rule is. ap (is_among number) same ∙ has-key (fin.entries book.rules) number rule (sym (fin.get-entries book.rules number) ∙ is);
      }

pub rules-listed : ListHasRules
rules-listed m account reading fit =
    let at = advance m (moment_at m reading) in
    (_, ap (λ r. (settled at r).1) (call-whole at account ListRules), lists-rules m account (second_of m reading) fit)
