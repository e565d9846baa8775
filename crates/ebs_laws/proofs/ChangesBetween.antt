-- Pages of a list of changes that are asked for with other calls between them.
use Rattle.std.proofs.Common.{◌≡◌, ℕ, ◌+◌, ◌^◌, ◌<◌, true, List, [], ◌∷◌, ◌++◌, length, map, take, Option, Some, None, Ok, unwrap_or, sym, ap, subst, ◌∙◌, refl, append-nil}
use Rattle.std.proofs.lemmas.List.{map-append}
use Rattle.std.proofs.lemmas.List.Concat.{flat_map-cons}
use Rattle.std.proofs.lemmas.List.Elements.{recursion_from_All}
use Rattle.std.specs.List.{AllByRecursion, slice_get}
use Rattle.std.specs.Option.{option_map}
use Rattle.ebs_model.specs.declared.keys.SnapKey.{SnapKey}
use Rattle.ebs_model.specs.declared.keys.Moment.{Moment}
use Rattle.ebs_model.specs.declared.entries.ChangedToken.{ChangedToken}
use Rattle.ebs_model.specs.declared.request.Request.TheVariants.{ListChangedBlocks}
use Rattle.ebs_model.specs.declared.answer.Answer.{Answer}
use Rattle.ebs_model.specs.declared.answer.Answer.TheVariants.{Refused}
use Rattle.ebs_model.specs.declared.answer.Refusal.{Refusal}
use Rattle.ebs_model.specs.declared.answer.Refusal.TheVariants.{BadPageToken}
use Rattle.ebs_model.specs.Arrays.{WholeBlock, WholeArray}
use Rattle.ebs_model.specs.Lists.{Pair, page_of, next_of}
use Rattle.ebs_model.specs.Tokens.{page_text}
use Rattle.ebs_model.specs.Machine.{Machine, advance, moment_of}
use Rattle.ebs_model.specs.Calls.List.{page_life, begins, changed_entry, differences, next_page}
use Rattle.ebs_model.specs.Step.{step}
use Rattle.ebs_listing.specs.Joined.{joined}
use Rattle.ebs_listing.proofs.PageLaws.{joined-changes}
use Rattle.ebs_model.specs.Timed.{Timed, after_all}
use Rattle.ebs_laws.specs.Pages.{change_page, Ask}
use Rattle.ebs_laws.specs.AccessLaws.{IsChangePage}
use Rattle.ebs_laws.specs.ChangePages.{changes_between, changed_indexes, ChangePagesBetweenJoin}
use Rattle.ebs_laws.proofs.Between.{own-index}
use Rattle.ebs_laws.proofs.Cases.{Outcome, step-cases, some_found}
use Rattle.ebs_laws.proofs.Given.{kept_by_run}
use Rattle.ebs_laws.proofs.Stays.{Whole, whole-aged, whole-turn, whole-now}
use Rattle.ebs_laws.proofs.ListReads.{secret-run, secret-stays}
use Rattle.ebs_laws.proofs.Fits.{small-index}
use Rattle.ebs_laws.proofs.Elements.{all-got, IsChange, changes-found, either-has}

same_changes : (secret : List ℕ) (first second : SnapKey) (now : ℕ) (ps : List (Pair WholeBlock)) → map (λ e. e.index) (map (changed_entry secret first second now) ps) ≡ map (λ p. p.index) ps
same_changes secret first second now [] = refl
same_changes secret first second now (p ∷ ps) = ap (λ l. p.index ∷ l) (same_changes secret first second now ps)

module _ (secret : List ℕ) (first second : SnapKey) (f g : WholeArray) (account most start : ℕ) (small : (i n : ℕ) (p : Pair WholeBlock) → slice_get (differences f g i) n ≡ Some p → p.index < 2 ^ 32) where
  abbrev Both : Machine → Type 0
  Both m = Whole first f m × Whole second g m

  -- a page that begins at no other index
  abbrev Places : Option (List ℕ) → ℕ → Type 0
  Places page i = (now j : ℕ) → begins secret true first second now page start ≡ Ok j → j ≡ i

  first-place : Places None start
  first-place now j e = cc

  token-place : (i end : ℕ) → i < 2 ^ 32 → Places (Some (page_text secret true first second i end)) i
  token-place i end low now j e = own-index secret true first second now i end j low (some_found _ BadPageToken j e)

  abbrev token_at : ℕ → ℕ → List ℕ
  token_at now i = page_text secret true first second i (now + page_life)

  abbrev page_at : ℕ → ℕ → List ChangedToken × Option (List ℕ)
  page_at now i = (map (changed_entry secret first second now) (page_of most (differences f g i)), option_map (token_at now) (next_of (λ p. p.index) most (differences f g i)))

  abbrev IsPage : Option (List ℕ) → Outcome → Type 0
  IsPage page d = IsChangePage d.1 → (now : ℕ) × (i : ℕ) × (begins secret true first second now page start ≡ Ok i) × (change_page d.1 ≡ page_at now i)

  not_list : (refusal : Refusal) → IsChangePage (Refused refusal) → ⊥
  not_list refusal (entries, expiry, next, size, e) = cc

  page-step : (m : Machine) (reading : Moment) (page : Option (List ℕ)) → Both m → m.secret ≡ secret → IsPage page (step m account reading (ListChangedBlocks first second page most start))
  page-step m reading page whole is =
      let at = advance m (moment_of m reading) in
      let now = at.clock.second in
      let one = whole-aged first f m (moment_of m reading) whole.0 in
      let two = whole-aged second g m (moment_of m reading) whole.1 in
      step-cases (IsPage page) m account reading (ListChangedBlocks first second page most start)
      (λ a b i tests list.
      let same = (one.0 a tests.first_is).1 in
      let also = (two.0 b tests.second_is).1 in (
        now,
        i,
        subst (λ x. begins x true first second now page start ≡ Ok i) is tests.begins_at,
        λ k. (map (changed_entry (is k) first second now) (page_of most (differences (same k) (also k) i)), next_page (is k) true first second now (next_of (λ p. p.index) most (differences (same k) (also k) i))),
      ))
      (λ refusal list. absurd (not_list refusal list))

  abbrev list : ℕ → List (Pair WholeBlock)
  list i = differences f g i

  abbrev Joins : List Ask → Machine → Option (List ℕ) → ℕ → Type 0
  Joins asks m page i = AllByRecursion IsChangePage (changes_between account first second most start asks m page) → changed_indexes (changes_between account first second most start asks m page) ≡ map (λ p. p.index) (joined (λ p. p.index) most list (length asks) i)

  abbrev follows : List Ask → Machine → Option (List ℕ) → List Answer
  follows asks new next = unwrap_or (option_map (λ token. changes_between account first second most start asks new (Some token)) next) []

  -- one page, and what follows it
  page-joins : (asks : List Ask) (new : Machine) (now i : ℕ) → ((next : ℕ) → next < 2 ^ 32 → Joins asks new (Some (token_at now next)) next)
      → let rest = follows asks new (page_at now i).1 in AllByRecursion IsChangePage rest
      → map (λ e. e.index) (page_at now i).0 ++ changed_indexes rest ≡ map (λ p. p.index) (take most (list i) ++ unwrap_or (option_map (joined (λ p. p.index) most list (length asks)) (next_of (λ p. p.index) most (list i))) [])
  page-joins asks new now i more = by (slice_get (list i) most) refl
    where
      by : (o : Option (Pair WholeBlock)) → slice_get (list i) most ≡ o
          → let rest = follows asks new (option_map (token_at now) (option_map (λ p. p.index) o)) in AllByRecursion IsChangePage rest
          → map (λ e. e.index) (page_at now i).0 ++ changed_indexes rest ≡ map (λ p. p.index) (take most (list i) ++ unwrap_or (option_map (joined (λ p. p.index) most list (length asks)) (option_map (λ p. p.index) o)) [])
      by None e all = append-nil _ ∙ same_changes secret first second now (take most (list i)) ∙ ap (map (λ p. p.index)) (sym (append-nil _))
      by (Some x) e all =
          (λ k. same_changes secret first second now (take most (list i)) k ++ more x.index (small i most x e) all k)
          ∙ sym (map-append (λ p. p.index) (take most (list i)) (joined (λ p. p.index) most list (length asks) x.index))

  between : (asks : List Ask) (m : Machine) (page : Option (List ℕ)) (i : ℕ) → Both m → m.secret ≡ secret → Places page i → Joins asks m page i
  between [] m page i whole is place all = refl
  between (a ∷ asks) m page i whole is place all =
      let n = after_all m a.others in
      let request = ListChangedBlocks first second page most start in
      let s = step n account a.reading request in
      let asked : Timed = record { call = record { account = account; request = request }; reading = a.reading } in
      let later : Both n = (kept_by_run (λ m. Whole first f m) (whole-turn first f) a.others m whole.0, kept_by_run (λ m. Whole second g m) (whole-turn second g) a.others m whole.1) in
      let one = secret-run m a.others ∙ is in
      let after : Both s.0 = (whole-turn first f n asked later.0, whole-turn second g n asked later.1) in
      let (now, j, begun, shows) = page-step n a.reading page later one all.0 in
      let shown = shows ∙ ap (page_at now) (place now j begun) in
      flat_map-cons (λ answer. map (λ e. e.index) (change_page answer).0) s.1 (follows asks s.0 (change_page s.1).1)
      ∙ subst (λ p. let rest = follows asks s.0 p.1 in AllByRecursion IsChangePage rest → map (λ e. e.index) p.0 ++ changed_indexes rest ≡ map (λ p. p.index) (joined (λ p. p.index) most list (length (a ∷ asks)) i))
      (sym shown)
      (page-joins asks s.0 now i (λ next low. between asks s.0 (Some (token_at now next)) next after (secret-stays n account a.reading request ∙ one) (token-place next (now + page_life) low)))
      all.1

pub changes-between-join : ChangePagesBetweenJoin
changes-between-join m account first second a b most start asks given fit is whole too also some all few =
    between m.secret first second a.array b.array account most start small asks m None start (whole-now m first a given is whole, whole-now m second b given too also) refl (first-place m.secret first second a.array b.array account most start small) (recursion_from_All IsChangePage _ all)
    ∙ ap (map (λ p. p.index)) (joined-changes (λ b. b.stamp) a.array b.array most (length asks) start some few)
  where
    small : (i n : ℕ) (p : Pair WholeBlock) → slice_get (differences a.array b.array i) n ≡ Some p → p.index < 2 ^ 32
    small i n p there =
        either-has (λ b. b.stamp) a.array b.array p (p.index < 2 ^ 32) (all-got (IsChange (λ b. b.stamp) a.array b.array) (differences a.array b.array i) n p (changes-found (λ b. b.stamp) a.array b.array i) there)
        (λ x e. small-index a p.index x (fit.0 first a is) e)
        (λ x e. small-index b p.index x (fit.0 second b too) e)
