-- Pages that are asked for with other calls between them.
use Rattle.std.proofs.Common.{◌≡◌, ℕ, ◌+◌, ◌^◌, ◌<◌, ◌≤◌, Bool, true, false, cond, List, [], ◌∷◌, ◌++◌, length, map, take, Option, Some, None, Ok, unwrap_or, sym, ap, subst, ◌∙◌, refl, append-nil}
use Rattle.std.proofs.lemmas.List.{map-append}
use Rattle.std.proofs.lemmas.List.Concat.{flat_map-cons}
use Rattle.std.proofs.lemmas.List.Elements.{recursion_from_All}
use Rattle.std.specs.List.{All, AllByRecursion, slice_get}
use Rattle.std.specs.Int.{w32}
use Rattle.std.specs.Option.{option_map}
use Rattle.std.specs.FinMap as fin
use Rattle.ebs_model.specs.declared.keys.SnapKey.{SnapKey}
use Rattle.ebs_model.specs.declared.keys.Moment.{Moment}
use Rattle.ebs_model.specs.declared.entries.BlockEntry.{BlockEntry}
use Rattle.ebs_model.specs.declared.request.Request.TheVariants.{ListSnapshotBlocks}
use Rattle.ebs_model.specs.declared.answer.Answer.{Answer}
use Rattle.ebs_model.specs.declared.answer.Answer.TheVariants.{Refused}
use Rattle.ebs_model.specs.declared.answer.Refusal.{Refusal}
use Rattle.ebs_model.specs.declared.answer.Refusal.TheVariants.{BadPageToken}
use Rattle.ebs_model.specs.Arrays.{WholeBlock, WholeArray}
use Rattle.ebs_model.specs.Lists.{from_index, page_of, next_of}
use Rattle.ebs_model.specs.Tokens.{page_text, page_start, number_at, decoded}
use Rattle.ebs_model.specs.Time.{Snapshot}
use Rattle.ebs_model.specs.Machine.{Machine, advance, moment_of}
use Rattle.ebs_model.specs.Calls.List.{page_life, begins, entry, next_page}
use Rattle.ebs_model.specs.Step.{step}
use Rattle.ebs_tokens.proofs.Texts.{decode-page_text, page_index, index-back}
use Rattle.ebs_listing.specs.Joined.{joined}
use Rattle.ebs_listing.proofs.PageLaws.{joined-blocks}
use Rattle.ebs_model.specs.Timed.{after_all}
use Rattle.ebs_laws.specs.Puts.{IndexesFit}
use Rattle.ebs_laws.specs.Uploads.{NumbersGiven}
use Rattle.ebs_laws.specs.Pages.{block_page, Ask, pages_between, listed_indexes, IsBlockPage}
use Rattle.ebs_laws.proofs.Cases.{Outcome, step-cases, some_found}
use Rattle.ebs_laws.proofs.Given.{kept_by_run}
use Rattle.ebs_laws.proofs.Stays.{Whole, whole-aged, whole-turn, whole-now}
use Rattle.ebs_laws.proofs.ListReads.{secret-run, secret-stays}
use Rattle.ebs_laws.proofs.Fits.{small-index}
use Rattle.ebs_laws.proofs.Elements.{all-got, from-found}

-- where a page's own token is good, it begins that page
pub own-index : (secret : List ℕ) (changed : Bool) (first second : SnapKey) (now index end found : ℕ) → index < 2 ^ 32 → page_start secret changed first second now (page_text secret changed first second index end) ≡ Some found → found ≡ index
own-index secret changed first second now index end found small e =
    sym (here _ _ e) ∙ ap (λ r. number_at w32 25 4 (decoded r)) (decode-page_text secret changed first second index end) ∙ page_index secret changed first second index end ∙ index-back index small
  where
    here : (t : Bool) (n : ℕ) → cond t (Some n) None ≡ Some found → n ≡ found
    here true n e = cc
    here false n e = cc

same_indexes : (secret : List ℕ) (key : SnapKey) (now : ℕ) (es : List (ℕ × WholeBlock)) → map (λ e. e.index) (map (entry secret key now) es) ≡ map (λ e. e.0) es
same_indexes secret key now [] = refl
same_indexes secret key now (e ∷ es) = ap (λ l. e.0 ∷ l) (same_indexes secret key now es)

module _ (secret : List ℕ) (key : SnapKey) (array : WholeArray) (account most start : ℕ) (small : (i n : ℕ) (e : ℕ × WholeBlock) → slice_get (from_index array i) n ≡ Some e → e.0 < 2 ^ 32) where
  -- a page that begins at no other index
  abbrev Places : Option (List ℕ) → ℕ → Type 0
  Places page i = (now j : ℕ) → begins secret false key key now page start ≡ Ok j → j ≡ i

  first-place : Places None start
  first-place now j e = cc

  token-place : (i end : ℕ) → i < 2 ^ 32 → Places (Some (page_text secret false key key i end)) i
  token-place i end low now j e = own-index secret false key key now i end j low (some_found _ BadPageToken j e)

  abbrev token_at : ℕ → ℕ → List ℕ
  token_at now i = page_text secret false key key i (now + page_life)

  abbrev page_at : ℕ → ℕ → List BlockEntry × Option (List ℕ)
  page_at now i = (map (entry secret key now) (page_of most (from_index array i)), option_map (token_at now) (next_of (λ e. e.0) most (from_index array i)))

  abbrev IsPage : Option (List ℕ) → Outcome → Type 0
  IsPage page d = IsBlockPage d.1 → (now : ℕ) × (i : ℕ) × (begins secret false key key now page start ≡ Ok i) × (block_page d.1 ≡ page_at now i)

  not_list : (refusal : Refusal) → IsBlockPage (Refused refusal) → ⊥
  not_list refusal (entries, expiry, next, size, e) = cc

  page-step : (m : Machine) (reading : Moment) (page : Option (List ℕ)) → Whole key array m → m.secret ≡ secret → IsPage page (step m account reading (ListSnapshotBlocks key page most start))
  page-step m reading page whole is =
      let at = advance m (moment_of m reading) in
      let now = at.clock.second in
      let aged = whole-aged key array m (moment_of m reading) whole in
      step-cases (IsPage page) m account reading (ListSnapshotBlocks key page most start)
      (λ s there passes i begun list.
      let same = (aged.0 s there).1 in (
        now,
        i,
        subst (λ x. begins x false key key now page start ≡ Ok i) is begun,
        λ k. (map (entry (is k) key now) (page_of most (from_index (same k) i)), next_page (is k) false key key now (next_of (λ e. e.0) most (from_index (same k) i))),
      ))
      (λ refusal list. absurd (not_list refusal list))

  abbrev Joins : List Ask → Machine → Option (List ℕ) → ℕ → Type 0
  Joins asks m page i = AllByRecursion IsBlockPage (pages_between account key most start asks m page) → listed_indexes (pages_between account key most start asks m page) ≡ map (λ e. e.0) (joined (λ e. e.0) most (from_index array) (length asks) i)

  abbrev follows : List Ask → Machine → Option (List ℕ) → List Answer
  follows asks new next = unwrap_or (option_map (λ token. pages_between account key most start asks new (Some token)) next) []

  -- one page, and what follows it
  page-joins : (asks : List Ask) (new : Machine) (now i : ℕ) → ((next : ℕ) → next < 2 ^ 32 → Joins asks new (Some (token_at now next)) next)
      → let rest = follows asks new (page_at now i).1 in AllByRecursion IsBlockPage rest
      → map (λ e. e.index) (page_at now i).0 ++ listed_indexes rest ≡ map (λ e. e.0) (take most (from_index array i) ++ unwrap_or (option_map (joined (λ e. e.0) most (from_index array) (length asks)) (next_of (λ e. e.0) most (from_index array i))) [])
  page-joins asks new now i more = by (slice_get (from_index array i) most) refl
    where
      by : (o : Option (ℕ × WholeBlock)) → slice_get (from_index array i) most ≡ o
          → let rest = follows asks new (option_map (token_at now) (option_map (λ e. e.0) o)) in AllByRecursion IsBlockPage rest
          → map (λ e. e.index) (page_at now i).0 ++ listed_indexes rest ≡ map (λ e. e.0) (take most (from_index array i) ++ unwrap_or (option_map (joined (λ e. e.0) most (from_index array) (length asks)) (option_map (λ e. e.0) o)) [])
      by None e all = append-nil _ ∙ same_indexes secret key now (take most (from_index array i)) ∙ ap (map (λ e. e.0)) (sym (append-nil _))
      by (Some x) e all =
          (λ k. same_indexes secret key now (take most (from_index array i)) k ++ more x.0 (small i most x e) all k)
          ∙ sym (map-append (λ e. e.0) (take most (from_index array i)) (joined (λ e. e.0) most (from_index array) (length asks) x.0))

  between : (asks : List Ask) (m : Machine) (page : Option (List ℕ)) (i : ℕ) → Whole key array m → m.secret ≡ secret → Places page i → Joins asks m page i
  between [] m page i whole is place all = refl
  between (a ∷ asks) m page i whole is place all =
      let n = after_all m a.others in
      let request = ListSnapshotBlocks key page most start in
      let s = step n account a.reading request in
      let later = kept_by_run (λ m. Whole key array m) (whole-turn key array) a.others m whole in
      let one = secret-run m a.others ∙ is in
      let after = whole-turn key array n (record { call = record { account = account; request = request }; reading = a.reading }) later in
      let (now, j, begun, shows) = page-step n a.reading page later one all.0 in
      let shown = shows ∙ ap (page_at now) (place now j begun) in
      flat_map-cons (λ answer. map (λ e. e.index) (block_page answer).0) s.1 (follows asks s.0 (block_page s.1).1)
      ∙ subst (λ p. let rest = follows asks s.0 p.1 in AllByRecursion IsBlockPage rest → map (λ e. e.index) p.0 ++ listed_indexes rest ≡ map (λ e. e.0) (joined (λ e. e.0) most (from_index array) (length (a ∷ asks)) i))
      (sym shown)
      (page-joins asks s.0 now i (λ next low. between asks s.0 (Some (token_at now next)) next after (secret-stays n account a.reading request ∙ one) (token-place next (now + page_life) low)))
      all.1

pub between-join : (m : Machine) (account : ℕ) (key : SnapKey) (s : Snapshot) (most start : ℕ) (asks : List Ask) → let answers = pages_between account key most start asks m None in
    NumbersGiven m → IndexesFit m → fin.get m.snaps key ≡ Some s → s.row.completed ≡ true → 1 ≤ most → All IsBlockPage answers → length (from_index s.array start) ≤ length asks
    → listed_indexes answers ≡ map (λ e. e.0) (from_index s.array start)
between-join m account key s most start asks given fit is whole some all few =
    between m.secret key s.array account most start small asks m None start (whole-now m key s given is whole) refl (first-place m.secret key s.array account most start small) (recursion_from_All IsBlockPage _ all)
    ∙ ap (map (λ e. e.0)) (joined-blocks s.array most (length asks) start some few)
  where
    small : (i n : ℕ) (e : ℕ × WholeBlock) → slice_get (from_index s.array i) n ≡ Some e → e.0 < 2 ^ 32
    small i n e there = small-index s e.0 e.1 (fit.0 key s is) (all-got (λ e. fin.get s.array e.0 ≡ Some e.1) (from_index s.array i) n e (from-found s.array i) there)
