-- Pages that are asked for one after the other.
use Rattle.std.proofs.Common.{◌≡◌, ℕ, suc, zero, ◌+◌, ◌^◌, ◌<◌, ◌≤◌, arith, Bool, true, false, nat_le, List, [], ◌++◌, length, map, take, Option, Some, None, Ok, unwrap_or, sym, ap, ◌∙◌, refl, append-nil}
use Rattle.std.proofs.lemmas.List.{map-append}
use Rattle.std.proofs.lemmas.Bool.Decides.{nat_tests}
use Rattle.std.specs.List.{slice_get}
use Rattle.std.specs.Option.{option_map}
use Rattle.std.specs.FinMap as fin
use Rattle.sha2.specs.Sha256.{sha256}
use Rattle.ebs_model.specs.declared.keys.SnapKey.{SnapKey}
use Rattle.ebs_model.specs.declared.keys.Moment.{Moment}
use Rattle.ebs_model.specs.declared.request.Request.TheVariants.{ListSnapshotBlocks, ListChangedBlocks}
use Rattle.ebs_model.specs.declared.answer.Answer.{Answer}
use Rattle.ebs_model.specs.declared.answer.Refusal.TheVariants.{BadPageToken}
use Rattle.ebs_model.specs.Refuse.{some_or}
use Rattle.ebs_model.specs.Limits.{is_page_size, has_ten_digits}
use Rattle.ebs_model.specs.Arrays.{WholeBlock}
use Rattle.ebs_model.specs.Lists.{Pair, from_index, page_of, next_of}
use Rattle.ebs_model.specs.Tokens.{page_text}
use Rattle.ebs_model.specs.Time.{Snapshot}
use Rattle.ebs_model.specs.Access.{ready}
use Rattle.ebs_model.specs.Machine.{Machine, advance, moment_of}
use Rattle.ebs_model.specs.Calls.List.{page_life, begins, is_same_line, entry, changed_entry}
use Rattle.ebs_model.specs.Step.{act, step, settled, call}
use Rattle.ebs_model.proofs.Aged.{aged-aged}
use Rattle.ebs_tokens.proofs.Pages.{page_token-good}
use Rattle.ebs_listing.specs.Joined.{joined}
use Rattle.ebs_listing.proofs.PageLaws.{joined-blocks, joined-changes}
use Rattle.ebs_laws.specs.Puts.{IndexesFit}
use Rattle.ebs_laws.specs.Pages.{block_page, change_page, pages_read}
use Rattle.ebs_laws.proofs.Fits.{fits-aged, small-index}
use Rattle.ebs_laws.proofs.Elements.{all-got, from-found, IsChange, changes-found, either-has}
use Rattle.ebs_laws.proofs.Tests.{both_first}
use Rattle.ebs_laws.proofs.Whole as whole
use Rattle.ebs_laws.proofs.Acts.{act-whole, call-whole}
use Rattle.ebs_laws.proofs.Whole.{listed, list_blocks, changes_of, compared, list_changed}

-- a place that each page gives is the next one's start
module _ {E X : Type 0} (index : E → ℕ) (show : E → X) (most : ℕ) (list : ℕ → List E) (small : (start n : ℕ) (e : E) → slice_get (list start) n ≡ Some e → index e < 2 ^ 32) where
  module _ (shown : Answer → List X × Option (List ℕ)) (ask : Machine → Option (List ℕ) → Machine × Answer) (at : Machine) (token : ℕ → List ℕ) (answer : ℕ → Answer) where
    pub read-joined : ((start : ℕ) → shown (answer start) ≡ (map show (page_of most (list start)), option_map token (next_of index most (list start))))
        → ((start : ℕ) → start < 2 ^ 32 → ask at (Some (token start)) ≡ (at, answer start))
        → (pages start : ℕ) (m : Machine) (page : Option (List ℕ)) → ask m page ≡ (at, answer start) → pages_read shown ask pages m page ≡ map show (joined index most list pages start)
    read-joined page asked zero start m t e = refl
    read-joined page asked (suc pages) start m t e =
        ap (λ s. (shown s.1).0 ++ unwrap_or (option_map (λ token. pages_read shown ask pages s.0 (Some token)) (shown s.1).1) []) e
        ∙ ap (λ p. p.0 ++ unwrap_or (option_map (λ token. pages_read shown ask pages at (Some token)) p.1) []) (page start)
        ∙ by (λ next. read-joined page asked pages next at (Some (token next))) (slice_get (list start) most) refl
      where
        by : ((next : ℕ) → ask at (Some (token next)) ≡ (at, answer next) → pages_read shown ask pages at (Some (token next)) ≡ map show (joined index most list pages next)) → (o : Option E) → slice_get (list start) most ≡ o
            → map show (take most (list start)) ++ unwrap_or (option_map (λ token. pages_read shown ask pages at (Some token)) (option_map token (option_map index o))) []
            ≡ map show (take most (list start) ++ unwrap_or (option_map (joined index most list pages) (option_map index o)) [])
        by more None e = append-nil _ ∙ ap (map show) (sym (append-nil _))
        by more (Some x) e = ap (λ l. map show (take most (list start)) ++ l) (more (index x) (asked (index x) (small start most x e))) ∙ sym (map-append show (take most (list start)) (joined index most list pages (index x)))

-- a token that a page gives begins the next one
next-begins : (secret : List ℕ) (changed : Bool) (first second : SnapKey) (now index start : ℕ) → now ≤ 2 ^ 36 → index < 2 ^ 32 → begins secret changed first second now (Some (page_text secret changed first second index (now + page_life))) start ≡ Ok index
next-begins secret changed first second now index start bound small =
    let end = now + page_life in
    let early : now < end = omega arith in
    let long : end < 2 ^ 64 = omega (arith, bound) in
    ap (λ o. some_or o BadPageToken) ((page_token-good secret changed first second now index (page_text secret changed first second index end)).1 (small, (end, early, long, refl)))

-- time stands still between two calls at one reading
again : (m : Machine) (reading : Moment) → let at = advance m (moment_of m reading) in advance at (moment_of at reading) ≡ at
again m reading =
    let now = moment_of m reading in
    let at = advance m now in
    let same : (moment_of at reading).second ≡ now.second = omega arith in
    ap (λ second. advance at (record { second = second })) same
    ∙ ap (λ snaps. record m { clock = now; snaps = snaps }) (aged-aged now.second now.second (omega arith) m.snaps)

module _ (at : Machine) (account : ℕ) (fit : IndexesFit at) (bound : at.clock.second ≤ 2 ^ 36) where
  module _ (key : SnapKey) (s : Snapshot) (is : fin.get at.snaps key ≡ Some s) (passes : ready account key at.clock.second s.row ≡ Ok tt) where
    small-block : (start n : ℕ) (e : ℕ × WholeBlock) → slice_get (from_index s.array start) n ≡ Some e → e.0 < 2 ^ 32
    small-block start n e there = small-index s e.0 e.1 (fit.0 key s is) (all-got (λ e. fin.get s.array e.0 ≡ Some e.1) (from_index s.array start) n e (from-found s.array start) there)

    abbrev answer : ℕ → ℕ → Answer
    answer most start = listed at.secret key at.clock.second s most start

    abbrev token : ℕ → List ℕ
    token index = page_text at.secret false key key index (at.clock.second + page_life)

    answers : (page : Option (List ℕ)) (most start index : ℕ) → begins at.secret false key key at.clock.second page start ≡ Ok index → settled at (list_blocks at account key page most start) ≡ (at, answer most index)
    answers page most start index begun = rw (is, passes, begun) refl

    called : (page : Option (List ℕ)) (most start : ℕ) → is_page_size most ≡ true → has_ten_digits start ≡ true → settled at (call at account (ListSnapshotBlocks key page most start)) ≡ settled at (list_blocks at account key page most start)
    called page most start fits digits = ap (settled at) (call-whole at account (ListSnapshotBlocks key page most start)) ∙ within
      where
        within : settled at (whole.call at account (ListSnapshotBlocks key page most start)) ≡ settled at (list_blocks at account key page most start)
        within = rw (fits, digits) refl

    join-blocks : (ask : Machine → Option (List ℕ) → Machine × Answer) (m : Machine) (most start pages : ℕ) → 1 ≤ most → length (from_index s.array start) ≤ pages
        → ((page : Option (List ℕ)) → ask m page ≡ settled at (list_blocks at account key page most start)) → ((page : Option (List ℕ)) → ask at page ≡ settled at (list_blocks at account key page most start))
        → pages_read block_page ask pages m None ≡ map (entry at.secret key at.clock.second) (from_index s.array start)
    join-blocks ask m most start pages some few first next =
        read-joined (λ e. e.0) (entry at.secret key at.clock.second) most (from_index s.array) small-block block_page ask at token (answer most)
        (λ index. refl)
        (λ index small. next (Some (token index)) ∙ answers (Some (token index)) most start index (next-begins at.secret false key key at.clock.second index start bound small))
        pages start m None (first None ∙ answers None most start start refl)
        ∙ ap (map (entry at.secret key at.clock.second)) (joined-blocks s.array most pages start some few)

  module _ (first second : SnapKey) (a b : Snapshot) (a_is : fin.get at.snaps first ≡ Some a) (a_passes : ready account first at.clock.second a.row ≡ Ok tt) (b_is : fin.get at.snaps second ≡ Some b) (b_passes : ready account second at.clock.second b.row ≡ Ok tt) (line : is_same_line a.row.line b.row.line ≡ true) where
    small-change : (start n : ℕ) (p : Pair WholeBlock) → slice_get (changes_of a b start) n ≡ Some p → p.index < 2 ^ 32
    small-change start n p there =
        either-has (λ b. b.stamp) a.array b.array p (p.index < 2 ^ 32) (all-got (IsChange (λ b. b.stamp) a.array b.array) (changes_of a b start) n p (changes-found (λ b. b.stamp) a.array b.array start) there)
        (λ x e. small-index a p.index x (fit.0 first a a_is) e)
        (λ x e. small-index b p.index x (fit.0 second b b_is) e)

    abbrev change : ℕ → ℕ → Answer
    change most start = compared at.secret first second at.clock.second a b most start

    abbrev mark : ℕ → List ℕ
    mark index = page_text at.secret true first second index (at.clock.second + page_life)

    changes : (page : Option (List ℕ)) (most start index : ℕ) → begins at.secret true first second at.clock.second page start ≡ Ok index → settled at (list_changed at account first second page most start) ≡ (at, change most index)
    changes page most start index begun = rw (a_is, a_passes, b_is, b_passes, begun, line) refl

    called-changes : (page : Option (List ℕ)) (most start : ℕ) → is_page_size most ≡ true → has_ten_digits start ≡ true → settled at (call at account (ListChangedBlocks first second page most start)) ≡ settled at (list_changed at account first second page most start)
    called-changes page most start fits digits = ap (settled at) (call-whole at account (ListChangedBlocks first second page most start)) ∙ within
      where
        within : settled at (whole.call at account (ListChangedBlocks first second page most start)) ≡ settled at (list_changed at account first second page most start)
        within = rw (fits, digits) refl

    join-changes : (ask : Machine → Option (List ℕ) → Machine × Answer) (m : Machine) (most start pages : ℕ) → 1 ≤ most → length (changes_of a b start) ≤ pages
        → ((page : Option (List ℕ)) → ask m page ≡ settled at (list_changed at account first second page most start)) → ((page : Option (List ℕ)) → ask at page ≡ settled at (list_changed at account first second page most start))
        → pages_read change_page ask pages m None ≡ map (changed_entry at.secret first second at.clock.second) (changes_of a b start)
    join-changes ask m most start pages some few now next =
        read-joined (λ p. p.index) (changed_entry at.secret first second at.clock.second) most (changes_of a b) small-change change_page ask at mark (change most)
        (λ index. refl)
        (λ index small. next (Some (mark index)) ∙ changes (Some (mark index)) most start index (next-begins at.secret true first second at.clock.second index start bound small))
        pages start m None (now None ∙ changes None most start start refl)
        ∙ ap (map (changed_entry at.secret first second at.clock.second)) (joined-changes (λ b. b.stamp) a.array b.array most pages start some few)

some : (most : ℕ) → is_page_size most ≡ true → 1 ≤ most
some most e = let least = both_first (nat_le 100 most) _ e in grind (arith, nat_tests)

module _ (m : Machine) (account : ℕ) where
  abbrev at : Moment → Machine
  at reading = advance m (moment_of m reading)

  in-time : (reading : Moment) → m.clock.second ≤ 2 ^ 36 → (at reading).clock.second ≤ 2 ^ 36
  in-time reading bound = omega (arith, bound)

  pub any-blocks-join : (key : SnapKey) (s : Snapshot) (most start pages : ℕ) → IndexesFit m → m.clock.second ≤ 2 ^ 36 → fin.get m.snaps key ≡ Some s → ready account key m.clock.second s.row ≡ Ok tt → 1 ≤ most → length (from_index s.array start) ≤ pages
      → pages_read block_page (λ n page. settled n (act sha256 n account (ListSnapshotBlocks key page most start))) pages m None ≡ map (entry m.secret key m.clock.second) (from_index s.array start)
  any-blocks-join key s most start pages fit bound is passes some few =
      join-blocks m account fit bound key s is passes (λ n page. settled n (act sha256 n account (ListSnapshotBlocks key page most start))) m most start pages some few
      (λ page. ap (settled m) (act-whole sha256 m account (ListSnapshotBlocks key page most start)))
      (λ page. ap (settled m) (act-whole sha256 m account (ListSnapshotBlocks key page most start)))

  pub any-changes-join : (first second : SnapKey) (a b : Snapshot) (most start pages : ℕ) → IndexesFit m → m.clock.second ≤ 2 ^ 36 → fin.get m.snaps first ≡ Some a → ready account first m.clock.second a.row ≡ Ok tt → fin.get m.snaps second ≡ Some b → ready account second m.clock.second b.row ≡ Ok tt → is_same_line a.row.line b.row.line ≡ true → 1 ≤ most → length (changes_of a b start) ≤ pages
      → pages_read change_page (λ n page. settled n (act sha256 n account (ListChangedBlocks first second page most start))) pages m None ≡ map (changed_entry m.secret first second m.clock.second) (changes_of a b start)
  any-changes-join first second a b most start pages fit bound a_is a_passes b_is b_passes line some few =
      join-changes m account fit bound first second a b a_is a_passes b_is b_passes line (λ n page. settled n (act sha256 n account (ListChangedBlocks first second page most start))) m most start pages some few
      (λ page. ap (settled m) (act-whole sha256 m account (ListChangedBlocks first second page most start)))
      (λ page. ap (settled m) (act-whole sha256 m account (ListChangedBlocks first second page most start)))

  pub blocks-join : (reading : Moment) (key : SnapKey) (s : Snapshot) (most start pages : ℕ) → IndexesFit m → m.clock.second ≤ 2 ^ 36 → fin.get (at reading).snaps key ≡ Some s → ready account key (at reading).clock.second s.row ≡ Ok tt → is_page_size most ≡ true → has_ten_digits start ≡ true → length (from_index s.array start) ≤ pages
      → pages_read block_page (λ n page. step n account reading (ListSnapshotBlocks key page most start)) pages m None ≡ map (entry m.secret key (at reading).clock.second) (from_index s.array start)
  blocks-join reading key s most start pages fit bound is passes fits digits few =
      let now = fits-aged m (moment_of m reading) fit in
      let called = called (at reading) account now (in-time reading bound) key s is passes in
      join-blocks (at reading) account now (in-time reading bound) key s is passes (λ n page. step n account reading (ListSnapshotBlocks key page most start)) m most start pages (some most fits) few
      (λ page. called page most start fits digits)
      (λ page. ap (λ n. settled n (call n account (ListSnapshotBlocks key page most start))) (again m reading) ∙ called page most start fits digits)

  pub changes-join : (reading : Moment) (first second : SnapKey) (a b : Snapshot) (most start pages : ℕ) → IndexesFit m → m.clock.second ≤ 2 ^ 36 → fin.get (at reading).snaps first ≡ Some a → ready account first (at reading).clock.second a.row ≡ Ok tt → fin.get (at reading).snaps second ≡ Some b → ready account second (at reading).clock.second b.row ≡ Ok tt → is_same_line a.row.line b.row.line ≡ true → is_page_size most ≡ true → has_ten_digits start ≡ true → length (changes_of a b start) ≤ pages
      → pages_read change_page (λ n page. step n account reading (ListChangedBlocks first second page most start)) pages m None ≡ map (changed_entry m.secret first second (at reading).clock.second) (changes_of a b start)
  changes-join reading first second a b most start pages fit bound a_is a_passes b_is b_passes line fits digits few =
      let now = fits-aged m (moment_of m reading) fit in
      let called = called-changes (at reading) account now (in-time reading bound) first second a b a_is a_passes b_is b_passes line in
      join-changes (at reading) account now (in-time reading bound) first second a b a_is a_passes b_is b_passes line (λ n page. step n account reading (ListChangedBlocks first second page most start)) m most start pages (some most fits) few
      (λ page. called page most start fits digits)
      (λ page. ap (λ n. settled n (call n account (ListChangedBlocks first second page most start))) (again m reading) ∙ called page most start fits digits)
