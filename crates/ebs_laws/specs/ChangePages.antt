-- Lists of changes that are read page by page, with other calls between the pages.
use Rattle.std.specs.Prelude.{◌≡◌, ℕ, ◌≤◌, true, List, [], ◌∷◌, length, map, unwrap_or, flat_map}
use Rattle.std.specs.List.{All}
use Rattle.std.specs.Option.{option_map}
use Rattle.std.specs.FinMap as fin
use Rattle.std.specs.declared.option.Option.{Option}
use Rattle.std.specs.declared.option.Option.TheVariants.{None, Some}
use Rattle.ebs_model.specs.declared.keys.SnapKey.{SnapKey}
use Rattle.ebs_model.specs.declared.request.Request.TheVariants.{ListChangedBlocks}
use Rattle.ebs_model.specs.declared.answer.Answer.{Answer}
use Rattle.ebs_model.specs.Time.{Snapshot}
use Rattle.ebs_model.specs.Machine.{Machine}
use Rattle.ebs_model.specs.Calls.List.{differences}
use Rattle.ebs_model.specs.Step.{step}
use Rattle.ebs_model.specs.Timed.{after_all}
use Rattle.ebs_laws.specs.Puts.{IndexesFit}
use Rattle.ebs_laws.specs.Uploads.{NumbersGiven}
use Rattle.ebs_laws.specs.Pages.{change_page, Ask}
use Rattle.ebs_laws.specs.AccessLaws.{IsChangePage}

-- the answers to pages of a list of changes that are asked for in the same way, with other calls between them
abbrev pub changes_between : ℕ → SnapKey → SnapKey → ℕ → ℕ → List Ask → Machine → Option (List ℕ) → List Answer
changes_between account first second most start [] m page = []
changes_between account first second most start (a ∷ asks) m page =
    let s = step (after_all m a.others) account a.reading (ListChangedBlocks first second page most start) in
    s.1 ∷ unwrap_or (option_map (λ token. changes_between account first second most start asks s.0 (Some token)) (change_page s.1).1) []

abbrev pub changed_indexes : List Answer → List ℕ
changed_indexes answers = flat_map (λ answer. map (λ e. e.index) (change_page answer).0) answers

-- pages of the list of changes of two completed snapshots that are answered have together the indexes of all changes from
-- the starting index, whatever is called between them, and whenever
abbrev pub ChangePagesBetweenJoin : Type 0
ChangePagesBetweenJoin =
    (m : Machine) (account : ℕ) (first second : SnapKey) (a b : Snapshot) (most start : ℕ) (asks : List Ask) → let answers = changes_between account first second most start asks m None in
    NumbersGiven m → IndexesFit m → fin.get m.snaps first ≡ Some a → a.row.completed ≡ true → fin.get m.snaps second ≡ Some b → b.row.completed ≡ true
    → 1 ≤ most → All IsChangePage answers → length (differences a.array b.array start) ≤ length asks
    → changed_indexes answers ≡ map (λ p. p.index) (differences a.array b.array start)
