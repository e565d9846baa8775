-- One who may read is answered.
use Rattle.std.proofs.Common.{◌≡◌, ℕ, Bool, true, false, ◌==◌, ◌&&◌, Some, None, Ok, sym, ap, ◌∙◌, refl, arith}
use Rattle.std.proofs.lemmas.Bool.Decides.{nat_tests}
use Rattle.std.specs.FinMap as fin
use Rattle.ebs_model.specs.declared.keys.SnapKey.{SnapKey}
use Rattle.ebs_model.specs.declared.rows.Line.{Line}
use Rattle.ebs_model.specs.declared.request.Request.TheVariants.{ListSnapshotBlocks, ListChangedBlocks}
use Rattle.ebs_model.specs.Limits.{is_page_size, has_ten_digits}
use Rattle.ebs_model.specs.Time.{Snapshot}
use Rattle.ebs_model.specs.Access.{ready}
use Rattle.ebs_model.specs.Machine.{Machine, advance}
use Rattle.ebs_model.specs.Calls.List.{is_same_line, are_alike}
use Rattle.ebs_model.specs.Step.{settled}
use Rattle.ebs_laws.specs.Words.{moment_at}
use Rattle.ebs_laws.specs.AccessLaws.{ReaderGetsBlock, ReaderGetsList, ReaderGetsComparison}
use Rattle.ebs_laws.proofs.Readers.{read-there}
use Rattle.ebs_laws.proofs.Writes.{ready-step}
use Rattle.ebs_laws.proofs.Whole.{listed, compared, call}
use Rattle.ebs_laws.proofs.Acts.{call-whole}

pub reader-block : ReaderGetsBlock
reader-block m account reading key index token s block may good there =
    let (is, passes) = read-there m account (moment_at m reading) key s may in
    ap (λ d. d.1) (ready-step m account reading key index token s block is passes good there)

number_itself : (n : ℕ) → (n == n) ≡ true
number_itself n = grind (arith, nat_tests)

alike_itself : (b : Bool) → are_alike b b ≡ true
alike_itself true = refl
alike_itself false = refl

line_itself : (a : Line) → is_same_line a a ≡ true
line_itself a = λ i. alike_itself a.of_volume i && (number_itself a.account i && number_itself a.number i)

module _ (at : Machine) (account : ℕ) where
  list-answer : (key : SnapKey) (s : Snapshot) (most start : ℕ) → fin.get at.snaps key ≡ Some s → ready account key at.clock.second s.row ≡ Ok tt → is_page_size most ≡ true → has_ten_digits start ≡ true
      → settled at (call at account (ListSnapshotBlocks key None most start)) ≡ (at, listed at.secret key at.clock.second s most start)
  list-answer key s most start is passes fits digits = rw (fits, digits, is, passes) refl

  compare-answer : (first second : SnapKey) (a b : Snapshot) (most start : ℕ) → fin.get at.snaps first ≡ Some a → ready account first at.clock.second a.row ≡ Ok tt → fin.get at.snaps second ≡ Some b → ready account second at.clock.second b.row ≡ Ok tt → is_same_line a.row.line b.row.line ≡ true → is_page_size most ≡ true → has_ten_digits start ≡ true
      → settled at (call at account (ListChangedBlocks first second None most start)) ≡ (at, compared at.secret first second at.clock.second a b most start)
  compare-answer first second a b most start is passes too also line fits digits = rw (fits, digits, is, passes, too, also, line) refl

pub reader-list : ReaderGetsList
reader-list m account reading key most start s may fits digits =
    let at = advance m (moment_at m reading) in
    let (is, passes) = read-there m account (moment_at m reading) key s may in
    (_, _, _, _, ap (λ r. (settled at r).1) (call-whole at account (ListSnapshotBlocks key None most start)) ∙ ap (λ d. d.1) (list-answer at account key s most start is passes fits digits))

pub reader-compares : ReaderGetsComparison
reader-compares m account reading first second most start a b one two line fits digits =
    let at = advance m (moment_at m reading) in
    let (is, passes) = read-there m account (moment_at m reading) first a one in
    let (too, also) = read-there m account (moment_at m reading) second b two in
    let same = ap (λ l. is_same_line a.row.line l) (sym line) ∙ line_itself a.row.line in
    (_, _, _, _, ap (λ r. (settled at r).1) (call-whole at account (ListChangedBlocks first second None most start)) ∙ ap (λ d. d.1) (compare-answer at account first second a b most start is passes too also same fits digits))
