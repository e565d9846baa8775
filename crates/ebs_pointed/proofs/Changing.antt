-- One entry more in the rows of accounts.
use Rattle.std.proofs.Common.{◌≡◌, ℕ, List, ◌∷◌, map, sym, ap, subst, ◌∙◌}
use Rattle.std.specs.Cmp.{nat_cmp_total}
use Rattle.std.specs.FinMap as fin
use Rattle.std.specs.FinMap.{nat_cmp-IsAntisymmetric}
use Rattle.ebs_lawful.proofs.Maps.{each-insert, each-remove}
use Rattle.ebs_model.specs.declared.rows.Own.{Own}
use Rattle.ebs_model.specs.Rows.{Rows}
use Rattle.ebs_model.specs.Rules.{Book}
use Rattle.ebs_bin.specs.Books.{Shelf, book}
use Rattle.ebs_catalog.specs.declared.rows.AccountRow as kept
use Rattle.ebs_catalog.specs.Held.{own_in}
use Rattle.ebs_checkpoints.specs.declared.owned.AccountRow.{AccountRow}
use Rattle.ebs_point_rules.specs.Values.{HasAccountValues}
use Rattle.ebs_pointed.specs.Accounts.{Found, HaveValues, changed, of_number, of_token, row_at, with_next, with_own, with_token}
use Rattle.ebs_pointed.proofs.Made.{found_in}

abbrev pub left_owns : List (ℕ × kept.AccountRow) → List (ℕ × Own)
left_owns es = map {B = ℕ × Own} (λ e. (e.0, own_in e.1)) es

abbrev pub left_books : List (ℕ × Shelf) → List (ℕ × Book)
left_books es = map {B = ℕ × Book} (λ e. (e.0, book e.1)) es

-- the rest of the entries makes of the rows what all of them make of the first
abbrev pub IsGathering : {E : Type 0} → (E → ℕ) → (AccountRow → E → AccountRow) → Found → Found → List E → List E → Type 0
IsGathering of change first found left all = changed of change found left ≡ changed of change first all

pub one_gathered : {E : Type 0} (of : E → ℕ) (change : AccountRow → E → AccountRow) (first old taken new : Found) (n : ℕ) {row : AccountRow} (e : E) (left rest all : List E)
    → left ≡ e ∷ rest → n ≡ of e → taken ≡ fin.remove old (of e) → new ≡ fin.insert taken n row → row ≡ change (row_at old (of e)) e → IsGathering of change first old left all → IsGathering of change first new rest all
one_gathered of change first old taken new n e left rest all steps number out more is before =
    ap (λ m. changed of change m rest) (more ∙ (λ i. fin.insert (out i) (number i) (is i))) ∙ ap (changed of change old) (sym steps) ∙ before

pub row_kept : (old taken new : Found) (n account : ℕ) {row : AccountRow} → n ≡ account → taken ≡ fin.remove old account → new ≡ fin.insert taken n row → HaveValues old → HasAccountValues row → HaveValues new
row_kept old taken new n account {row} number out more have is =
    let P : ℕ → AccountRow → Type 0 = λ q r. HasAccountValues r in
    subst HaveValues (sym (more ∙ (λ i. fin.insert (out i) (number i) row))) (each-insert P nat_cmp_total nat_cmp-IsAntisymmetric (fin.remove old account) (each-remove P nat_cmp_total nat_cmp-IsAntisymmetric old have account) account row is)

-- all three tables, one after another
pub all_gathered : (rows : Rows) (first owned ruled found : Found) → first ≡ fin.empty → owned ≡ changed of_number with_own first (fin.entries rows.own) → ruled ≡ changed of_number with_next owned (fin.entries rows.books)
    → found ≡ changed of_token with_token ruled (fin.entries rows.tokens) → found ≡ found_in rows
all_gathered rows first owned ruled found none owns books tokens =
    tokens ∙ ap (λ m. changed of_token with_token m (fin.entries rows.tokens)) (books ∙ ap (λ m. changed of_number with_next m (fin.entries rows.books)) (owns ∙ ap (λ m. changed of_number with_own m (fin.entries rows.own)) none))
