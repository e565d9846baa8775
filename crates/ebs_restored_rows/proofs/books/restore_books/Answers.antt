use Rattle.std.proofs.Common.{sym, ap, subst, ◌∙◌}
use Rattle.std.specs.Ordering.{nat_cmp}
use Rattle.ebs_tables.specs.Seen.{seen}
use Rattle.ebs_model.specs.Rows.{Rows}
use Rattle.ebs_catalog.specs.Held.{rows_in}
use Rattle.ebs_restored_rows.specs.Placed.{Books, put_all, with_rule}
use Rattle.ebs_restored_rows.specs.Shelves.{AreListed, books_in}
use Rattle.ebs_restored_rows.proofs.Allowed.{rules-may}
use Rattle.ebs_restored_rows.proofs.Ruled.{all-ruled, books-begun, books-listed}
use Rattle.ebs_restored_rows.proofs.books.restore_books.Goals as goal

pub fill_shelves-requires-clause-there : goal.fill_shelves-requires-clause-there
fill_shelves-requires-clause-there c =
    rules-may c.args.accounts.now (books_in (seen nat_cmp c.in_ok-shelves.shelves)) c.args.rules (c.in_ok-shelves.ensures.books ∙ books-begun c.args.accounts.now) c.requires.days c.requires.owned

pub restore_shelves-requires-clause-listed : goal.restore_shelves-requires-clause-listed
restore_shelves-requires-clause-listed c =
    let accounts = c.args.accounts.now in
    let rules = c.args.rules in
    let total = c.in_ok-fill_shelves.ensures.books ∙ ap (λ (b : Books). put_all with_rule b rules) (c.in_ok-shelves.ensures.books ∙ books-begun accounts) ∙ all-ruled accounts rules c.requires.owned in
    subst (AreListed accounts) (sym total) (books-listed accounts rules)

pub returns-clause-rows : goal.returns-clause-rows
returns-clause-rows c =
    let accounts = c.args.accounts.now in
    let rules = c.args.rules in
    let rows : Rows = rows_in c.args.catalog.now in
    let total = c.in_ok-fill_shelves.ensures.books ∙ ap (λ (b : Books). put_all with_rule b rules) (c.in_ok-shelves.ensures.books ∙ books-begun accounts) ∙ all-ruled accounts rules c.requires.owned in
    c.in_ok-restore_shelves.ensures.rows ∙ ap (λ (b : Books). record rows { books = b }) total
