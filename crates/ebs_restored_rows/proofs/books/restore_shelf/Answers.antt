use Rattle.std.proofs.Common.{Option, None, Some, ap, subst, sym, ◌∙◌}
use Rattle.std.specs.Ordering.{nat_cmp}
use Rattle.std.specs.FinMap.{insert}
use Rattle.ebs_tables.specs.Seen.{seen}
use Rattle.ebs_model.specs.Rules.{Book}
use Rattle.ebs_model.specs.Rows.{Rows}
use Rattle.ebs_bin.specs.Books.{book}
use Rattle.ebs_catalog.specs.Held.{rows_in}
use Rattle.ebs_catalog.specs.Sound.{AreBooks}
use Rattle.ebs_catalog.proofs.Shelves.{days-at}
use Rattle.ebs_restored_rows.specs.Placed.{Books}
use Rattle.ebs_restored_rows.specs.Shelves.{books_in, with_found}
use Rattle.ebs_restored_rows.proofs.ShelfEdits.{found-book, taken-books, taken-sound}
use Rattle.ebs_restored_rows.proofs.books.restore_shelf.Goals as goal

pub returns-in_default-clause-rows : goal.returns-in_default-clause-rows
returns-in_default-clause-rows c =
    let rows : Rows = rows_in c.args.catalog.now in
    ap (λ (o : Option Book). record rows { books = with_found rows.books c.args.account o }) (sym (found-book (seen nat_cmp c.args.shelves.now) c.args.account None (sym c.in_default.is ∙ c.remove.ensures.value)))

pub returns-in_default-clause-left : goal.returns-in_default-clause-left
returns-in_default-clause-left c = ap books_in c.remove.ensures.rest ∙ taken-books (seen nat_cmp c.args.shelves.now) c.args.account

pub returns-in_default-clause-sound : goal.returns-in_default-clause-sound
returns-in_default-clause-sound c = subst AreBooks (sym c.remove.ensures.rest) (taken-sound (seen nat_cmp c.args.shelves.now) c.args.account c.requires.sound)

pub restore_rules-requires : goal.restore_rules-requires
restore_rules-requires c = record { days = days-at (seen nat_cmp c.args.shelves.now) c.args.account c.in-Some.shelf (sym c.remove.ensures.value ∙ c.in-Some.is) c.requires.sound }

pub returns-clause-rows : goal.returns-clause-rows
returns-clause-rows c =
    let m = seen nat_cmp c.args.shelves.now in
    let rows : Rows = rows_in c.args.catalog.now in
    let shelf = c.in-Some.shelf in
    let owner = c.requires.sound.owner c.args.account shelf (sym c.remove.ensures.value ∙ c.in-Some.is) in
    let books = ap (λ k. insert rows.books k (book shelf)) owner ∙ ap (with_found rows.books c.args.account) (sym (found-book m c.args.account (Some shelf) (sym c.in-Some.is ∙ c.remove.ensures.value))) in
    c.in_ok-restore_rules.ensures.rows ∙ ap (λ (b : Books). record rows { books = b }) books

pub returns-clause-left : goal.returns-clause-left
returns-clause-left c = ap books_in c.remove.ensures.rest ∙ taken-books (seen nat_cmp c.args.shelves.now) c.args.account

pub returns-clause-sound : goal.returns-clause-sound
returns-clause-sound c = subst AreBooks (sym c.remove.ensures.rest) (taken-sound (seen nat_cmp c.args.shelves.now) c.args.account c.requires.sound)
