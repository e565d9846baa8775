use Rattle.std.proofs.Common.{length, sym, ap, subst, ◌∙◌, arith}
use Rattle.std.proofs.lemmas.List.{drop_all}
use Rattle.std.specs.FinMap.{empty}
use Rattle.ebs_catalog.specs.Sound.{AreBooks}
use Rattle.ebs_catalog.proofs.Shelves.{no-books}
use Rattle.ebs_restored_rows.specs.Placed.{put_all, with_book}
use Rattle.ebs_restored_rows.specs.Shelves.{books_in}
use Rattle.ebs_restored_rows.proofs.ShelfEdits.{no-shelves}
use Rattle.ebs_restored_rows.proofs.books.empty_shelves.Goals as goal

pub loop-at-init : goal.loop-at-init
loop-at-init c = (
  omega arith,
  ap books_in c.new-shelves.ensures ∙ no-shelves ∙ ap (put_all with_book empty) (sym (drop_all (length c.args.accounts.now) c.args.accounts.now (omega arith))),
  subst AreBooks (sym c.new-shelves.ensures) no-books,
)
