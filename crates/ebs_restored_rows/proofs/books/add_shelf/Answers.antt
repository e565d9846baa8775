use Rattle.std.proofs.Common.{cond, sym, ap, subst, ◌∙◌, arith}
use Rattle.std.specs.Ordering.{nat_cmp}
use Rattle.std.specs.FinMap.{insert}
use Rattle.ebs_tables.specs.Seen.{seen}
use Rattle.ebs_model.specs.Rules.{no_rules}
use Rattle.ebs_catalog.specs.Sound.{AreBooks}
use Rattle.ebs_restored_rows.specs.Shelves.{books_in}
use Rattle.ebs_restored_rows.proofs.ShelfEdits.{has-rules, new-books, new-sound}
use Rattle.ebs_restored_rows.proofs.books.add_shelf.Goals as goal

pub returns-in_ok-insert-clause-books : goal.returns-in_ok-insert-clause-books
returns-in_ok-insert-clause-books c =
    let m = seen nat_cmp c.args.shelves.now in
    let row = c.args.row.now in
    let after = insert (books_in m) row.account (no_rules row.next_rule) in
    ap books_in c.in_ok-insert.ensures.ok ∙ new-books m row.account row.next_rule c.new-shelf.result c.new-shelf.ensures.rules ∙ ap (λ b. cond b after (books_in m)) (has-rules row.next_rule (omega (arith, c.if-row-gt0.true)))

pub returns-in_ok-insert-clause-sound : goal.returns-in_ok-insert-clause-sound
returns-in_ok-insert-clause-sound c =
    let m = seen nat_cmp c.args.shelves.now in
    let row = c.args.row.now in
    subst AreBooks (sym c.in_ok-insert.ensures.ok) (new-sound m row.account row.next_rule c.new-shelf.result c.new-shelf.ensures.account c.new-shelf.ensures.rules c.requires.sound)
