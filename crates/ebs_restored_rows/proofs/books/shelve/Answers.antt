use Rattle.std.proofs.Common.{sym, ap, subst, ◌∙◌}
use Rattle.std.specs.Ordering.{nat_cmp}
use Rattle.std.specs.FinMap.{insert}
use Rattle.ebs_tables.specs.Seen.{seen}
use Rattle.ebs_catalog.specs.Sound.{AreBooks}
use Rattle.ebs_restored_rows.specs.Shelves.{Shelves, books_in}
use Rattle.ebs_restored_rows.proofs.ShelfEdits.{no-shelf, put-books, put-sound}
use Rattle.ebs_restored_rows.proofs.books.shelve.Goals as goal

pub unreachable-requires : goal.unreachable-requires
unreachable-requires c = no-shelf (seen nat_cmp c.args.shelves.now) c.args.rule.key.account (sym c.remove.ensures.value ∙ c.in_default.is) c.requires.there.shelf

pub returns-clause-books : goal.returns-clause-books
returns-clause-books c =
    let m = seen nat_cmp c.args.shelves.now in
    let r = c.args.rule in
    let new = c.put_rule.new.shelf in
    ap books_in (c.in_ok-insert.ensures.ok ∙ ap (λ (x : Shelves). insert x r.key.account new) c.remove.ensures.rest)
    ∙ put-books m r c.in-Some.shelf new (sym c.remove.ensures.value ∙ c.in-Some.is) c.in_ok-put_rule.ensures.rules

pub returns-clause-sound : goal.returns-clause-sound
returns-clause-sound c =
    let m = seen nat_cmp c.args.shelves.now in
    let r = c.args.rule in
    let new = c.put_rule.new.shelf in
    subst AreBooks (sym (c.in_ok-insert.ensures.ok ∙ ap (λ (x : Shelves). insert x r.key.account new) c.remove.ensures.rest))
    (put-sound m r c.in-Some.shelf new (sym c.remove.ensures.value ∙ c.in-Some.is) c.in_ok-put_rule.ensures.rules c.put_rule.ensures.account c.requires.there.days c.requires.sound)
