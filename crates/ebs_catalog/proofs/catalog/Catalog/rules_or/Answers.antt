use Rattle.std.proofs.Common.{Some, None, sym, ap, ◌∙◌}
use Rattle.std.specs.Ordering.{nat_cmp}
use Rattle.ebs_tables.specs.Full.{held}
use Rattle.ebs_model.specs.Rows.{book_of}
use Rattle.ebs_catalog.specs.Held.{Held, rows_in}
use Rattle.ebs_catalog.proofs.Shelves.{book-at}
use Rattle.ebs_catalog.proofs.catalog.Catalog.rules_or.Goals as goal

pub returns-in-Some-clause-owner : goal.returns-in-Some-clause-owner
returns-in-Some-clause-owner c = c.self.invariant.1.1.1.1.owner c.args.account c.in-Some.rules.now (sym c.in-Some.ensures)

pub returns-in-Some-clause-rules : goal.returns-in-Some-clause-rules
returns-in-Some-clause-rules c =
    let m = held nat_cmp c.self.inside.books in
    sym (book-at m c.args.account (Some c.in-Some.rules.now) (sym c.in-Some.ensures)) ∙ ap (λ (h : Held). book_of (rows_in h) c.args.account) c.self.view_is

pub returns-in-None-clause-rules : goal.returns-in-None-clause-rules
returns-in-None-clause-rules c =
    let m = held nat_cmp c.self.inside.books in
    c.requires.none ∙ sym (book-at m c.args.account None (sym c.in-None.ensures)) ∙ ap (λ (h : Held). book_of (rows_in h) c.args.account) c.self.view_is
