use Rattle.std.proofs.Common.{sym, ap, subst, ◌∙◌}
use Rattle.std.specs.Ordering.{nat_cmp}
use Rattle.std.specs.FinMap.{insert}
use Rattle.ebs_tables.specs.Full.{held}
use Rattle.ebs_bin.specs.Books.{book}
use Rattle.ebs_catalog.specs.Held.{rows_in}
use Rattle.ebs_catalog.specs.Sound.{AreBooks}
use Rattle.ebs_catalog.proofs.Shelves.{Shelves, books_of, books-insert, books-written}
use Rattle.ebs_catalog.proofs.catalog.Catalog.restore_rules.Goals as goal

pub invariant_of-self-2 : goal.invariant_of-self-2
invariant_of-self-2 c =
    let m = held nat_cmp c.self.inside.books in
    let account = c.account-account.result in
    let rules = c.args.rules in
    let is = c.fill.ensures.held ∙ ap (λ (x : Shelves). insert x account rules) c.prepare.ensures.held in
    let books = subst AreBooks (sym is) (books-written m account rules (sym c.account-account.ensures) c.requires.days c.self.invariant.1.1.1.1) in
    (c.self.invariant.0, (c.self.invariant.1.0, (c.self.invariant.1.1.0, (c.self.invariant.1.1.1.0, books))))

pub returns-clause-rows : goal.returns-clause-rows
returns-clause-rows c =
    let m = held nat_cmp c.self.inside.books in
    let account = c.account-account.result in
    let rules = c.args.rules in
    let old = ap rows_in c.self.view_is in
    let is = c.fill.ensures.held ∙ ap (λ (x : Shelves). insert x account rules) c.prepare.ensures.held in
    let books = ap books_of is ∙ books-insert m account rules ∙ (λ i. insert (old i).books (c.account-account.ensures i) (book rules)) in
    λ i. record { snaps = (old i).snaps; own = (old i).own; tokens = (old i).tokens; vols = (old i).vols; books = books i; policies = (old i).policies }
