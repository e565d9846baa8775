use Rattle.std.proofs.Common.{sym, ap, subst, ◌∙◌}
use Rattle.std.specs.Ordering.{nat_cmp}
use Rattle.std.specs.Cmp.{nat_cmp_total}
use Rattle.std.specs.FinMap.{nat_cmp-IsAntisymmetric, get, insert}
use Rattle.ebs_tables.specs.Full.{full, held}
use Rattle.ebs_model.specs.Rules.{Book}
use Rattle.ebs_model.specs.inner.Rules.{HasDays}
use Rattle.ebs_model.specs.RuleCommands.{committed}
use Rattle.ebs_bin.specs.Books.{Shelf, book, HasRoom}
use Rattle.ebs_catalog.specs.Held.{Held, rows_in}
use Rattle.ebs_catalog.specs.Rooms.{kept_or}
use Rattle.ebs_catalog.specs.Sound.{AreBooks}
use Rattle.ebs_catalog.proofs.RowsKept.{again}
use Rattle.ebs_catalog.proofs.Shelves.{some_same, books_of, books-written, books-again}
use Rattle.ebs_catalog.proofs.catalog.Catalog.commit_shelf.Goals as goal

pub commit-requires : goal.commit-requires
commit-requires c =
    let r = c.requires.room in
    let same = some_same _ _ (c.in-Some.ensures ∙ ap (λ o. kept_or o c.args.room.fresh) (c.take-taken.ensures.value ∙ ap (λ (h : Held). get (full h.books) c.args.account) c.self.view_is) ∙ r.is) in
    subst (λ (s : Shelf). HasRoom s c.args.room.change) (sym same) r.room

pub invariant_of-self-2 : goal.invariant_of-self-2
invariant_of-self-2 c =
    let m = held nat_cmp c.self.inside.books in
    let account = c.args.account in
    let r = c.requires.room in
    let same = some_same _ _ (c.in-Some.ensures ∙ ap (λ o. kept_or o c.args.room.fresh) (c.take-taken.ensures.value ∙ ap (λ (h : Held). get (full h.books) account) c.self.view_is) ∙ r.is) in
    let new = c.commit.new.self in
    let is = c.fill.ensures.held ∙ ap (λ x. insert x account new) c.take-taken.ensures.held ∙ again nat_cmp_total nat_cmp-IsAntisymmetric m account new in
    let own = c.commit.ensures.account ∙ ap (λ (s : Shelf). s.account) same ∙ r.owner in
    let rules = c.commit.ensures.rules ∙ ap (λ (b : Book). committed b c.args.room.change) (ap book same ∙ r.rules) in
    let days = subst HasDays (sym rules) c.requires.days in
    let books = subst AreBooks (sym is) (books-written m account new own days c.self.invariant.1.1.1.1) in
    (c.self.invariant.0, (c.self.invariant.1.0, (c.self.invariant.1.1.0, (c.self.invariant.1.1.1.0, books))))

pub returns-clause-rows : goal.returns-clause-rows
returns-clause-rows c =
    let m = held nat_cmp c.self.inside.books in
    let account = c.args.account in
    let r = c.requires.room in
    let same = some_same _ _ (c.in-Some.ensures ∙ ap (λ o. kept_or o c.args.room.fresh) (c.take-taken.ensures.value ∙ ap (λ (h : Held). get (full h.books) account) c.self.view_is) ∙ r.is) in
    let new = c.commit.new.self in
    let old = ap rows_in c.self.view_is in
    let rules = c.commit.ensures.rules ∙ ap (λ (b : Book). committed b c.args.room.change) (ap book same ∙ r.rules) in
    let books = ap books_of (c.fill.ensures.held ∙ ap (λ x. insert x account new) c.take-taken.ensures.held) ∙ books-again m account new ∙ (λ i. insert (old i).books account (rules i)) in
    λ i. record { snaps = (old i).snaps; own = (old i).own; tokens = (old i).tokens; vols = (old i).vols; books = books i; policies = (old i).policies }
