use Rattle.std.proofs.Common.{◌≡◌, Option, is_some, sym, ap, subst, ◌∙◌}
use Rattle.std.specs.Ordering.{nat_cmp}
use Rattle.std.specs.Cmp.{nat_cmp_total}
use Rattle.std.specs.FinMap.{nat_cmp-IsAntisymmetric, FinMap, get, insert, contains_key}
use Rattle.ebs_tables.specs.Full.{full, slots_of, held}
use Rattle.ebs_tables.proofs.FullLaws.{ready-some, remove-none}
use Rattle.ebs_bin.specs.Books.{Shelf}
use Rattle.ebs_catalog.specs.Held.{rows_in}
use Rattle.ebs_catalog.specs.Rooms.{IsRuleFree, IsShelfFree}
use Rattle.ebs_catalog.specs.Sound.{AreBooks}
use Rattle.ebs_catalog.proofs.RowsKept.{found, gone, released-free}
use Rattle.ebs_catalog.proofs.Shelves.{books_of, books-back, books-kept}
use Rattle.ebs_catalog.proofs.catalog.Catalog.release_rules.Goals as goal

pub invariant_of-self : goal.invariant_of-self
invariant_of-self c =
    let m = held nat_cmp c.self.inside.books in
    let same = c.release.ensures.held ∙ c.take.ensures.held ∙ remove-none nat_cmp_total nat_cmp-IsAntisymmetric m c.args.account (sym c.take.ensures.value ∙ c.in_default-take.is) in
    (c.self.invariant.0, (c.self.invariant.1.0, (c.self.invariant.1.1.0, (c.self.invariant.1.1.1.0, subst AreBooks (sym same) c.self.invariant.1.1.1.1))))

pub returns-in_default-take-clause-rows : goal.returns-in_default-take-clause-rows
returns-in_default-take-clause-rows c =
    let m = held nat_cmp c.self.inside.books in
    let old = ap rows_in c.self.view_is in
    let books = ap books_of (c.release.ensures.held ∙ c.take.ensures.held ∙ remove-none nat_cmp_total nat_cmp-IsAntisymmetric m c.args.account (sym c.take.ensures.value ∙ c.in_default-take.is)) ∙ (λ i. (old i).books) in
    λ i. record { snaps = (old i).snaps; own = (old i).own; tokens = (old i).tokens; vols = (old i).vols; books = books i; policies = (old i).policies }

pub returns-in_default-take-clause-free : goal.returns-in_default-take-clause-free
returns-in_default-take-clause-free c =
    let account = c.args.account in
    let slots = slots_of nat_cmp c.release.new.self in
    let none = ap (λ m. get m account) (c.release.ensures.held ∙ c.take.ensures.held) ∙ gone nat_cmp_total nat_cmp-IsAntisymmetric (held nat_cmp c.self.inside.books) account in
    let key = subst (λ (m : FinMap nat_cmp (Option Shelf)). contains_key m account ≡ contains_key (full m) account) (sym c.release.ensures.slots) (released-free nat_cmp_total nat_cmp-IsAntisymmetric _ account) in
    subst (IsRuleFree slots account) (sym c.in-Some.is) (key, subst (λ o. IsShelfFree o c.in-Some.room.change) (sym none) tt)

pub fill-requires : goal.fill-requires
fill-requires c = c.take.ensures.ready c.args.account ∙ ready-some nat_cmp_total (slots_of nat_cmp c.self.inside.books) c.args.account c.in-Some-take.kept (sym c.in-Some-take.ensures.value)

pub invariant_of-self-2 : goal.invariant_of-self-2
invariant_of-self-2 c =
    let m = held nat_cmp c.self.inside.books in
    let new = c.release-2.new.self in
    let is = c.fill.ensures.held ∙ ap (λ x. insert x c.args.account new) c.take.ensures.held in
    let books = books-kept m c.args.account c.in-Some-take.kept new (sym c.in-Some-take.ensures.value) c.release-2.ensures.rules c.release-2.ensures.account c.self.invariant.1.1.1.1 in
    (c.self.invariant.0, (c.self.invariant.1.0, (c.self.invariant.1.1.0, (c.self.invariant.1.1.1.0, subst AreBooks (sym is) books))))

pub returns-clause-rows : goal.returns-clause-rows
returns-clause-rows c =
    let m = held nat_cmp c.self.inside.books in
    let new = c.release-2.new.self in
    let old = ap rows_in c.self.view_is in
    let books = ap books_of (c.fill.ensures.held ∙ ap (λ x. insert x c.args.account new) c.take.ensures.held)
    ∙ books-back m c.args.account c.in-Some-take.kept new (sym c.in-Some-take.ensures.value) c.release-2.ensures.rules ∙ (λ i. (old i).books) in
    λ i. record { snaps = (old i).snaps; own = (old i).own; tokens = (old i).tokens; vols = (old i).vols; books = books i; policies = (old i).policies }

pub returns-clause-free : goal.returns-clause-free
returns-clause-free c =
    let account = c.args.account in
    let new = c.release-2.new.self in
    let slots = slots_of nat_cmp c.fill.new.self in
    let there = ap (λ m. get m account) c.fill.ensures.held ∙ found nat_cmp_total nat_cmp-IsAntisymmetric (held nat_cmp c.take.new.self) account new in
    let ready = c.fill.ensures.ready account ∙ c.take.ensures.ready account ∙ ready-some nat_cmp_total (slots_of nat_cmp c.self.inside.books) account c.in-Some-take.kept (sym c.in-Some-take.ensures.value) in
    subst (IsRuleFree slots account) (sym c.in-Some.is) (ready ∙ sym (ap is_some there), subst (λ o. IsShelfFree o c.in-Some.room.change) (sym there) c.release-2.ensures.free)
