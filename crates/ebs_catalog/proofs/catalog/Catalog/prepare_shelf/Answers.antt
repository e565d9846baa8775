use Rattle.std.proofs.Common.{Some, None, Option, Result, Ok, Err, OnErr, refl, sym, ap, subst, ◌∙◌}
use Rattle.std.specs.Ordering.{nat_cmp}
use Rattle.std.specs.Cmp.{nat_cmp_total}
use Rattle.std.specs.FinMap.{nat_cmp-IsAntisymmetric, get, insert}
use Rattle.ebs_tables.specs.Full.{slots_of, held}
use Rattle.ebs_tables.proofs.FullLaws.{ready-some, remove-none, on_err}
use Rattle.ebs_tables.proofs.MapEdits.{put_back}
use Rattle.ebs_bin.specs.Books.{Shelf}
use Rattle.ebs_catalog.specs.Held.{Held, rows_in}
use Rattle.ebs_catalog.specs.Rooms.{kept_or}
use Rattle.ebs_catalog.specs.Sound.{AreBooks}
use Rattle.ebs_catalog.proofs.RowsKept.{found, gone}
use Rattle.ebs_catalog.proofs.Shelves.{books_of, books-back, books-kept, book-at, same-slots}
use Rattle.ebs_catalog.proofs.catalog.Catalog.prepare_shelf.Goals as goal

after_err : {A F : Type 0} (r : Result A F) (P Q : Type 0) → (P → Q) → OnErr r P → OnErr r Q
after_err (Ok a) P Q f p = tt
after_err (Err e) P Q f p = f p

-- ---- an account without rules

pub invariant_of-self : goal.invariant_of-self
invariant_of-self c =
    let m = held nat_cmp c.self.inside.books in
    let same = c.take.ensures.held ∙ remove-none nat_cmp_total nat_cmp-IsAntisymmetric m c.args.account (sym c.take.ensures.value ∙ c.in_default.is) in
    (c.self.invariant.0, (c.self.invariant.1.0, (c.self.invariant.1.1.0, (c.self.invariant.1.1.1.0, subst AreBooks (sym same) c.self.invariant.1.1.1.1))))

pub prepare_fresh-requires : goal.prepare_fresh-requires
prepare_fresh-requires c = ap (λ m. get m c.args.account) c.take.ensures.held ∙ gone nat_cmp_total nat_cmp-IsAntisymmetric (held nat_cmp c.self.inside.books) c.args.account

pub returns-in_default-clause-rows : goal.returns-in_default-clause-rows
returns-in_default-clause-rows c =
    let m = held nat_cmp c.self.inside.books in
    let old = ap rows_in c.self.view_is in
    let books = ap books_of (c.take.ensures.held ∙ remove-none nat_cmp_total nat_cmp-IsAntisymmetric m c.args.account (sym c.take.ensures.value ∙ c.in_default.is)) ∙ (λ i. (old i).books) in
    c.prepare_fresh.ensures.rows ∙ (λ i. record { snaps = (old i).snaps; own = (old i).own; tokens = (old i).tokens; vols = (old i).vols; books = books i; policies = (old i).policies })

pub returns-in_default-clause-err : goal.returns-in_default-clause-err
returns-in_default-clause-err c =
    let m = held nat_cmp c.self.inside.books in
    let values = c.take.ensures.held ∙ remove-none nat_cmp_total nat_cmp-IsAntisymmetric m c.args.account (sym c.take.ensures.value ∙ c.in_default.is) in
    let same = same-slots nat_cmp_total nat_cmp-IsAntisymmetric (slots_of nat_cmp c.take.new.self) (slots_of nat_cmp c.self.inside.books) values c.take.ensures.ready in
    after_err c.prepare_fresh.result _ _ (λ e. e ∙ same ∙ ap (λ (h : Held). h.books) c.self.view_is) c.prepare_fresh.ensures.err

-- ---- one that has rules

pub fill-requires : goal.fill-requires
fill-requires c = c.take.ensures.ready c.args.account ∙ ready-some nat_cmp_total (slots_of nat_cmp c.self.inside.books) c.args.account c.in-Some.rules (sym c.in-Some.ensures.value)

pub invariant_of-self-in_err-done : goal.invariant_of-self-in_err-done
invariant_of-self-in_err-done c =
    let m = held nat_cmp c.self.inside.books in
    let new = c.prepare-done.new.self in
    let is = c.fill.ensures.held ∙ ap (λ x. insert x c.args.account new) c.take.ensures.held in
    let books = books-kept m c.args.account c.in-Some.rules new (sym c.in-Some.ensures.value) c.prepare-done.ensures.rules c.prepare-done.ensures.account c.self.invariant.1.1.1.1 in
    (c.self.invariant.0, (c.self.invariant.1.0, (c.self.invariant.1.1.0, (c.self.invariant.1.1.1.0, subst AreBooks (sym is) books))))

pub returns-in_err-done-clause-rows : goal.returns-in_err-done-clause-rows
returns-in_err-done-clause-rows c =
    let m = held nat_cmp c.self.inside.books in
    let new = c.prepare-done.new.self in
    let old = ap rows_in c.self.view_is in
    let books = ap books_of (c.fill.ensures.held ∙ ap (λ x. insert x c.args.account new) c.take.ensures.held)
    ∙ books-back m c.args.account c.in-Some.rules new (sym c.in-Some.ensures.value) c.prepare-done.ensures.rules ∙ (λ i. (old i).books) in
    λ i. record { snaps = (old i).snaps; own = (old i).own; tokens = (old i).tokens; vols = (old i).vols; books = books i; policies = (old i).policies }

pub returns-in_err-done-clause-err : goal.returns-in_err-done-clause-err
returns-in_err-done-clause-err c =
    let m = held nat_cmp c.self.inside.books in
    let new = c.prepare-done.new.self in
    let at = sym c.in-Some.ensures.value in
    let values = c.fill.ensures.held ∙ ap (λ x. insert x c.args.account new) c.take.ensures.held ∙ ap (insert _ c.args.account) c.in_err-done.ensures.err ∙ put_back nat_cmp_total nat_cmp-IsAntisymmetric m c.args.account c.in-Some.rules at in
    let same = same-slots nat_cmp_total nat_cmp-IsAntisymmetric (slots_of nat_cmp c.fill.new.self) (slots_of nat_cmp c.self.inside.books) values (λ q. c.fill.ensures.ready q ∙ c.take.ensures.ready q) in
    on_err c.from_residual.result _ (same ∙ ap (λ (h : Held). h.books) c.self.view_is)

pub invariant_of-self-2 : goal.invariant_of-self-2
invariant_of-self-2 c =
    let m = held nat_cmp c.self.inside.books in
    let new = c.prepare-done.new.self in
    let is = c.fill.ensures.held ∙ ap (λ x. insert x c.args.account new) c.take.ensures.held in
    let books = books-kept m c.args.account c.in-Some.rules new (sym c.in-Some.ensures.value) c.prepare-done.ensures.rules c.prepare-done.ensures.account c.self.invariant.1.1.1.1 in
    (c.self.invariant.0, (c.self.invariant.1.0, (c.self.invariant.1.1.0, (c.self.invariant.1.1.1.0, subst AreBooks (sym is) books))))

pub returns-clause-rows : goal.returns-clause-rows
returns-clause-rows c =
    let m = held nat_cmp c.self.inside.books in
    let new = c.prepare-done.new.self in
    let old = ap rows_in c.self.view_is in
    let books = ap books_of (c.fill.ensures.held ∙ ap (λ x. insert x c.args.account new) c.take.ensures.held)
    ∙ books-back m c.args.account c.in-Some.rules new (sym c.in-Some.ensures.value) c.prepare-done.ensures.rules ∙ (λ i. (old i).books) in
    λ i. record { snaps = (old i).snaps; own = (old i).own; tokens = (old i).tokens; vols = (old i).vols; books = books i; policies = (old i).policies }

pub returns-clause-room : goal.returns-clause-room
returns-clause-room c =
    let account = c.args.account in
    let new = c.prepare-done.new.self in
    let at = sym c.in-Some.ensures.value in
    let there = ap (λ m. get m account) c.fill.ensures.held ∙ found nat_cmp_total nat_cmp-IsAntisymmetric (held nat_cmp c.take.new.self) account new in
    let ready = c.fill.ensures.ready account ∙ c.take.ensures.ready account ∙ ready-some nat_cmp_total (slots_of nat_cmp c.self.inside.books) account c.in-Some.rules at in (
      refl,
      record {
        shelf = new;
        is = ap (λ (o : Option Shelf). kept_or o None) there;
        owner = c.in_ok-done.ensures.account ∙ c.self.invariant.1.1.1.1.owner account c.in-Some.rules at;
        rules = sym (book-at (held nat_cmp c.fill.new.self) account (Some new) there);
        room = c.in_ok-done.ensures.room;
        key = ready;
      },
    )
