use Rattle.std.proofs.Common.{◌≡◌, ℕ, ◌-◌, List, length, take, get_or, refl, sym, ap, subst, ◌∙◌, arith}
use Rattle.std.proofs.lemmas.List.{take_all}
use Rattle.std.specs.Ordering.{nat_cmp}
use Rattle.std.specs.FinMap.{get}
use Rattle.ebs_tables.specs.Seen.{seen}
use Rattle.ebs_model.specs.Rows.{Rows}
use Rattle.ebs_checkpoints.specs.declared.owned.AccountRow.{AccountRow}
use Rattle.ebs_catalog.specs.Held.{rows_in}
use Rattle.ebs_restored_rows.specs.Placed.{Books}
use Rattle.ebs_restored_rows.specs.Shelves.{books_in, with_found}
use Rattle.ebs_restored_rows.proofs.MovedShelves.{IsMoving, all-moved, begun, one-less, rest-stays}
use Rattle.ebs_restored_rows.proofs.books.restore_shelves.Goals as goal

pub loop-at-init : goal.loop-at-init
loop-at-init c =
    let accounts = c.args.accounts.now in
    let given = books_in (seen nat_cmp c.args.shelves) in
    record {
      few = omega arith;
      sound = c.requires.sound;
      moving = subst (λ (xs : List AccountRow). IsMoving xs given given (rows_in c.args.catalog.now).books) (sym (take_all (length accounts) accounts (omega arith))) (begun accounts given (rows_in c.args.catalog.now).books c.requires.listed c.requires.none);
      rows = refl;
      latest = refl;
    }

pub loop-at-preserved : goal.loop-at-preserved
loop-at-preserved c =
    let given = books_in (seen nat_cmp c.args.shelves) in
    let old : Rows = rows_in c.loop-at.catalog in
    let new : Rows = rows_in c.restore_shelf.new.catalog in
    let d : AccountRow = c.index-accounts-at.result in
    let x : AccountRow = get_or c.args.accounts.now (c.loop-at.at - 1) d in
    let left = books_in (seen nat_cmp c.loop-at.left) in
    record {
      few = omega (arith, c.loop-at.invariant.few);
      sound = c.in_ok-restore_shelf.ensures.sound;
      moving = one-less c.args.accounts.now c.loop-at.at d x given left old.books (books_in (seen nat_cmp c.restore_shelf.new.shelves)) new.books (omega (arith, c.loop-at-test.true, c.loop-at.invariant.few)) (omega (arith, c.loop-at-test.true))
          refl c.loop-at.invariant.moving c.in_ok-restore_shelf.ensures.left (ap (λ (r : Rows). r.books) c.in_ok-restore_shelf.ensures.rows);
      rows = rest-stays (rows_in c.args.catalog.now) old new (with_found old.books x.account (get left x.account)) c.loop-at.invariant.rows c.in_ok-restore_shelf.ensures.rows;
      latest = c.restore_shelf.ensures.latest ∙ c.loop-at.invariant.latest;
    }

pub returns-clause-rows : goal.returns-clause-rows
returns-clause-rows c =
    let given = books_in (seen nat_cmp c.args.shelves) in
    let left = books_in (seen nat_cmp c.loop-at.left) in
    let rows : Rows = rows_in c.args.catalog.now in
    let there = (rows_in c.loop-at.catalog).books in
    let none : c.loop-at.at ≡ 0 = omega (arith, c.loop-at-test.false) in
    let moving = subst (λ (n : ℕ). IsMoving (take n c.args.accounts.now) given left there) none c.loop-at.invariant.moving in
    c.loop-at.invariant.rows ∙ ap (λ (b : Books). record rows { books = b }) (all-moved given left there moving)
