use Rattle.std.proofs.Common.{◌≡◌, ◌≤◌, length, take}
use Rattle.std.specs.Ordering.{nat_cmp}
use Rattle.ebs_tables.specs.Seen.{seen}
use Rattle.ebs_catalog.specs.Held.{rows_in}
use Rattle.ebs_catalog.specs.Sound.{AreBooks}
use Rattle.ebs_restored_rows.specs.Shelves.{books_in}
use Rattle.ebs_restored_rows.proofs.MovedShelves.{IsMoving}
use Rattle.ebs_restored_rows.proofs.books.restore_shelves.Given as goal

abbrev pub invariant-loop-at : goal.invariant-loop-at
invariant-loop-at l = record {
  few : l.at ≤ length l.accounts;
  sound : AreBooks (seen nat_cmp l.left);
  moving : IsMoving (take l.at l.accounts) (books_in (seen nat_cmp l.fn.shelves)) (books_in (seen nat_cmp l.left)) (rows_in l.catalog).books;
  rows : rows_in l.catalog ≡ record (rows_in l.initial.catalog) { books = (rows_in l.catalog).books };
  latest : l.catalog.latest ≡ l.initial.catalog.latest;
}

abbrev pub decreases-loop-at : goal.decreases-loop-at
decreases-loop-at l = l.at
