use Rattle.std.proofs.Common.{◌≡◌, ◌≤◌, length, drop}
use Rattle.std.specs.Ordering.{nat_cmp}
use Rattle.std.specs.FinMap.{empty}
use Rattle.ebs_tables.specs.Seen.{seen}
use Rattle.ebs_catalog.specs.Sound.{AreBooks}
use Rattle.ebs_restored_rows.specs.Placed.{put_all, with_book}
use Rattle.ebs_restored_rows.specs.Shelves.{books_in}
use Rattle.ebs_restored_rows.proofs.books.empty_shelves.Given as goal

abbrev pub invariant-loop-at : goal.invariant-loop-at
invariant-loop-at l = (l.at ≤ length l.accounts) × (books_in (seen nat_cmp l.shelves) ≡ put_all with_book empty (drop l.at l.accounts)) × AreBooks (seen nat_cmp l.shelves)

abbrev pub decreases-loop-at : goal.decreases-loop-at
decreases-loop-at l = l.at
