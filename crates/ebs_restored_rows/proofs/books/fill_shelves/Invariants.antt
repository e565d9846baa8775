use Rattle.std.proofs.Common.{◌≡◌, vec_len, All}
use Rattle.std.specs.Ordering.{nat_cmp}
use Rattle.ebs_tables.specs.Seen.{seen}
use Rattle.ebs_catalog.specs.Sound.{AreBooks}
use Rattle.ebs_restored_rows.specs.Placed.{put_all, with_rule}
use Rattle.ebs_restored_rows.specs.Shelves.{MayShelve, books_in}
use Rattle.ebs_restored_rows.proofs.books.fill_shelves.Given as goal

abbrev pub invariant-rule : goal.invariant-rule
invariant-rule l = record {
  may : All (MayShelve (books_in (seen nat_cmp l.shelves))) l.rest.items;
  books : put_all with_rule (books_in (seen nat_cmp l.shelves)) l.rest.items ≡ put_all with_rule (books_in (seen nat_cmp l.initial.shelves)) l.fn.rules;
  sound : AreBooks (seen nat_cmp l.shelves);
}

abbrev pub decreases-rule : goal.decreases-rule
decreases-rule l = vec_len l.rest
