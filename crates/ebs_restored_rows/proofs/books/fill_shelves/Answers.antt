use Rattle.std.proofs.Common.{Some, All, sym, subst}
use Rattle.std.proofs.lemmas.List.Elements.{All-pop}
use Rattle.std.specs.Ordering.{nat_cmp}
use Rattle.ebs_tables.specs.Seen.{seen}
use Rattle.ebs_restored_rows.specs.Placed.{Books, with_rule}
use Rattle.ebs_restored_rows.specs.Shelves.{MayShelve, books_in}
use Rattle.ebs_restored_rows.proofs.Putting.{put-next}
use Rattle.ebs_restored_rows.proofs.ShelfEdits.{still-may}
use Rattle.ebs_restored_rows.proofs.books.fill_shelves.Goals as goal

pub rule-preserved : goal.rule-preserved
rule-preserved c =
    let before = books_in (seen nat_cmp c.rule.shelves) in
    let rest = c.pop.new.self.items in
    let popped = All-pop (MayShelve before) c.rule.rest.items rest (Some c.in-Some.rule) c.in-Some.ensures.items c.rule.invariant.may in
    record {
      may = subst (λ (b : Books). All (MayShelve b) rest) (sym c.in_ok-shelve.ensures.books) (still-may before c.in-Some.rule rest popped.0);
      books = put-next with_rule before (books_in (seen nat_cmp c.shelve.new.shelves)) c.rule.rest.items rest c.in-Some.rule _ c.in-Some.ensures.items c.in_ok-shelve.ensures.books c.rule.invariant.books;
      sound = c.in_ok-shelve.ensures.sound;
    }
