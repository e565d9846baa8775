use Rattle.std.proofs.Common.{ℕ, ap}
use Rattle.ebs_model.specs.Rules.{Book}
use Rattle.ebs_bin.specs.Books.{book}
use Rattle.ebs_pointed.specs.Accounts.{of_number, with_next}
use Rattle.ebs_pointed.proofs.Changing.{left_books, one_gathered, row_kept}
use Rattle.ebs_pointed.proofs.gathering.add_books.Goals as goal

pub loop-account-preserved-in_ok-insert : goal.loop-account-preserved-in_ok-insert
loop-account-preserved-in_ok-insert c =
    let e : ℕ × Book = (c.in-Some.account.now, book c.in-Some.rules.now) in
    record {
      rows = one_gathered of_number with_next c.args.found.now c.loop-account.found c.take-row.new.found c.insert.new.self c.number.result e (left_books c.loop-account.account-iterator) (left_books c.next.new.self) (left_books c.into_iter-account-iterator.result)
          (ap left_books c.in-Some.ensures.steps) c.number.ensures.value c.take-row.ensures.rest c.in_ok-insert.ensures.ok ((λ i. record (c.take-row.ensures.row i) { next_rule = c.next_number.ensures i })) c.loop-account.invariant.rows;
      values = λ have.
          let kept = c.loop-account.invariant.values have in
          let row = c.take-row.ensures.values kept in
          row_kept c.loop-account.found c.take-row.new.found c.insert.new.self c.number.result c.in-Some.account.now c.number.ensures.value c.take-row.ensures.rest c.in_ok-insert.ensures.ok kept (record { account = row.account; tokens = row.tokens });
    }

pub loop-account-preserved : goal.loop-account-preserved
loop-account-preserved c =
    let e : ℕ × Book = (c.in-Some.account.now, book c.in-Some.rules.now) in
    record {
      rows = one_gathered of_number with_next c.args.found.now c.loop-account.found c.take-row.new.found c.insert.new.self c.number.result e (left_books c.loop-account.account-iterator) (left_books c.next.new.self) (left_books c.into_iter-account-iterator.result)
          (ap left_books c.in-Some.ensures.steps) c.number.ensures.value c.take-row.ensures.rest c.in_ok-insert.ensures.ok ((λ i. record (c.take-row.ensures.row i) { next_rule = c.next_number.ensures i })) c.loop-account.invariant.rows;
      values = λ have.
          let kept = c.loop-account.invariant.values have in
          let row = c.take-row.ensures.values kept in
          row_kept c.loop-account.found c.take-row.new.found c.insert.new.self c.number.result c.in-Some.account.now c.number.ensures.value c.take-row.ensures.rest c.in_ok-insert.ensures.ok kept (record { account = row.account; tokens = row.tokens });
    }
