use Rattle.std.proofs.Common.{ℕ, ap}
use Rattle.ebs_model.specs.declared.rows.Own.{Own}
use Rattle.ebs_catalog.specs.Held.{own_in}
use Rattle.ebs_pointed.specs.Accounts.{of_number, with_own}
use Rattle.ebs_pointed.proofs.Changing.{left_owns, one_gathered, row_kept}
use Rattle.ebs_pointed.proofs.gathering.add_owns.Goals as goal

pub loop-account-preserved-in_ok-insert : goal.loop-account-preserved-in_ok-insert
loop-account-preserved-in_ok-insert c =
    let e : ℕ × Own = (c.in-Some.account.now, own_in c.in-Some.made.now) in
    record {
      rows = one_gathered of_number with_own c.args.found.now c.loop-account.found c.take-row.new.found c.insert.new.self c.number.result e (left_owns c.loop-account.account-iterator) (left_owns c.next.new.self) (left_owns c.into_iter-account-iterator.result)
          (ap left_owns c.in-Some.ensures.steps) c.number.ensures.value c.take-row.ensures.rest c.in_ok-insert.ensures.ok (ap (λ r. with_own r e) c.take-row.ensures.row) c.loop-account.invariant.rows;
      values = λ have.
          let kept = c.loop-account.invariant.values have in
          let row = c.take-row.ensures.values kept in
          row_kept c.loop-account.found c.take-row.new.found c.insert.new.self c.number.result c.in-Some.account.now c.number.ensures.value c.take-row.ensures.rest c.in_ok-insert.ensures.ok kept (record { account = row.account; tokens = row.tokens });
    }

pub loop-account-preserved : goal.loop-account-preserved
loop-account-preserved c =
    let e : ℕ × Own = (c.in-Some.account.now, own_in c.in-Some.made.now) in
    record {
      rows = one_gathered of_number with_own c.args.found.now c.loop-account.found c.take-row.new.found c.insert.new.self c.number.result e (left_owns c.loop-account.account-iterator) (left_owns c.next.new.self) (left_owns c.into_iter-account-iterator.result)
          (ap left_owns c.in-Some.ensures.steps) c.number.ensures.value c.take-row.ensures.rest c.in_ok-insert.ensures.ok (ap (λ r. with_own r e) c.take-row.ensures.row) c.loop-account.invariant.rows;
      values = λ have.
          let kept = c.loop-account.invariant.values have in
          let row = c.take-row.ensures.values kept in
          row_kept c.loop-account.found c.take-row.new.found c.insert.new.self c.number.result c.in-Some.account.now c.number.ensures.value c.take-row.ensures.rest c.in_ok-insert.ensures.ok kept (record { account = row.account; tokens = row.tokens });
    }
