use Rattle.std.proofs.Common.{List, map, flat_map, sym, ap, subst, ◌∙◌}
use Rattle.std.specs.List.{AllByRecursion, list_all}
use Rattle.std.specs.FinMap as fin
use Rattle.ebs_checkpoints.specs.declared.owned.AccountRow.{AccountRow}
use Rattle.ebs_row_rules.specs.Order.{has_ordered_accounts}
use Rattle.ebs_row_rules.specs.Owners.{listed}
use Rattle.ebs_catalog.specs.Held.{rows_in}
use Rattle.ebs_recovery.specs.Bases.{token_entry}
use Rattle.ebs_lawful_points.specs.PointLaws.{has_own_calls}
use Rattle.ebs_point_rules.specs.Listed.{book_in, own_in}
use Rattle.ebs_point_rules.specs.Values.{HasAccountValues}
use Rattle.ebs_pointed.proofs.Changing.{all_gathered}
use Rattle.ebs_pointed.proofs.Made.{book-is, own-is}
use Rattle.ebs_pointed.proofs.Told.{accounts-ascend, all_have, calls-told, listed-is, none_have, tokens-told}
use Rattle.ebs_pointed.proofs.accounts.accounts_of.Goals as goal

pub returns-clause-order : goal.returns-clause-order
returns-clause-order c =
    let rows = rows_in c.args.catalog.now in
    let is = c.in_ok-rows.ensures ∙ ap fin.values (all_gathered rows c.new-found.result c.add_owns.new.found c.add_books.new.found c.add_tokens.new.found c.new-found.ensures c.in_ok-add_owns.ensures.rows c.in_ok-add_books.ensures.rows c.in_ok-add_tokens.ensures.rows) in
    ap has_ordered_accounts is ∙ accounts-ascend rows

pub returns-clause-own : goal.returns-clause-own
returns-clause-own c =
    let rows = rows_in c.args.catalog.now in
    let is = c.in_ok-rows.ensures ∙ ap fin.values (all_gathered rows c.new-found.result c.add_owns.new.found c.add_books.new.found c.add_tokens.new.found c.new-found.ensures c.in_ok-add_owns.ensures.rows c.in_ok-add_books.ensures.rows c.in_ok-add_tokens.ensures.rows) in
    λ q. ap (λ (l : List AccountRow). own_in (listed l q)) is ∙ ap own_in (listed-is rows q) ∙ own-is rows q c.requires

pub returns-clause-books : goal.returns-clause-books
returns-clause-books c =
    let rows = rows_in c.args.catalog.now in
    let is = c.in_ok-rows.ensures ∙ ap fin.values (all_gathered rows c.new-found.result c.add_owns.new.found c.add_books.new.found c.add_tokens.new.found c.new-found.ensures c.in_ok-add_owns.ensures.rows c.in_ok-add_books.ensures.rows c.in_ok-add_tokens.ensures.rows) in
    λ rules are q. ap (λ (l : List AccountRow). book_in rules (listed l q)) is ∙ ap (book_in rules) (listed-is rows q) ∙ book-is rows q c.requires rules are

pub returns-clause-tokens : goal.returns-clause-tokens
returns-clause-tokens c =
    let rows = rows_in c.args.catalog.now in
    let is = c.in_ok-rows.ensures ∙ ap fin.values (all_gathered rows c.new-found.result c.add_owns.new.found c.add_books.new.found c.add_tokens.new.found c.new-found.ensures c.in_ok-add_owns.ensures.rows c.in_ok-add_books.ensures.rows c.in_ok-add_tokens.ensures.rows) in
    tokens-told rows ∙ ap (flat_map (λ (a : AccountRow). map (token_entry a.account) a.tokens)) (sym is)

pub returns-clause-calls : goal.returns-clause-calls
returns-clause-calls c =
    let rows = rows_in c.args.catalog.now in
    let is = c.in_ok-rows.ensures ∙ ap fin.values (all_gathered rows c.new-found.result c.add_owns.new.found c.add_books.new.found c.add_tokens.new.found c.new-found.ensures c.in_ok-add_owns.ensures.rows c.in_ok-add_books.ensures.rows c.in_ok-add_tokens.ensures.rows) in
    ap (list_all has_own_calls) is ∙ calls-told rows

pub returns-clause-values : goal.returns-clause-values
returns-clause-values c =
    subst (AllByRecursion HasAccountValues) (sym c.in_ok-rows.ensures)
    (all_have c.add_tokens.new.found (c.in_ok-add_tokens.ensures.values (c.in_ok-add_books.ensures.values (c.in_ok-add_owns.ensures.values (none_have c.new-found.result c.new-found.ensures)))))
