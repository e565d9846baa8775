use Rattle.std.proofs.Common.{◌≡◌, ℕ, ◌≤◌, cond, Some, None, Option, refl, sym, ap, subst, ◌∙◌}
use Rattle.std.specs.Option.{option_map, IfSome}
use Rattle.std.specs.FinMap.{get}
use Rattle.ebs_tables.specs.Full.{held}
use Rattle.ebs_model.specs.Keys.{snap_cmp}
use Rattle.ebs_model.specs.Rules.{Book, retention}
use Rattle.ebs_model.specs.inner.Rules.{KeepsDays}
use Rattle.ebs_model.specs.Rows.{book_of}
use Rattle.ebs_model.proofs.RuleLaws.{book-lasts, retention-lasts}
use Rattle.ebs_catalog.specs.Held.{Held, rows_in, whole}
use Rattle.ebs_catalog.specs.Bins.{days_at}
use Rattle.ebs_catalog.proofs.RowsKept.{get-rows}
use Rattle.ebs_catalog.proofs.catalog.Catalog.days_in_bin.Goals as goal

each_some : (P : ℕ → Type 0) (o : Option ℕ) → ((n : ℕ) → o ≡ Some n → P n) → IfSome o P
each_some P None h = tt
each_some P (Some n) h = h n refl

pub returns-in_default-clause-value : goal.returns-in_default-clause-value
returns-in_default-clause-value c =
    let m = held snap_cmp c.self.inside.snaps in
    let k = c.args.key.now in
    let rows = rows_in c.args.self.now in
    let at = ap (λ (h : Held). get (rows_in h).snaps k) (sym c.self.view_is) ∙ get-rows m k ∙ ap (option_map whole) (sym c.in_default.ensures) in
    sym (ap (days_at rows k) at)

pub returns-then-not-kept-clause-value : goal.returns-then-not-kept-clause-value
returns-then-not-kept-clause-value c =
    let m = held snap_cmp c.self.inside.snaps in
    let k = c.args.key.now in
    let rows = rows_in c.args.self.now in
    let row = c.in-Some.kept.now.row in
    let at = ap (λ (h : Held). get (rows_in h).snaps k) (sym c.self.view_is) ∙ get-rows m k ∙ ap (option_map whole) (sym c.in-Some.ensures) in
    sym (ap (days_at rows k) at ∙ ap (λ b. cond b (retention (book_of rows k.account) row.tags) None) c.if-not-kept.true)

pub returns-clause-value : goal.returns-clause-value
returns-clause-value c =
    let m = held snap_cmp c.self.inside.snaps in
    let k = c.args.key.now in
    let rows = rows_in c.args.self.now in
    let row = c.in-Some.kept.now.row in
    let at = ap (λ (h : Held). get (rows_in h).snaps k) (sym c.self.view_is) ∙ get-rows m k ∙ ap (option_map whole) (sym c.in-Some.ensures) in
    c.retention_for.ensures ∙ ap (λ (b : Book). retention b row.tags) c.rules_or.ensures.rules
    ∙ sym (ap (days_at rows k) at ∙ ap (λ b. cond b (retention (book_of rows k.account) row.tags) None) c.if-not-kept.false)

pub returns-clause-lasts : goal.returns-clause-lasts
returns-clause-lasts c =
    let k = c.args.key.now in
    let rows = rows_in c.args.self.now in
    let row = c.in-Some.kept.now.row in
    let is = c.retention_for.ensures ∙ ap (λ (b : Book). retention b row.tags) c.rules_or.ensures.rules in
    let keeps : KeepsDays rows.books = subst (λ (h : Held). KeepsDays (rows_in h).books) c.self.view_is c.self.invariant.1.1.1.1.days in
    each_some (λ n. 1 ≤ n) c.retention_for.result (λ n e. retention-lasts (book_of rows k.account) (book-lasts rows.books keeps k.account) row.tags n (sym is ∙ e))
