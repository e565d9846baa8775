use Rattle.std.proofs.Common.{◌≡◌, ℕ, ◌≤◌, ◌<◌, false, arith, sym, ap, subst, ◌∙◌}
use Rattle.std.proofs.lemmas.Bool.Decides.{nat_tests}
use Rattle.std.specs.Prelude.{nat_le}
use Rattle.std.specs.List.{count_by}
use Rattle.std.specs.FinMap.{get, entries}
use Rattle.ebs_tables.specs.Full.{full}
use Rattle.ebs_model.specs.Access.{owns}
use Rattle.ebs_model.specs.Quotas.{most_kept}
use Rattle.ebs_model.specs.inner.Rows.{aged}
use Rattle.ebs_model.specs.Rows.{kept_count}
use Rattle.ebs_model.specs.declared.keys.SnapKey.{SnapKey}
use Rattle.ebs_catalog.specs.declared.rows.KeptRow.{KeptRow}
use Rattle.ebs_catalog.specs.Held.{Held, rows_in}
use Rattle.ebs_catalog.specs.Counts.{is_kept}
use Rattle.ebs_catalog.specs.Sound.{rows_at}
use Rattle.ebs_catalog.proofs.CountLaws.{fewer, kept-count, kept-own}
use Rattle.ebs_catalog.proofs.CountedRows.{count_of}
use Rattle.ebs_catalog.proofs.catalog.Catalog.is_full.Goals as goal

below : (most rows kept : ℕ) → kept ≤ rows → rows < most → nat_le most kept ≡ false
below most rows kept h k = grind (arith, nat_tests)

pub returns-then-rows_of-lt-MOST_KEPT : goal.returns-then-rows_of-lt-MOST_KEPT
returns-then-rows_of-lt-MOST_KEPT c =
    let a = c.args.account in
    let now = c.args.at.second in
    let h = c.args.self.now in
    let m = full h.snaps in
    let counted = ap (λ (h : Held). rows_at (get (full h.owns) a)) (sym c.self.view_is) ∙ c.self.invariant.0.1.0.each a ∙ ap (λ (h : Held). count_of a (full h.snaps)) c.self.view_is in
    let kept = kept-count now a m (rows_in h) in
    let less = fewer (is_kept a now) (λ (e : SnapKey × KeptRow). owns a e.0) (kept-own a now) (entries m) in
    sym (below most_kept c.rows_of.result (kept_count (aged now (rows_in h)) a) (subst (λ n. n ≤ c.rows_of.result) (sym kept) (subst (λ n. count_by (is_kept a now) (entries m) ≤ n) (sym (c.rows_of.ensures ∙ counted)) less)) c.if-rows_of-lt-MOST_KEPT.true)
