use Rattle.std.proofs.Common.{◌^◌, map, refl, sym, ap, ◌∙◌}
use Rattle.std.proofs.lemmas.Result.{IfOk-weaker}
use Rattle.ebs_lineage.specs.Lines.{array}
use Rattle.ebs_model.specs.Lists.{changed_from, page_of, next_of}
use Rattle.ebs_model.specs.Calls.List.{differences}
use Rattle.ebs_model.proofs.ListValues.{changed-values, page-mapped, next-mapped, same-maps, shown_pair}
use Rattle.ebs_kept.specs.inner.Changes.{change}
use Rattle.ebs_kept.specs.inner.Shown.{kept_block, kept_array}
use Rattle.ebs_kept.proofs.Arrays.{kept-small}
use Rattle.ebs_kept.proofs.Listed.{change-shown, page-changes}
use Rattle.ebs_kept.proofs.Beyond.{changed-beyond, at_least, page-nothing, next-nothing}
use Rattle.ebs_kept.proofs.lists.changes_of.Goals as goal

pub returns-in-Ok-clause-entries : goal.returns-in-Ok-clause-entries
returns-in-Ok-clause-entries c =
    let f = kept_block in
    let a = array c.args.lineage.now.table.nodes c.args.first.number in
    let b = array c.args.lineage.now.table.nodes c.args.second.number in
    let list = changed_from (λ b. b.stamp) a b c.in-Ok.index in
    IfOk-weaker c.list_changed.result _ _ (λ page e.
    page-changes page.entries (page_of c.args.max list) e
    ∙ sym (same-maps (λ p. change (shown_pair f f p)) change (change-shown f f) (page_of c.args.max list))
    ∙ sym (page-mapped (shown_pair f f) change c.args.max list)
    ∙ ap (λ l. map change (page_of c.args.max l)) (sym (changed-values f f (λ b. b.stamp) (λ b. b.stamp) (λ x. refl) (λ x. refl) a b c.in-Ok.index))
    ∙ ap (λ i. map change (page_of c.args.max (differences (kept_array a) (kept_array b) i))) (c.in-Ok.ensures).1) c.list_changed.ensures.entries

pub returns-in-Ok-clause-next : goal.returns-in-Ok-clause-next
returns-in-Ok-clause-next c =
    let f = kept_block in
    let a = array c.args.lineage.now.table.nodes c.args.first.number in
    let b = array c.args.lineage.now.table.nodes c.args.second.number in
    let list = changed_from (λ b. b.stamp) a b c.in-Ok.index in
    IfOk-weaker c.list_changed.result _ _ (λ page e.
    e
    ∙ sym (next-mapped (shown_pair f f) (λ p. p.index) (λ p. p.index) c.args.max list)
    ∙ ap (next_of (λ p. p.index) c.args.max) (sym (changed-values f f (λ b. b.stamp) (λ b. b.stamp) (λ x. refl) (λ x. refl) a b c.in-Ok.index))
    ∙ ap (λ i. next_of (λ p. p.index) c.args.max (differences (kept_array a) (kept_array b) i)) (c.in-Ok.ensures).1) c.list_changed.ensures.next

pub returns-in-Err-clause-entries : goal.returns-in-Err-clause-entries
returns-in-Err-clause-entries c =
    let beyond = at_least (2 ^ 32) c.args.index c.in-Err.ensures in
    ap (map _) c.new.ensures ∙ page-nothing change c.args.max _ (changed-beyond (2 ^ 32) c.args.index beyond (kept_array (array c.args.lineage.now.table.nodes c.args.first.number)) (kept_array (array c.args.lineage.now.table.nodes c.args.second.number)) (kept-small _ (c.keeps_small.ensures c.args.first.number)) (kept-small _ (c.keeps_small.ensures c.args.second.number)) (λ b. b.stamp))

pub returns-in-Err-clause-next : goal.returns-in-Err-clause-next
returns-in-Err-clause-next c =
    let beyond = at_least (2 ^ 32) c.args.index c.in-Err.ensures in
    next-nothing (λ p. p.index) c.args.max _ (changed-beyond (2 ^ 32) c.args.index beyond (kept_array (array c.args.lineage.now.table.nodes c.args.first.number)) (kept_array (array c.args.lineage.now.table.nodes c.args.second.number)) (kept-small _ (c.keeps_small.ensures c.args.first.number)) (kept-small _ (c.keeps_small.ensures c.args.second.number)) (λ b. b.stamp))
