use Rattle.std.proofs.Common.{◌^◌, map, sym, ap, ◌∙◌}
use Rattle.std.proofs.lemmas.Result.{IfOk-weaker}
use Rattle.ebs_lineage.specs.Lines.{array}
use Rattle.ebs_model.specs.Lists.{from_index, page_of, next_of}
use Rattle.ebs_model.proofs.ListValues.{from-values, page-mapped, next-mapped}
use Rattle.ebs_kept.specs.inner.Shown.{kept_block, kept_array}
use Rattle.ebs_kept.proofs.Arrays.{kept-small}
use Rattle.ebs_kept.proofs.Listed.{page-indexes}
use Rattle.ebs_kept.proofs.Beyond.{from-beyond, at_least, page-nothing, next-nothing}
use Rattle.ebs_kept.proofs.lists.page_of.Goals as goal

pub returns-in-Ok-clause-entries : goal.returns-in-Ok-clause-entries
returns-in-Ok-clause-entries c =
    let blocks = array c.args.lineage.now.table.nodes c.args.node.number in
    let index = c.in-Ok.index in
    let list = from_index blocks index in
    IfOk-weaker c.list_blocks.result _ _ (λ page e.
    page-indexes page.entries (page_of c.args.max list) e
    ∙ sym (page-mapped (λ e. (e.0, kept_block e.1)) (λ e. e.0) c.args.max list)
    ∙ ap (λ l. map (λ e. e.0) (page_of c.args.max l)) (sym (from-values kept_block blocks index))
    ∙ ap (λ i. map (λ e. e.0) (page_of c.args.max (from_index (kept_array (array c.args.lineage.now.table.nodes c.args.node.number)) i))) (c.in-Ok.ensures).1) c.list_blocks.ensures.entries

pub returns-in-Ok-clause-next : goal.returns-in-Ok-clause-next
returns-in-Ok-clause-next c =
    let blocks = array c.args.lineage.now.table.nodes c.args.node.number in
    let index = c.in-Ok.index in
    let list = from_index blocks index in
    IfOk-weaker c.list_blocks.result _ _ (λ page e.
    e
    ∙ sym (next-mapped (λ e. (e.0, kept_block e.1)) (λ e. e.0) (λ e. e.0) c.args.max list)
    ∙ ap (next_of (λ e. e.0) c.args.max) (sym (from-values kept_block blocks index))
    ∙ ap (λ i. next_of (λ e. e.0) c.args.max (from_index (kept_array (array c.args.lineage.now.table.nodes c.args.node.number)) i)) (c.in-Ok.ensures).1) c.list_blocks.ensures.next

pub returns-in-Err-clause-entries : goal.returns-in-Err-clause-entries
returns-in-Err-clause-entries c =
    let beyond = at_least (2 ^ 32) c.args.index c.in-Err.ensures in
    ap (map (λ e. e.index)) c.new.ensures ∙ page-nothing (λ e. e.0) c.args.max _ (from-beyond (2 ^ 32) c.args.index beyond (kept_array (array c.args.lineage.now.table.nodes c.args.node.number)) (kept-small _ (c.keeps_small.ensures c.args.node.number)))

pub returns-in-Err-clause-next : goal.returns-in-Err-clause-next
returns-in-Err-clause-next c =
    let beyond = at_least (2 ^ 32) c.args.index c.in-Err.ensures in
    next-nothing (λ e. e.0) c.args.max _ (from-beyond (2 ^ 32) c.args.index beyond (kept_array (array c.args.lineage.now.table.nodes c.args.node.number)) (kept-small _ (c.keeps_small.ensures c.args.node.number)))
