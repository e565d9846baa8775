use Rattle.std.proofs.Common.{ℕ, ◌+◌, false, map, ap, ◌∙◌}
use Rattle.ebs_model.specs.declared.entries.BlockEntry.{BlockEntry}
use Rattle.ebs_model.specs.declared.answer.Answer.TheVariants.{BlockList}
use Rattle.ebs_model.specs.Tokens.{block_text}
use Rattle.ebs_model.specs.Lists.{from_index, page_of}
use Rattle.ebs_model.specs.Calls.List as lists
use Rattle.ebs_lineage.specs.Lines.{array}
use Rattle.ebs_kept.specs.inner.Shown.{kept_array}
use Rattle.ebs_kept.proofs.Listed.{entries-listed}
use Rattle.ebs_kept.proofs.lists.listed.Goals as goal

pub returns : goal.returns
returns c =
    let secret = c.args.secret.now in
    let key = c.args.side.now.key.now in
    let now = c.args.now.second in
    let page = c.in_ok-page in
    let entry : ℕ → ℕ → BlockEntry = λ expiry index. record { index = index; token = block_text secret key index expiry } in
    let entries = c.in_ok-entries.ensures
    ∙ (λ i. map (λ e. entry (c.after-expiry.ensures i).second e.index) (c.as_slice.ensures i))
    ∙ entries-listed (entry (now + lists.block_life)) page.page.entries (page_of c.args.max (from_index (kept_array (array c.args.lineage.now.table.nodes c.args.side.now.node.number)) c.args.index)) page.ensures.entries in
    let next = c.in_ok-next.ensures ∙ ap (lists.next_page secret false key key now) page.ensures.next in
    λ i. BlockList (entries i) (c.after-expiry.ensures i) (next i) (c.from.ensures i)
