use Rattle.std.proofs.Common.{ℕ, ◌+◌, true, List, map, ap, ◌∙◌}
use Rattle.std.specs.Option.{option_map}
use Rattle.ebs_model.specs.declared.keys.SnapKey.{SnapKey}
use Rattle.ebs_model.specs.declared.entries.ChangedToken.{ChangedToken}
use Rattle.ebs_model.specs.declared.answer.Answer.TheVariants.{ChangedList}
use Rattle.ebs_model.specs.Tokens.{block_text}
use Rattle.ebs_model.specs.Lists.{page_of}
use Rattle.ebs_model.specs.Calls.List as lists
use Rattle.ebs_lineage.specs.Lines.{array}
use Rattle.ebs_kept.specs.inner.Shown.{kept_array}
use Rattle.ebs_kept.proofs.Listed.{changes-listed}
use Rattle.ebs_kept.proofs.lists.compared.Goals as goal

pub returns : goal.returns
returns c =
    let secret = c.args.secret.now in
    let first = c.args.first.now in
    let second = c.args.second.now in
    let now = c.args.now.second in
    let page = c.in_ok-page in
    let text : SnapKey → ℕ → ℕ → List ℕ = λ key expiry index. block_text secret key index expiry in
    let entries = c.in_ok-entries.ensures
    ∙ (λ i. map {B = ChangedToken} (λ e. record {
      index = e.index;
      first = option_map (λ b. text first.key.now (c.after-expiry.ensures i).second e.index) e.first;
      second = option_map (λ b. text second.key.now (c.after-expiry.ensures i).second e.index) e.second;
    }) (c.as_slice-changes.ensures i))
    ∙ changes-listed (text first.key.now (now + lists.block_life)) (text second.key.now (now + lists.block_life)) page.page.entries (page_of c.args.max (lists.differences (kept_array (array c.args.lineage.now.table.nodes first.node.number)) (kept_array (array c.args.lineage.now.table.nodes second.node.number)) c.args.index)) page.ensures.entries in
    let next = c.in_ok-next.ensures ∙ ap (lists.next_page secret true first.key.now second.key.now now) page.ensures.next in
    λ i. ChangedList (entries i) (c.after-expiry.ensures i) (next i) (c.from.ensures i)
