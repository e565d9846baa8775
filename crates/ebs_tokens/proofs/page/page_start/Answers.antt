use Rattle.std.proofs.Common.{sym, ◌∙◌}
use Rattle.ebs_tokens.proofs.Pages.{no_page_start}
use Rattle.ebs_tokens.proofs.page.page_start.Goals as goal

pub returns-in_err-bytes : goal.returns-in_err-bytes
returns-in_err-bytes c =
    c.from_residual.ensures
    ∙ sym (no_page_start c.args.secret.now c.args.changed c.args.first.now c.args.second.now c.args.now.second c.args.text.now c.in_err-bytes.ensures.none)
