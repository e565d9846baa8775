use Rattle.std.proofs.Common.{◌∙◌, ap}
use Rattle.std.specs.Fmt.{decimal}
use Rattle.ebs_model.specs.Ids.{decimal_of_width}
use Rattle.ebs_model.proofs.Padding.{zero_padded}
use Rattle.ebs_model.proofs.ids.account_text.Goals as goal

pub returns : goal.returns
returns c =
    let h = rw c.laid_out.ensures at c.in_ok-format.ensures.ok in
    c.from_string.ensures ∙ h ∙ zero_padded 12 (decimal c.number-number.result) ∙ ap (decimal_of_width 12) c.number-number.ensures.value
