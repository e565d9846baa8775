use Rattle.std.proofs.Common.{◌∙◌, ◌∷◌, ◌++◌}
use Rattle.ebs_model.specs.Ids.{vol_id, hex_of_width}
use Rattle.ebs_model.proofs.Padding.{shows_hex}
use Rattle.ebs_model.proofs.ids.vol_text.Goals as goal

pub returns : goal.returns
unfolding vol_id
returns c =
    let account = shows_hex c.in_radix.result c.laid_out.result 10 c.number-account.result c.in_radix.ensures c.laid_out.ensures in
    let number = shows_hex c.in_radix-2.result c.laid_out-2.result 7 c.number-serial.result c.in_radix-2.ensures c.laid_out-2.ensures in
    let h = rw (account, number) at c.in_ok-format.ensures.ok in
    c.from_string.ensures ∙ h ∙ (λ i. 118 ∷ 111 ∷ 108 ∷ 45 ∷ (hex_of_width 10 (c.number-account.ensures.value i) ++ hex_of_width 7 (c.number-serial.ensures.value i)))
