use Rattle.std.proofs.Common.{◌∙◌, ap}
use Rattle.std.specs.Result.{result_ok}
use Rattle.ebs_tokens.proofs.Texts.{none_sized}
use Rattle.ebs_tokens.proofs.stated.bytes_of.Goals as goal

pub returns-clause-none : goal.returns-clause-none
returns-clause-none g c =
    none_sized c.args.text.now g.row.N c.ok.result (c.ok.ensures.value ∙ ap result_ok c.from_hex.ensures)
