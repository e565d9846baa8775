use Rattle.std.proofs.lemmas.Result.{err_from_is_err_and}
use Rattle.ebs_records.proofs.Views.{no_option}
use Rattle.ebs_records.proofs.choices.OptionCodec.read.Goals as goal

pub returns-in_err-read : goal.returns-in_err-read
returns-in_err-read g c =
    let p = err_from_is_err_and c.from_residual.result c.from_residual.ensures.1 in
    rw (p.1, p.2) (no_option g.T.Codec.fits g.T.Codec.spelled c.args.input.now c.read.new.input c.in_err-read.field-0.0 c.in_err-read.ensures)
