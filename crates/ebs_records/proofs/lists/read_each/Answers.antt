use Rattle.std.proofs.Common.{arith}
use Rattle.std.proofs.lemmas.Result.{err_from_is_err_and}
use Rattle.ebs_records.proofs.Each.{no_list}
use Rattle.ebs_records.proofs.lists.read_each.Goals as goal

pub returns-in_err-item : goal.returns-in_err-item
returns-in_err-item g c =
    let p = err_from_is_err_and c.from_residual.result c.from_residual.ensures.1 in
    let (many, each, parts) = c.loop.invariant in
    rw (p.1, p.2) (no_list g.T.Codec.fits g.T.Codec.spelled g.met.T.Codec.apart c.args.count c.loop.items c.args.input.now c.loop.input c.read.new.input c.in_err-item.field-0.0 (omega (arith, many, c.loop-test.true)) each parts c.in_err-item.ensures)
