use Rattle.std.proofs.Common.{sym, subst, ◌∙◌}
use Rattle.std.specs.Str.{IsUtf8}
use Rattle.ebs_records.specs.inner.Lists.{counted, apart_long_as}
use Rattle.ebs_records.proofs.Short.{too_short}
use Rattle.ebs_records.proofs.lists.TextCodec.read.Goals as goal

pub returns-in_default : goal.returns-in_default
returns-in_default c v rest fits e =
    let both = counted c.in_ok-count.count c.read.new.input v rest c.in_ok-count.ensures.0 fits.0 (sym c.in_ok-count.ensures.1 ∙ e) in
    too_short c.in_ok-count.count c.read.new.input v rest (sym both.0) c.in_default.ensures.none.1 both.1

pub returns-in-Err : goal.returns-in-Err
returns-in-Err c v rest fits e =
    let both = counted c.in_ok-count.count c.read.new.input v rest c.in_ok-count.ensures.0 fits.0 (sym c.in_ok-count.ensures.1 ∙ e) in
    let same = apart_long_as c.in_ok-count.count c.in-Some.bytes.now v c.take.new.self rest c.in-Some.ensures.some.1 (sym both.0) (sym c.in-Some.ensures.some.0 ∙ both.1) in
    c.in-Err.ensures.cases.0 (subst IsUtf8 (sym same.0) fits.1)
