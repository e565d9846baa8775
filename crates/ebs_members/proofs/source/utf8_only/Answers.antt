use Rattle.std.proofs.Common.{Some, sym, ap, ◌∙◌}
use Rattle.ebs_members.proofs.Texts.{utf8_kept, utf8_dropped}
use Rattle.ebs_members.proofs.source.utf8_only.Goals as goal

pub returns-in-Ok : goal.returns-in-Ok
returns-in-Ok c = ap Some c.in-Ok.ensures.cases.0 ∙ sym (utf8_kept _ c.in-Ok.ensures.cases.1)

pub returns-in-Err : goal.returns-in-Err
returns-in-Err c = sym (utf8_dropped _ c.in-Err.ensures.cases.0)
