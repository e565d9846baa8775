use Rattle.std.proofs.Common.{◌∙◌, sym, subst, List, ℕ, Err}
use Rattle.ebs_records.specs.declared.codec.Unread.{Unread}
use Rattle.ebs_records.specs.declared.codec.Unread.TheVariants.{Malformed}
use Rattle.ebs_records.specs.inner.Reading.{Reads}
use Rattle.ebs_checkpoints.specs.Checkpoints.{HasSpelling, spelled}
use Rattle.ebs_checkpoints.proofs.Wholes.{read_whole, read_none}
use Rattle.ebs_checkpoints.proofs.points.read_checkpoint.Goals as goal

pub returns-in-Ok : goal.returns-in-Ok
returns-in-Ok c = rw (c.judged.ensures, c.is_empty.ensures) (read_whole c.args.bytes.now c.read.new.input c.in-Ok.value c.in-Ok.ensures.0 (sym c.new-input.ensures ∙ c.in-Ok.ensures.1))

pub returns-in-Err-Malformed : goal.returns-in-Err-Malformed
returns-in-Err-Malformed c =
    let none : Reads HasSpelling spelled c.new-input.result c.read.new.input (Err Malformed) = subst (λ (e : Unread). Reads HasSpelling spelled c.new-input.result c.read.new.input (Err e)) c.in-Err-Malformed.field-0-is c.in-Err-Malformed.ensures in
    read_none c.args.bytes.now c.read.new.input (subst (λ (b : List ℕ). Reads HasSpelling spelled b c.read.new.input (Err Malformed)) c.new-input.ensures none)
