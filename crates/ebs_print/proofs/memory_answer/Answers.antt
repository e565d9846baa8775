use Rattle.std.proofs.Common.{refl}
use Rattle.std.specs.Fmt.{digits}
use Rattle.json.specs.Print.{escape_byte}
use Rattle.ebs_print.specs.Printed.{head}
use Rattle.ebs_shown.specs.Values.{object_text}
use Rattle.ebs_print.specs.Refusals.{row_members}
use Rattle.ebs_print.proofs.memory_answer.Goals as goal

pub returns : goal.returns
unfolding digits head row_members object_text escape_byte
returns c = refl
