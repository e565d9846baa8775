use Rattle.std.proofs.Common.{sym}
use Rattle.ebs_lineage.proofs.judge.is_held.Goals as goal

pub returns-in-Some-clause-held : goal.returns-in-Some-clause-held
returns-in-Some-clause-held c = λ holds. (c.in-Some.here.now, sym c.in-Some.ensures, holds)
