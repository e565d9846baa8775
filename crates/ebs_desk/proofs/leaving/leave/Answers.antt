use Rattle.std.proofs.Common.{refl, ap}
use Rattle.ebs_disk_store.specs.inner.Fetched.{answer_of}
use Rattle.ebs_desk.specs.Calls.{of_entry, of_fault}
use Rattle.ebs_desk.proofs.leaving.leave.Goals as goal

pub returns-then-has_failed : goal.returns-then-has_failed
returns-then-has_failed g c = of_fault c.of.result c.of.ensures (c.if-has_failed.ensures.yes refl) refl

pub returns : goal.returns
returns g c = of_entry c.of-2.result (ap answer_of c.of-2.ensures) (c.if-has_failed.ensures.no refl) (c.if-wants_memory.ensures.no refl) refl
