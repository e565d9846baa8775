use Rattle.std.proofs.Common.{sym, refl, subst, Result, Err}
use Rattle.ebs_collect.specs.declared.backlog.Progress.{Progress}
use Rattle.ebs_disk_store.specs.declared.collecting.Unavailable.{Unavailable}
use Rattle.ebs_desk.specs.declared.desk.TurnRefusal.TheVariants as refusal
use Rattle.ebs_desk.specs.declared.item.Item.TheVariants.{Fault}
use Rattle.ebs_desk.specs.Calls.{IsTicked}
use Rattle.ebs_desk.proofs.leaving.leave_tick.Goals as goal

pub returns-in-Err : goal.returns-in-Err
returns-in-Err g c = subst (λ (r : Result Progress Unavailable). IsTicked c.args.reading c.args.work c.args.before c.args.disk.now r (Fault c.args.before c.of.result, Err refusal.Unavailable)) (sym c.in-Err.is) (c.of.result, c.of.ensures, refl)
