use Rattle.std.proofs.Common.{sym, refl, subst, Err}
use Rattle.ebs_disk_store.specs.declared.pointing.StoreStop.{StoreStop}
use Rattle.ebs_desk.specs.declared.desk.TurnRefusal.TheVariants as refusal
use Rattle.ebs_desk.specs.declared.item.Item.TheVariants.{Fault}
use Rattle.ebs_desk.specs.Saves.{IsSaved}
use Rattle.ebs_desk.proofs.saving.leave_unsaved.Goals as goal

pub returns-in-Unavailable : goal.returns-in-Unavailable
returns-in-Unavailable g c = subst (λ (stop : StoreStop). IsSaved c.args.before c.args.disk.now (Err stop) (Fault c.args.before c.of.result, Err refusal.Unavailable)) (sym c.in-Unavailable.is) (c.of.result, c.of.ensures, refl)
