use Rattle.std.proofs.Common.{sym, refl, subst}
use Rattle.ebs_disk_store.specs.declared.store.Stop.{Stop}
use Rattle.ebs_turns.specs.declared.line.Deed.TheVariants.{Nothing}
use Rattle.ebs_desk.specs.declared.item.Item.TheVariants.{Fault}
use Rattle.ebs_desk.specs.Staging.{IsLeftStop}
use Rattle.ebs_desk.proofs.leaving.leave_stop.Goals as goal

pub returns-in-Unavailable : goal.returns-in-Unavailable
returns-in-Unavailable g c = subst (λ (stop : Stop). IsLeftStop c.args.before c.args.disk.now stop (Fault c.args.before c.of.result, Nothing)) (sym c.in-Unavailable.is) (c.of.result, c.of.ensures, refl)
