use Rattle.std.proofs.Common.{ℕ, sym, subst, Result}
use Rattle.ebs_disk_store.specs.declared.pointing.StoreStop.{StoreStop}
use Rattle.ebs_desk.specs.Saves.{IsSaved}
use Rattle.ebs_desk.proofs.saving.leave_saving.Goals as goal

pub returns-in-Err : goal.returns-in-Err
returns-in-Err g c = subst (λ (r : Result ℕ StoreStop). IsSaved c.args.before c.args.disk.now r c.leave_unsaved.result) (sym c.in-Err.is) c.leave_unsaved.ensures
