use Rattle.std.proofs.Common.{◌≤◌, ◌∙◌, ap, sym, subst}
use Rattle.ebs_model.specs.declared.keys.Moment.{Moment}
use Rattle.ebs_recovery.specs.inner.Fits.{Seen}
use Rattle.ebs_disk_store.specs.inner.Collected.{StaysUntil}
use Rattle.ebs_disk_store.proofs.Timed.{stays_now}
use Rattle.ebs_disk_store.proofs.store.Store.is_behind.Goals as goal

pub has_ended-requires : goal.has_ended-requires
has_ended-requires g c = subst (λ (s : Seen). s.recorded.clock.second ≤ c.args.now.second) (sym c.self.view_is) c.requires

pub returns-clause-stays : goal.returns-clause-stays
returns-clause-stays g c e = subst (λ (s : Seen). StaysUntil s.recorded c.args.now) c.self.view_is (c.has_ended.ensures e)

pub returns-then-clock-now-clause-stays : goal.returns-then-clock-now-clause-stays
returns-then-clock-now-clause-stays g c _ = subst (λ (s : Seen). StaysUntil s.recorded c.args.now) c.self.view_is
    (stays_now c.self.inside.kept.machine c.args.now (sym (ap (λ (m : Moment). m.second) c.clock.ensures) ∙ c.if-clock-now.true) c.rests.ensures)
