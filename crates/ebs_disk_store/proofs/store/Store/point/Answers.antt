use Rattle.std.proofs.Common.{subst}
use Rattle.std.specs.Prelude.{IfOk}
use Rattle.ebs_checkpoint_rules.specs.Rules.{IsCheckpoint}
use Rattle.ebs_holds.specs.Holds.{nodes_in}
use Rattle.ebs_point.specs.Points.{IsPointAt}
use Rattle.ebs_recovery.specs.inner.Fits.{Seen}
use Rattle.ebs_recovery.specs.inner.TurnLaws.{IsNextOf}
use Rattle.ebs_disk_store.specs.inner.Shown.{shown}
use Rattle.ebs_disk_store.proofs.Pointed.{next_at, point_at, sound_ready}
use Rattle.ebs_disk_store.proofs.store.Store.point.Goals as goal

pub invariant_of-self : goal.invariant_of-self
invariant_of-self g c =
    let counted = c.blocks_stay.ensures.counted (nodes_in c.self.inside.kept.holding) (nodes_in c.ready_nodes.new.self.holding) c.self.inside.slots c.ready_nodes.ensures.blocks c.self.invariant.counted in
    sound_ready (shown c.self.inside) _ _ c.ready_nodes.new.self.machine c.ready_nodes.new.self.holding.queue.waiting c.self.invariant c.ready_nodes.ensures.machine counted

pub invariant_of-self-2 : goal.invariant_of-self-2
invariant_of-self-2 g c =
    let counted = c.blocks_stay.ensures.counted (nodes_in c.self.inside.kept.holding) (nodes_in c.ready_nodes.new.self.holding) c.self.inside.slots c.ready_nodes.ensures.blocks c.self.invariant.counted in
    sound_ready (shown c.self.inside) _ _ c.ready_nodes.new.self.machine c.ready_nodes.new.self.holding.queue.waiting c.self.invariant c.ready_nodes.ensures.machine counted

pub point-requires-clause-counted : goal.point-requires-clause-counted
point-requires-clause-counted g c = c.blocks_stay.ensures.counted (nodes_in c.self.inside.kept.holding) (nodes_in c.ready_nodes.new.self.holding) c.self.inside.slots c.ready_nodes.ensures.blocks c.self.invariant.counted

pub invariant_of-self-3 : goal.invariant_of-self-3
invariant_of-self-3 g c =
    let counted = c.blocks_stay.ensures.counted (nodes_in c.self.inside.kept.holding) (nodes_in c.ready_nodes.new.self.holding) c.self.inside.slots c.ready_nodes.ensures.blocks c.self.invariant.counted in
    sound_ready (shown c.self.inside) _ _ c.ready_nodes.new.self.machine c.ready_nodes.new.self.holding.queue.waiting c.self.invariant c.ready_nodes.ensures.machine counted

pub returns-clause-point : goal.returns-clause-point
returns-clause-point g c =
    subst (λ (s : Seen). IfOk c.point.result (λ p. IsPointAt s.recorded s.slots s.clock p)) c.self.view_is
    (point_at (shown c.self.inside) c.ready_nodes.new.self.machine c.ready_nodes.ensures.machine c.point.result c.point.ensures.machine c.point.ensures.copies c.point.ensures.rules c.point.ensures.checkpoint c.point.ensures.keys c.point.ensures.stored)

pub returns-clause-next : goal.returns-clause-next
returns-clause-next g c =
    subst (λ (s : Seen). IfOk c.point.result (λ p. IsCheckpoint p → IsNextOf s p)) c.self.view_is
    (next_at (shown c.self.inside) c.top-top.ensures.apart c.point.result
    (point_at (shown c.self.inside) c.ready_nodes.new.self.machine c.ready_nodes.ensures.machine c.point.result c.point.ensures.machine c.point.ensures.copies c.point.ensures.rules c.point.ensures.checkpoint c.point.ensures.keys c.point.ensures.stored))
