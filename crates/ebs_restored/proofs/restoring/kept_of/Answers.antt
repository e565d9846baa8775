use Rattle.std.proofs.Common.{sym, subst, ◌∙◌}
use Rattle.ebs_kept.specs.inner.Shown.{IsSound}
use Rattle.ebs_recovery.specs.inner.Bases.{machine_of}
use Rattle.ebs_restored.proofs.SaidMachine.{is-sound, machine-is}
use Rattle.ebs_restored.proofs.SaidSlots.{snaps-ascend}
use Rattle.ebs_restored.proofs.restoring.kept_of.Goals as goal

pub of-requires-clause-sound : goal.of-requires-clause-sound
of-requires-clause-sound c =
    let p = c.args.point in
    let settled = c.machines_are_settled.ensures.points p c.requires.rules in
    subst IsSound (sym (machine-is p (snaps-ascend p c.requires.rules) c.requires.copies settled c.in_ok-catalog.catalog c.args.holdings c.in_ok-catalog.ensures.rows c.requires.restored c.args.alloc)) (is-sound (machine_of p) settled)

pub returns-clause-machine : goal.returns-clause-machine
returns-clause-machine c =
    let p = c.args.point in
    let settled = c.machines_are_settled.ensures.points p c.requires.rules in
    c.of.ensures.machine ∙ machine-is p (snaps-ascend p c.requires.rules) c.requires.copies settled c.in_ok-catalog.catalog c.args.holdings c.in_ok-catalog.ensures.rows c.requires.restored c.args.alloc
