use Rattle.std.proofs.Common.{◌≡◌, ◌+◌, ◌==◌, ◌&&◌, ℕ, arith, sym, ap, subst, ◌∙◌}
use Rattle.std.specs.List.{count_by}
use Rattle.std.specs.FinMap.{entries}
use Rattle.ebs_world.specs.Image.{Image, Everywhere}
use Rattle.ebs_world.specs.inner.Runs.{ran_on, ran_not}
use Rattle.ebs_disk_store.specs.Checked.{is_damaged}
use Rattle.ebs_disk_store.proofs.Checks.{always, below, slot_in, whole, count-more, count-none, count-keys, all-keys, reads-same}
use Rattle.ebs_disk_store.proofs.checking.check_slots.Goals as goal

pub loop-slot-init : goal.loop-slot-init
loop-slot-init g c =
    let v = g.D.Disk.view c.args.disk.now in
    let es = entries c.args.slots.now.keys in
    record {
      few = omega arith;
      fewer = omega arith;
      blocks = sym (count-none slot_in always es);
      damaged = λ tells. sym (count-none slot_in (is_damaged v.reads c.args.digests.now) es);
      ran = ran_not Everywhere v (g.met.D.Disk.true_to_itself c.args.disk.now);
    }

pub returns-in_err-check_slot-clause-ran : goal.returns-in_err-check_slot-clause-ran
returns-in_err-check_slot-clause-ran g c =
    ran_on Everywhere (g.D.Disk.view c.args.disk.now) (g.D.Disk.view c.loop-slot.disk) (g.D.Disk.view c.check_slot.new.disk) c.loop-slot.invariant.ran c.check_slot.ensures.ran

pub loop-slot-preserved : goal.loop-slot-preserved
loop-slot-preserved g c =
    let old = g.D.Disk.view c.args.disk.now in
    let mid = g.D.Disk.view c.loop-slot.disk in
    let keys = c.args.slots.now.keys in
    let slot = c.loop-slot.slot in
    let counted = c.in_ok-check_slot.ensures in
    let ran = c.loop-slot.invariant.ran in
    record {
      few = counted.few;
      fewer = counted.fewer;
      blocks = omega (arith, c.loop-slot.invariant.blocks, counted.blocks, whole keys slot, count-more slot_in always slot (entries keys));
      damaged = λ tells.
          let here = subst (λ (r : Image). c.check_slot.new.checked.damaged ≡ c.loop-slot.checked.damaged + count_by (λ (e : ℕ × ℕ). (e.1 == slot) && is_damaged r c.args.digests.now e) (entries keys))
          (reads-same old mid ran tells) (counted.damaged (ran.told ∙ tells)) in
          omega (arith, c.loop-slot.invariant.damaged tells, here, count-more slot_in (is_damaged old.reads c.args.digests.now) slot (entries keys));
      ran = ran_on Everywhere old mid (g.D.Disk.view c.check_slot.new.disk) ran c.check_slot.ensures.ran;
    }

pub returns-clause-blocks : goal.returns-clause-blocks
returns-clause-blocks g c =
    let keys = c.args.slots.now.keys in
    let top = c.args.slots.now.top in
    let end : c.loop-slot.slot ≡ top = omega (arith, c.top-slot-end.ensures.top) in
    c.loop-slot.invariant.blocks ∙ ap (λ n. count_by (below slot_in always n) (entries keys)) end ∙ count-keys keys top always c.top-slot-end.ensures.apart.keyed ∙ all-keys keys

pub returns-clause-damaged : goal.returns-clause-damaged
returns-clause-damaged g c tells =
    let keys = c.args.slots.now.keys in
    let top = c.args.slots.now.top in
    let bad = is_damaged (g.D.Disk.view c.args.disk.now).reads c.args.digests.now in
    let end : c.loop-slot.slot ≡ top = omega (arith, c.top-slot-end.ensures.top) in
    c.loop-slot.invariant.damaged tells ∙ ap (λ n. count_by (below slot_in bad n) (entries keys)) end ∙ count-keys keys top bad c.top-slot-end.ensures.apart.keyed
