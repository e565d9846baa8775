use Rattle.std.proofs.Common.{arith, ap}
use Rattle.ebs_disk_store.specs.Checked.{is_damaged}
use Rattle.ebs_disk_store.proofs.Checks.{weight, always, whole, count-free, count-one}
use Rattle.ebs_disk_store.proofs.checking.check_slot.Goals as goal

pub returns-in_default-clause-blocks : goal.returns-in_default-clause-blocks
returns-in_default-clause-blocks g c =
    let keys = c.args.slots.now.keys in
    omega (arith, whole keys c.args.slot, count-free keys c.args.slot always c.in_default.ensures.none)

pub returns-in_default-clause-damaged : goal.returns-in_default-clause-damaged
returns-in_default-clause-damaged g c tells =
    omega (arith, count-free c.args.slots.now.keys c.args.slot (is_damaged (g.D.Disk.view c.args.disk.now).reads c.args.digests.now) c.in_default.ensures.none)

pub returns-then-is_damaged-clause-blocks : goal.returns-then-is_damaged-clause-blocks
returns-then-is_damaged-clause-blocks g c =
    let keys = c.args.slots.now.keys in
    let found = c.in-Some.ensures.some in
    omega (arith, whole keys c.args.slot, count-one keys c.args.slot always c.in-Some.stamp (λ k is. c.requires.apart.one_key k c.in-Some.stamp c.args.slot is found) found)

pub returns-else-is_damaged-clause-blocks : goal.returns-else-is_damaged-clause-blocks
returns-else-is_damaged-clause-blocks g c =
    let keys = c.args.slots.now.keys in
    let found = c.in-Some.ensures.some in
    omega (arith, whole keys c.args.slot, count-one keys c.args.slot always c.in-Some.stamp (λ k is. c.requires.apart.one_key k c.in-Some.stamp c.args.slot is found) found)

pub returns-then-is_damaged-clause-damaged : goal.returns-then-is_damaged-clause-damaged
returns-then-is_damaged-clause-damaged g c tells =
    let v = g.D.Disk.view c.args.disk.now in
    let keys = c.args.slots.now.keys in
    let found = c.in-Some.ensures.some in
    omega (
      arith,
      count-one keys c.args.slot (is_damaged v.reads c.args.digests.now) c.in-Some.stamp (λ k is. c.requires.apart.one_key k c.in-Some.stamp c.args.slot is found) found,
      ap weight (c.in_ok-is_damaged.ensures.damaged c.args.slot found tells),
      ap weight c.if-is_damaged.true,
    )

pub returns-else-is_damaged-clause-damaged : goal.returns-else-is_damaged-clause-damaged
returns-else-is_damaged-clause-damaged g c tells =
    let v = g.D.Disk.view c.args.disk.now in
    let keys = c.args.slots.now.keys in
    let found = c.in-Some.ensures.some in
    omega (
      arith,
      count-one keys c.args.slot (is_damaged v.reads c.args.digests.now) c.in-Some.stamp (λ k is. c.requires.apart.one_key k c.in-Some.stamp c.args.slot is found) found,
      ap weight (c.in_ok-is_damaged.ensures.damaged c.args.slot found tells),
      ap weight c.if-is_damaged.false,
    )
