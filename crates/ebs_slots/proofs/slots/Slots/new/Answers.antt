use Rattle.std.proofs.Common.{arith}
use Rattle.std.specs.FinMap.{len-empty}
use Rattle.ebs_slots.proofs.Apart.{apart_none, owns_none}
use Rattle.ebs_slots.proofs.Starts.{top_first}
use Rattle.ebs_slots.proofs.Freeing.{counted_none}
use Rattle.ebs_slots.proofs.slots.Slots.new.Goals as goal

pub invariant_of-result : goal.invariant_of-result
invariant_of-result c = (
  rw (c.new.ensures, c.new-3.ensures, c.new-4.ensures) (apart_none c.args.area),
  rw (c.new.ensures, c.new-2.ensures) owns_none,
  rw (c.new-4.ensures, len-empty) (omega arith),
  rw (c.new-4.ensures, len-empty) (omega arith),
  top_first c.args.area,
  rw (c.new.ensures, c.new-3.ensures, c.new-4.ensures) (counted_none c.args.area),
  rw (c.new-4.ensures, len-empty) (omega arith),
  (λ n less u. absurd (omega (arith, less))),
  omega arith,
)
