use Rattle.std.proofs.Common.{◌≡◌, ◌++◌, length}
use Rattle.std.specs.List.{flat_map, AllByRecursion}
use Rattle.ebs_records.proofs.lists.read_each.Given as goal

abbrev pub invariant-loop : goal.invariant-loop
invariant-loop g l = (length l.items ≡ l.counter) × AllByRecursion g.T.Codec.fits l.items × (l.fn.input ≡ flat_map g.T.Codec.spelled l.items ++ l.input)
