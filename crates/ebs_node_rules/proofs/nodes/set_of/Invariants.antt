use Rattle.std.proofs.Common.{◌≡◌, drop}
use Rattle.ebs_node_rules.specs.inner.Lookups.{marked, set_of}
use Rattle.ebs_node_rules.proofs.nodes.set_of.Given as goal

abbrev pub invariant-loop-number : goal.invariant-loop-number
invariant-loop-number l = marked l.set (drop l.number-index l.numbers) ≡ set_of l.numbers
