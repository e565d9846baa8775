use Rattle.std.proofs.Common.{◌+◌, drop}
use Rattle.ebs_slots.specs.inner.Slots.{count_of}
use Rattle.ebs_regrown.specs.Counted.{entries_of}
use Rattle.ebs_regrown.proofs.Entries.{IsCounting}
use Rattle.ebs_regrown.proofs.counted.count_all.Given as goal

abbrev pub invariant-loop-entry : goal.invariant-loop-entry
invariant-loop-entry l = IsCounting l.standard (λ stamp. count_of l.initial.counted stamp + entries_of l.entries stamp) (entries_of (drop l.entry-index l.entries)) l.counted
