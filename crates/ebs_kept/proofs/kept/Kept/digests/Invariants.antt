use Rattle.ebs_kept.proofs.Gathered.{Gathers}
use Rattle.ebs_kept.proofs.kept.Kept.digests.Given as goal

abbrev pub invariant-loop-holder : goal.invariant-loop-holder
invariant-loop-holder l = Gathers l.self l.digests l.done l.holder-iterator l.initial.holder-iterator
