use Rattle.std.proofs.Common.{T}
use Rattle.std.specs.FinMap.Entries.{is_sorted}
use Rattle.ebs_holds.specs.Holders.{holder_cmp}
use Rattle.ebs_holds.specs.Holds.{held_in}
use Rattle.ebs_catalog.specs.Held.{rows_in}
use Rattle.ebs_kept.proofs.Walked.{IsLeft}
use Rattle.ebs_kept.proofs.collecting.next_unshown.Given as goal

abbrev pub invariant-loop-holder : goal.invariant-loop-holder
invariant-loop-holder l = record {
  left : IsLeft l.now.second (rows_in l.catalog) (held_in l.holdings) l.holder-iterator;
  rises : T (is_sorted holder_cmp l.holder-iterator);
}
