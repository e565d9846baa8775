use Rattle.std.specs.FinMap as map
use Rattle.ebs_holds.specs.Holds.{held_in}
use Rattle.ebs_catalog.specs.Held.{rows_in}
use Rattle.ebs_kept.specs.inner.Counted.{KeepsShown, IsShownBefore}
use Rattle.ebs_kept.proofs.collecting.drop_unshown.Given as goal

abbrev pub invariant-loop-holder : goal.invariant-loop-holder
invariant-loop-holder l = record {
  keeps : KeepsShown l.now.second (rows_in l.catalog) l.fn.holdings l.holdings;
  before : IsShownBefore l.now.second (rows_in l.catalog) (held_in l.holdings) l.from;
}

abbrev pub decreases-loop-holder : goal.decreases-loop-holder
decreases-loop-holder l = map.len (held_in l.holdings)
