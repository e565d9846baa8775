use Rattle.std.proofs.Common.{sym, ap, ◌∙◌}
use Rattle.std.specs.Ordering.{nat_cmp}
use Rattle.std.specs.FinMap.{get, get-empty}
use Rattle.ebs_holds.specs.Holds.{nodes_in, array_of_node}
use Rattle.ebs_holds.proofs.holdings.Holdings.find.Goals as goal

pub returns-in-None : goal.returns-in-None
returns-in-None c = sym (ap (λ o. get (array_of_node (nodes_in c.args.self.now) o) c.args.index) (sym c.in-None.ensures) ∙ get-empty nat_cmp c.args.index)
