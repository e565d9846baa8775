use Rattle.std.proofs.Common.{arith, sym, subst}
use Rattle.ebs_lineage.specs.Kin.{Links, AreKin, relinked, with_below}
use Rattle.ebs_lineage.specs.Ways.{AreWays, IsNoted}
use Rattle.ebs_lineage.proofs.Linking.{kin_noted}
use Rattle.ebs_lineage.proofs.Onward.{way-on, down-on, ways-more, noted-on, noted-one}
use Rattle.ebs_lineage.proofs.ways.way_end.Goals as goal

pub returns-in_default-next_down-clause-way : goal.returns-in_default-next_down-clause-way
returns-in_default-next_down-clause-way c = way-on c.args.nodes.now.nodes c.args.node c.loop-next.at c.in-Some.next c.loop-next.invariant.way c.in-Some.ensures.way.way

pub loop-next-preserved : goal.loop-next-preserved
loop-next-preserved c =
    let nodes = c.args.nodes.now.nodes in
    let at = c.loop-next.at in
    let far = c.in-Some-next_down.far in
    let links = c.loop-next.kin.links in
    let down = down-on nodes at c.in-Some.next far c.in-Some.ensures.way c.in-Some-next_down.ensures.way in
    let one = noted-one links at far in
    record {
      way = way-on nodes c.args.node at far c.loop-next.invariant.way down.way;
      kin = subst (λ (l : Links). AreKin nodes l) (sym c.set_below.ensures.links) (kin_noted nodes links (relinked links at (with_below far)) one c.loop-next.invariant.kin);
      ways = subst (λ (l : Links). AreWays nodes l) (sym c.set_below.ensures.links) (ways-more nodes links c.loop-next.invariant.ways at far down);
      noted = noted-on c.args.kin.now.links links c.set_below.new.self.links c.loop-next.invariant.noted (subst (λ (l : Links). IsNoted links l) (sym c.set_below.ensures.links) one);
      spare = omega (arith, c.loop-next.invariant.spare, c.set_below.ensures.spare);
    }
