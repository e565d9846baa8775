use Rattle.std.proofs.Common.{arith, ◌≡◌, ℕ, Some, is_some, sym, ap, subst, ◌∙◌}
use Rattle.std.specs.FinMap as map
use Rattle.ebs_lineage.specs.declared.node.Node.{Node}
use Rattle.ebs_lineage.specs.Kin.{Links, AreListed}
use Rattle.ebs_lineage.specs.Linked.{IsRelisted, IsWantedOr}
use Rattle.ebs_lineage.proofs.Relinking.{unlinked-relisted, relisted-self, relisted-on}
use Rattle.ebs_lineage.proofs.Departing.{leads-kin, top-kin, left-listed}
use Rattle.ebs_lineage.proofs.leaving.leave.Goals as goal

pub loop-parent-init : goal.loop-parent-init
loop-parent-init c = record { listed = c.requires.kin; kept = relisted-self c.args.kin.now.links; spare = omega arith }

pub loop-parent-preserved : goal.loop-parent-preserved
loop-parent-preserved c =
    let nodes = c.args.nodes.now.nodes in
    let links = c.loop-parent.kin.links in
    let at = c.loop-parent.at in
    let p = c.in-Some.parent in
    let up = sym c.in-Some.ensures in
    let there = λ (n : ℕ) (x : Node) (is : map.get nodes n ≡ Some x). c.loop-parent.invariant.kept.there n ∙ c.requires.there n (ap is_some is) in
    record {
      listed = subst (λ (l : Links). AreListed (IsWantedOr nodes p) l) (sym c.unlink.ensures.links)
          (left-listed nodes c.args.made c.requires.lines links at c.loop-parent.invariant.listed p up (c.leads_on.ensures.held c.loop-parent-test.true) (c.leads_on.ensures.none c.loop-parent-test.true) there);
      kept = relisted-on c.args.kin.now.links links c.unlink.new.self.links c.loop-parent.invariant.kept
          (subst (λ (l : Links). IsRelisted links l) (sym c.unlink.ensures.links) (unlinked-relisted links p at));
      spare = omega (arith, c.loop-parent.invariant.spare, c.unlink.ensures.spare);
    }

pub returns-in_default-clause-kin : goal.returns-in_default-clause-kin
returns-in_default-clause-kin c =
    top-kin c.args.nodes.now.nodes c.args.made c.requires.lines c.loop-parent.kin.links c.loop-parent.at c.loop-parent.invariant.listed (sym c.in_default.ensures)

pub returns-clause-kin : goal.returns-clause-kin
returns-clause-kin c =
    leads-kin c.args.nodes.now.nodes c.args.made c.requires.lines c.loop-parent.kin.links c.loop-parent.at c.loop-parent.invariant.listed (c.leads_on.ensures.yes c.loop-parent-test.false)
