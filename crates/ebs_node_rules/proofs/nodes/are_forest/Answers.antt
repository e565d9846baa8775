use Rattle.std.proofs.Common.{◌≡◌, ◌∙◌, sym}
use Rattle.ebs_node_rules.specs.Nodes.{names, parents, is_among, leads, is_forest}
use Rattle.ebs_node_rules.proofs.Marks.{told}
use Rattle.ebs_node_rules.proofs.Borne.{each_bears, each_needed}
use Rattle.ebs_node_rules.proofs.nodes.are_forest.Goals as goal

pub returns : goal.returns
returns c =
    let nodes = c.as_slice-nodes.ensures in
    let snapshots = c.as_slice-snapshots.ensures in
    let volumes = c.as_slice-volumes.ensures in
    let is : c.leads.result ≡ is_forest c.args.point.now =
    c.leads.ensures
    ∙ told c.as_slice-nodes.result.now c.as_slice-volumes.result.now _ _ _ _ _ _ (c.as_slice-numbers.ensures.value ∙ c.in_ok-names.ensures) c.in_ok-named.ensures (c.as_slice.ensures.value ∙ c.in_ok-parents.ensures) c.in_ok-bears.ensures
    ∙ (λ i. leads (nodes i) (volumes i) (names (snapshots i) (volumes i)) (is_among (names (snapshots i) (volumes i))) (is_among (parents (nodes i)))) in
    record { forest = is; named = λ yes. each_bears c.args.point.now c.requires (sym is ∙ yes); needed = each_needed c.args.point.now }
