use Rattle.std.proofs.Common.{refl, sym, ap, subst, ◌∙◌, List}
use Rattle.ebs_checkpoints.specs.declared.nodes.NodeRow.{NodeRow}
use Rattle.ebs_checkpoints.specs.declared.owned.VolPoint.{VolPoint}
use Rattle.ebs_checkpoints.specs.declared.snapshots.SnapPoint.{SnapPoint}
use Rattle.ebs_node_rules.specs.Nodes.{names}
use Rattle.ebs_holds.specs.Holds.{nodes_in}
use Rattle.ebs_catalog.specs.Held.{rows_in}
use Rattle.ebs_pointed.specs.Stored.{AreStored}
use Rattle.ebs_point.specs.Nodes.{AreLive, AreNodesOf, AreThere}
use Rattle.ebs_point.specs.Slots.{AreSlotsOf}
use Rattle.ebs_point.proofs.Entered.{blocks-are-of, stored}
use Rattle.ebs_point.proofs.Whole.{all-begun, is-point, names-live, names-there, policies-placed, rules-numbered, vols-placed}
use Rattle.ebs_point.proofs.pointing.point_of.Goals as goal

pub snapshots_of-requires : goal.snapshots_of-requires
snapshots_of-requires c = c.requires.placed

pub volumes_of-requires : goal.volumes_of-requires
volumes_of-requires c = vols-placed c.args.kept.now.machine (rows_in c.args.catalog.now) c.args.holdings.now c.args.slots.now c.args.at c.requires

pub nodes_of-requires-clause-there : goal.nodes_of-requires-clause-there
nodes_of-requires-clause-there c = subst (λ (p : List SnapPoint × List VolPoint). AreThere (nodes_in c.args.holdings.now) (names p.0 p.1)) (λ i. (sym c.as_slice.ensures i, sym c.as_slice-2.ensures i))
    (names-there c.args.at.second (rows_in c.args.catalog.now) c.args.holdings.now c.requires.nodes c.in_ok-snapshots.snapshots c.in_ok-volumes.volumes
    c.in_ok-snapshots.ensures.listed c.in_ok-snapshots.ensures.each c.in_ok-volumes.ensures.listed c.in_ok-volumes.ensures.nodes)

pub nodes_of-requires-clause-live : goal.nodes_of-requires-clause-live
nodes_of-requires-clause-live c = subst (λ (p : List SnapPoint × List VolPoint). AreLive (nodes_in c.args.holdings.now) (names p.0 p.1) c.in_ok-digests.digests) (λ i. (sym c.as_slice.ensures i, sym c.as_slice-2.ensures i))
    (names-live c.args.kept.now.machine (rows_in c.args.catalog.now) c.args.holdings.now c.args.slots.now c.args.at c.requires c.in_ok-digests.digests c.in_ok-digests.ensures c.in_ok-snapshots.snapshots c.in_ok-volumes.volumes
    c.in_ok-snapshots.ensures.listed c.in_ok-snapshots.ensures.each c.in_ok-volumes.ensures.listed c.in_ok-volumes.ensures.nodes)

pub slots_of-requires-clause-area : goal.slots_of-requires-clause-area
slots_of-requires-clause-area c = c.requires.area

pub slots_of-requires-clause-stored : goal.slots_of-requires-clause-stored
slots_of-requires-clause-stored c =
    let nodes = nodes_in c.args.holdings.now in
    let rows = c.in_ok-nodes.nodes in
    subst (λ (ns : List NodeRow). AreStored ns c.args.slots.now.keys) (sym c.as_slice-3.ensures)
    (stored nodes c.in_ok-digests.digests rows (blocks-are-of nodes c.in_ok-digests.digests rows c.in_ok-nodes.ensures.entries) c.args.slots.now c.requires.counted)

pub rules_of-requires : goal.rules_of-requires
rules_of-requires c = rules-numbered c.args.kept.now.machine (rows_in c.args.catalog.now) c.args.holdings.now c.args.slots.now c.args.at c.requires

pub accounts_of-requires : goal.accounts_of-requires
accounts_of-requires c = all-begun c.args.kept.now.machine (rows_in c.args.catalog.now) c.args.holdings.now c.args.slots.now c.args.at c.requires

pub policies_of-requires : goal.policies_of-requires
policies_of-requires c = policies-placed c.args.kept.now.machine (rows_in c.args.catalog.now) c.args.holdings.now c.args.slots.now c.args.at c.requires

pub returns : goal.returns
returns c = is-point c.args.kept.now.machine (rows_in c.args.catalog.now) c.args.holdings.now c.args.slots.now c.args.at c.requires c.in_ok-digests.digests c.in_ok-digests.ensures _ (record {
  clock = refl;
  changes = c.changes.ensures;
  stamps = c.stamps.ensures;
  secret = c.secret_of.ensures.value;
  digest = c.secret_of.ensures.width;
  next = refl;
  archive = c.new.ensures;
  snaps = c.in_ok-snapshots.ensures.listed;
  points = c.in_ok-snapshots.ensures.each;
  vols = c.in_ok-volumes.ensures.listed;
  vol_nodes = c.in_ok-volumes.ensures.nodes;
  vol_values = c.in_ok-volumes.ensures.values;
  order = c.in_ok-accounts.ensures.order;
  own = c.in_ok-accounts.ensures.own;
  books = c.in_ok-accounts.ensures.books c.in_ok-rules.rules c.in_ok-rules.ensures.listed;
  tokens = c.in_ok-accounts.ensures.tokens;
  calls = c.in_ok-accounts.ensures.calls;
  account_values = c.in_ok-accounts.ensures.values;
  rules = c.in_ok-rules.ensures.listed;
  rules_ascend = c.in_ok-rules.ensures.ascend;
  rule_values = c.in_ok-rules.ensures.values;
  policies = c.in_ok-policies.ensures.listed;
  policy_values = c.in_ok-policies.ensures.values;
  nodes = subst (λ (p : List SnapPoint × List VolPoint). AreNodesOf (nodes_in c.args.holdings.now) (names p.0 p.1) c.in_ok-digests.digests c.in_ok-nodes.nodes) (λ i. (c.as_slice.ensures i, c.as_slice-2.ensures i)) c.in_ok-nodes.ensures;
  slots = subst (λ (ns : List NodeRow). AreSlotsOf c.args.slots.now.keys ns c.in_ok-standard.standard) c.as_slice-3.ensures c.in_ok-standard.ensures;
})
