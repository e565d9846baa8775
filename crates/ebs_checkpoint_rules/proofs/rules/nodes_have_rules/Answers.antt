use Rattle.ebs_checkpoint_rules.proofs.Ascents.{nodes_of, entries_of, copies_of}
use Rattle.ebs_checkpoint_rules.proofs.rules.nodes_have_rules.Goals as goal

pub are_forest-requires : goal.are_forest-requires
are_forest-requires c = nodes_of c.args.point.now c.requires

pub states_fit-requires : goal.states_fit-requires
states_fit-requires c = nodes_of c.args.point.now c.requires

pub arrays_fit-requires-clause-nodes : goal.arrays_fit-requires-clause-nodes
arrays_fit-requires-clause-nodes c = nodes_of c.args.point.now c.requires

pub arrays_fit-requires-clause-entries : goal.arrays_fit-requires-clause-entries
arrays_fit-requires-clause-entries c = entries_of c.args.point.now c.requires

pub arrays_fit-requires-clause-copies : goal.arrays_fit-requires-clause-copies
arrays_fit-requires-clause-copies c = copies_of c.args.point.now c.requires
