-- A store and its parts may be sent to other threads.
use denote.RattleType.{RattleType}
use denote.Param.Send.{IsSend, sendable}
use Rattle.std.proofs.Crossing.{crosses}
use Rattle.std.proofs.MapsCrossing.{crosses as maps}
use Rattle.ebs_bin.specs.contracts.rules.Rules as rules
use Rattle.ebs_catalog.specs.contracts.catalog.Catalog as catalog
use Rattle.ebs_collect.specs.contracts.backlog.Backlog as backlog
use Rattle.ebs_disk_store.specs.contracts.store.Store as store
use Rattle.ebs_disk_store.specs.declared.store.Promise.{Ghosts}
use Rattle.ebs_holds.specs.contracts.holdings.Holdings as holdings
use Rattle.ebs_journal.specs.contracts.journal.Journal as journal
use Rattle.ebs_kept.specs.contracts.kept.Kept as kept
use Rattle.ebs_lineage.specs.contracts.hiders.Hiders as hiders
use Rattle.ebs_lineage.specs.contracts.kin.Kin as kin
use Rattle.ebs_lineage.specs.contracts.lineage.Lineage as lineage
use Rattle.ebs_lineage.specs.contracts.link.Link as link
use Rattle.ebs_lineage.specs.contracts.nodes.Nodes as nodes
use Rattle.ebs_lineage.specs.contracts.own.Own as own
use Rattle.ebs_policies.specs.contracts.policies.Policies as policies
use Rattle.ebs_records.specs.contracts.record.Record as journaled
use Rattle.ebs_slots.specs.contracts.slots.Slots as block_slots
use Rattle.ebs_desk.proofs.SendingRows.{slots_send, numbered_slots_send, account_send, key_number_send, text_send, snap_row_send, vol_row_send, token_row_send, request_send, rule_send, policy_send}

rules_send : IsSend rules.the_field.row
rules_send = search (sendable, crosses, account_send, rule_send, numbered_slots_send) depth 20

policies_send : IsSend policies.the_field.row
policies_send = search (sendable, crosses, account_send, key_number_send, policy_send, slots_send) depth 20

catalog_send : IsSend catalog.the_field.row
catalog_send = search (sendable, crosses, slots_send, account_send, key_number_send, text_send, snap_row_send, numbered_slots_send, vol_row_send, token_row_send, rules_send, policies_send) depth 20

own_send : IsSend own.the_field.row
own_send = search (sendable, crosses, maps) depth 20

nodes_send : IsSend nodes.the_field.row
nodes_send = search (sendable, crosses, maps, own_send) depth 20

link_send : IsSend link.the_field.row
link_send = search (sendable, crosses) depth 20

kin_send : IsSend kin.the_field.row
kin_send = search (sendable, crosses, maps, link_send) depth 20

hiders_send : IsSend hiders.the_field.row
hiders_send = search (sendable, crosses, maps) depth 20

lineage_send : IsSend lineage.the_field.row
lineage_send = search (sendable, crosses, nodes_send, kin_send, hiders_send) depth 20

backlog_send : IsSend backlog.the_field.row
backlog_send = search (sendable, crosses) depth 20

holdings_send : IsSend holdings.the_field.row
holdings_send = search (sendable, crosses, lineage_send, backlog_send, slots_send, account_send, key_number_send) depth 20

kept_send : IsSend kept.the_field.row
kept_send = search (sendable, crosses, catalog_send, holdings_send) depth 20

block_slots_send : IsSend block_slots.the_field.row
block_slots_send = search (sendable, crosses, maps) depth 30

journal_send : IsSend journal.the_field.row
journal_send = search (sendable, crosses) depth 20

journaled_send : IsSend journaled.the_field.row
journaled_send = search (sendable, account_send, key_number_send, request_send) depth 20

pub store_send : (S : RattleType) (g : Ghosts S.Denot) → IsSend (store.the_field S g).row
store_send S g = search (sendable, crosses, kept_send, block_slots_send, journal_send, journaled_send) depth 20
