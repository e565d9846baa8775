-- Tables may cross threads where what they hold may, and the rows of the machine may.
use denote.RattleType.{RattleType}
use denote.Enum.Declared.{shape}
use denote.Param.Send.{IsSend, sendable, enum_send}
use Rattle.std.proofs.Crossing.{crosses}
use Rattle.std.proofs.MapsCrossing.{crosses as maps}
use Rattle.std.specs.declared.cmp.Ord as ord
use Rattle.std.specs.declared.cmp.PartialEq as eq
use Rattle.std.specs.declared.cmp.PartialOrd as partial
use Rattle.ebs_tables.specs.contracts.numbered.Numbered as numbered
use Rattle.ebs_tables.specs.contracts.numbered_slots.NumberedSlots as numbered_slots
use Rattle.ebs_tables.specs.contracts.sequence.Sequence as sequence
use Rattle.ebs_tables.specs.contracts.slots.Slots as slots
use Rattle.ebs_model.specs.contracts.bytes.Bytes as bytes
use Rattle.ebs_model.specs.contracts.keys.Account as account
use Rattle.ebs_model.specs.contracts.keys.KeyNumber as key_number
use Rattle.ebs_model.specs.contracts.policy.Policy as policy
use Rattle.ebs_model.specs.contracts.request.Request as request
use Rattle.ebs_model.specs.contracts.rows.SnapRow as snap_row
use Rattle.ebs_model.specs.contracts.rows.TokenRow as token_row
use Rattle.ebs_model.specs.contracts.rows.VolRow as vol_row
use Rattle.ebs_model.specs.contracts.rules.Rule as rule
use Rattle.ebs_model.specs.contracts.tags.Tag as tag
use Rattle.ebs_model.specs.contracts.text.Text as text

pub slots_send : (K V : RattleType) (o : ord.Ghosts K.Denot) (e : eq.Ghosts K.Denot) (p : partial.Ghosts K.Denot) → IsSend K → IsSend V → IsSend (slots.the_field K V o e p).row
slots_send K V o e p k v = search (sendable, crosses, maps) depth 20

module _ (V : RattleType) (v : IsSend V) where
  pub sequence_send : IsSend (sequence.the_field V).row
  sequence_send = search (sendable, crosses) depth 20

  pub numbered_send : IsSend (numbered.the_field V).row
  numbered_send = search (sendable, crosses, maps) depth 20

  pub numbered_slots_send : IsSend (numbered_slots.the_field V).row
  numbered_slots_send = search (sendable, crosses, maps) depth 20

pub account_send : IsSend account.the_field.row
account_send = search (sendable, crosses) depth 20

pub key_number_send : IsSend key_number.the_field.row
key_number_send = search (sendable, crosses) depth 20

pub text_send : IsSend text.the_field.row
text_send = search (sendable, crosses) depth 20

pub bytes_send : IsSend bytes.the_field.row
bytes_send = search (sendable, crosses) depth 20

pub tag_send : IsSend tag.the_field.row
tag_send = search (sendable, crosses, text_send) depth 20

pub ruleset leaves = (sendable, crosses, account_send, key_number_send, text_send, bytes_send, sequence_send, tag_send)

pub snap_row_send : IsSend snap_row.the_field.row
snap_row_send = search (leaves, numbered_send) depth 40 fits 5000

pub vol_row_send : IsSend vol_row.the_field.row
vol_row_send = search leaves depth 20

-- a variant at a time, since a search of all of them runs out of steps
pub request_send : IsSend request.the_field.row
request_send = enum_send (shape request.the_type) (search leaves depth 20, (search leaves depth 20, (search leaves depth 20, (search leaves depth 20, (search leaves depth 20, (search leaves depth 20, (search leaves depth 20, (search leaves depth 20, (search leaves depth 20, (search leaves depth 20, (search leaves depth 20, (search leaves depth 20, (search leaves depth 20, (search leaves depth 20, (search leaves depth 20, (search leaves depth 20, (search leaves depth 20, (search leaves depth 20, (search leaves depth 20, (search leaves depth 20, (search leaves depth 20, (search leaves depth 20, (search leaves depth 20, (search leaves depth 20, (search leaves depth 20, (search leaves depth 20, (search leaves depth 20, (search leaves depth 20, (search leaves depth 20, (search leaves depth 20, (search leaves depth 20, (search leaves depth 20, (search leaves depth 20, tt)))))))))))))))))))))))))))))))))

pub token_row_send : IsSend token_row.the_field.row
token_row_send = search (sendable, key_number_send, request_send) depth 20

pub rule_send : IsSend rule.the_field.row
rule_send = search leaves depth 20

pub policy_send : IsSend policy.the_field.row
policy_send = search leaves depth 20
