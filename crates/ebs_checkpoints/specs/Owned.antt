-- Accounts with their client tokens, and volumes.
use Rattle.std.proofs.Common.{ℕ, List, ◌++◌}
use Rattle.ebs_checkpoints.specs.declared.owned.TokenPoint.{TokenPoint}
use Rattle.ebs_checkpoints.specs.declared.owned.AccountRow.{AccountRow}
use Rattle.ebs_checkpoints.specs.declared.owned.VolPoint.{VolPoint}
use Rattle.ebs_records.specs.Fields.{IsWord, IsLong, word, long, optional, IsOptional, IsAccount, IsKeyNumber, IsMoment, moment, IsKey, key, IsVolume, volume, IsText, text, AreMembers, members, IsTag, tag}
use Rattle.ebs_records.specs.Records.{HasSpelling, record_bytes}
use Rattle.ebs_records.specs.Names.{IsLine, line}

-- a client token: its moment, the record of the call that it was first used for, and the number that this made
abbrev pub IsToken : TokenPoint → Type 0
IsToken v = IsText v.text × (IsMoment v.at × (HasSpelling v.first × IsKeyNumber v.number))

abbrev pub token : TokenPoint → List ℕ
token v = text v.text ++ (moment v.at ++ (record_bytes v.first ++ word v.number))

-- an account: its four counters and its tokens
abbrev pub IsAccountRow : AccountRow → Type 0
IsAccountRow v = IsAccount v.account × (IsWord v.next_snap × (IsWord v.next_vol × (IsWord v.next_rule × (IsWord v.next_policy × AreMembers IsToken v.tokens))))

abbrev pub account_row : AccountRow → List ℕ
account_row v = long v.account ++ (word v.next_snap ++ (word v.next_vol ++ (word v.next_rule ++ (word v.next_policy ++ members token v.tokens))))

-- a volume, and the node of its blocks
abbrev pub IsVolPoint : VolPoint → Type 0
IsVolPoint v = IsVolume v.row.key × (IsWord v.row.size × (IsLine v.row.line × (IsOptional IsKey v.row.origin × (AreMembers IsTag v.row.tags × IsLong v.node))))

abbrev pub vol_point : VolPoint → List ℕ
vol_point v = volume v.row.key ++ (word v.row.size ++ (line v.row.line ++ (optional key v.row.origin ++ (members tag v.row.tags ++ long v.node))))
