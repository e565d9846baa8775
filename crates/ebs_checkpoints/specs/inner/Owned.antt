-- Beside what is promised: accounts with their client tokens, and volumes.
use Rattle.std.proofs.Common.{◌++◌, refl}
use Rattle.ebs_checkpoints.specs.declared.owned.TokenPoint.{TokenPoint}
use Rattle.ebs_checkpoints.specs.declared.owned.AccountRow.{AccountRow}
use Rattle.ebs_checkpoints.specs.declared.owned.VolPoint.{VolPoint}
use Rattle.ebs_records.specs.inner.Apart.{Apart, apart_pair, apart_by}
use Rattle.ebs_records.specs.Fields.{IsWord, IsLong, word, long, optional, IsOptional, IsAccount, IsKeyNumber, IsMoment, moment, IsKey, key, IsVolume, volume, IsText, text, AreMembers, members, IsTag, tag}
use Rattle.ebs_records.specs.inner.Numbers.{apart_word, apart_long}
use Rattle.ebs_records.specs.inner.Choices.{apart_optional}
use Rattle.ebs_records.specs.inner.Keys.{apart_account, apart_number, apart_moment, apart_key, apart_volume}
use Rattle.ebs_records.specs.inner.Lists.{apart_text, apart_members}
use Rattle.ebs_records.specs.inner.Tags.{apart_tag}
use Rattle.ebs_records.specs.Records.{HasSpelling, record_bytes}
use Rattle.ebs_records.specs.inner.Records.{apart_record}
use Rattle.ebs_records.specs.inner.Names.{apart_line}
use Rattle.ebs_records.specs.Names.{IsLine, line}
use Rattle.ebs_checkpoints.specs.Owned.{IsAccountRow, IsToken, IsVolPoint, account_row, token, vol_point}

pub apart_token : Apart IsToken token
apart_token = apart_by {V = TokenPoint} (λ v. (v.text, (v.at, (v.first, v.number)))) (λ p. record { text = p.0; at = p.1.0; first = p.1.1.0; number = p.1.1.1 })
    (λ p. IsText p.0 × (IsMoment p.1.0 × (HasSpelling p.1.1.0 × IsKeyNumber p.1.1.1))) (λ p. text p.0 ++ (moment p.1.0 ++ (record_bytes p.1.1.0 ++ word p.1.1.1))) (λ v. refl)
    (apart_pair IsText text _ _ apart_text (apart_pair IsMoment moment _ _ apart_moment (apart_pair HasSpelling record_bytes IsKeyNumber word apart_record apart_number)))

apart_tokens : Apart (AreMembers IsToken) (members token)
apart_tokens = apart_members IsToken token apart_token

pub apart_account_row : Apart IsAccountRow account_row
apart_account_row = apart_by {V = AccountRow} (λ v. (v.account, (v.next_snap, (v.next_vol, (v.next_rule, (v.next_policy, v.tokens)))))) (λ p. record { account = p.0; next_snap = p.1.0; next_vol = p.1.1.0; next_rule = p.1.1.1.0; next_policy = p.1.1.1.1.0; tokens = p.1.1.1.1.1 })
    (λ p. IsAccount p.0 × (IsWord p.1.0 × (IsWord p.1.1.0 × (IsWord p.1.1.1.0 × (IsWord p.1.1.1.1.0 × AreMembers IsToken p.1.1.1.1.1))))) (λ p. long p.0 ++ (word p.1.0 ++ (word p.1.1.0 ++ (word p.1.1.1.0 ++ (word p.1.1.1.1.0 ++ members token p.1.1.1.1.1))))) (λ v. refl)
    (apart_pair IsAccount long _ _ apart_account (apart_pair IsWord word _ _ apart_word (apart_pair IsWord word _ _ apart_word (apart_pair IsWord word _ _ apart_word (apart_pair IsWord word (AreMembers IsToken) (members token) apart_word apart_tokens)))))

apart_origin : Apart (IsOptional IsKey) (optional key)
apart_origin = apart_optional IsKey key apart_key

apart_tags : Apart (AreMembers IsTag) (members tag)
apart_tags = apart_members IsTag tag apart_tag

pub apart_vol_point : Apart IsVolPoint vol_point
apart_vol_point = apart_by {V = VolPoint} (λ v. (v.row.key, (v.row.size, (v.row.line, (v.row.origin, (v.row.tags, v.node)))))) (λ p. record { row = record { key = p.0; size = p.1.0; line = p.1.1.0; origin = p.1.1.1.0; tags = p.1.1.1.1.0 }; node = p.1.1.1.1.1 })
    (λ p. IsVolume p.0 × (IsWord p.1.0 × (IsLine p.1.1.0 × (IsOptional IsKey p.1.1.1.0 × (AreMembers IsTag p.1.1.1.1.0 × IsLong p.1.1.1.1.1))))) (λ p. volume p.0 ++ (word p.1.0 ++ (line p.1.1.0 ++ (optional key p.1.1.1.0 ++ (members tag p.1.1.1.1.0 ++ long p.1.1.1.1.1))))) (λ v. refl)
    (apart_pair IsVolume volume _ _ apart_volume (apart_pair IsWord word _ _ apart_word (apart_pair IsLine line _ _ apart_line (apart_pair (IsOptional IsKey) (optional key) _ _ apart_origin (apart_pair (AreMembers IsTag) (members tag) IsLong long apart_tags apart_long)))))
