-- The calls on rules and the bin: each message's call is the request that it was made of.
use Rattle.std.proofs.Common.{◌≡◌, ℕ, ◌<◌, ◌^◌, List, [], ◌++◌, refl, ap, ◌∙◌, codes, IfSome, IsUtf8}
use Rattle.std.specs.declared.option.Option.{Option}
use Rattle.std.specs.declared.option.Option.TheVariants.{None}
use Rattle.serde_json.specs.Data.{object}
use Rattle.ebs_model.specs.declared.keys.SnapKey.{SnapKey}
use Rattle.ebs_model.specs.declared.keys.RuleKey.{RuleKey}
use Rattle.ebs_model.specs.declared.rules.RuleTag.{RuleTag}
use Rattle.ebs_model.specs.declared.request.Request.TheVariants.{CreateRule, GetRule, UpdateRule, DeleteRule, ListRules, LockRule, UnlockRule, ListBin, RestoreFromBin}
use Rattle.ebs_model.specs.Ids.{snap_id}
use Rattle.ebs_model.specs.Limits.{bad_member, is_retention, is_retention_given, are_rule_tags, are_rule_tags_given, is_description, is_first_delay, is_delay}
use Rattle.ebs_members.specs.Sources.{required, in_path, in_query, in_body}
use Rattle.ebs_members.specs.Kinds as kind
use Rattle.ebs_rest.specs.declared.table.Operation.TheVariants as operation
use Rattle.ebs_rest.specs.Calls as call
use Rattle.ebs_client.specs.Messages.{asking, rule, rows, with_query}
use Rattle.ebs_client.specs.Bodies.{text_of, rule_created, rule_updated, rule_locked}
use Rattle.ebs_client.specs.Reach.{IsSnapshot, IsRule, AllHaveRuleTexts}
use Rattle.ebs_client.proofs.Pieces.{piece_in_path}
use Rattle.ebs_client.proofs.Texts.{path_alone}
use Rattle.ebs_client.proofs.Rules.{rule_data, first_delay, rule_body, rule_read, some_retention, some_rule_tags, update_data, update_body, update_read, lock_data, lock_body, lock_read}
use Rattle.ebs_client.proofs.Asked.{Answers, by_path, by_query, asked_pairs, unless_passes, have_rows, rows_texts, rows_from, rows_most}
use Rattle.ebs_client.proofs.Lines as line
use Rattle.ebs_client.proofs.Paths as path

pub creates : (account days : ℕ) (ts : List RuleTag) (description : Option (List ℕ)) (delay : Option ℕ) → account < 10 ^ 12 → bad_member (CreateRule days ts description delay) ≡ None → AllHaveRuleTexts ts → IfSome description IsUtf8
    → Answers (asking account (codes "POST") (codes "/rules") [] (text_of (rule_created days ts description delay))) account (CreateRule days ts description delay)
creates account days ts description delay small good texts text =
    let first = unless_passes (is_retention days) (codes "RetentionPeriod") _ good in
    let second = unless_passes (are_rule_tags ts) (codes "ResourceTags") _ first.1 in
    let third = unless_passes (is_description description) (codes "Description") _ second.1 in
    let fourth = unless_passes (is_first_delay ts delay) (codes "LockConfiguration") None third.1 in
    let bytes = text_of (rule_created days ts description delay) in
    let request = CreateRule days ts description delay in
    by_path account (codes "POST") (codes "/rules") (codes "/rules") [] bytes operation.CreateRule request small refl path.rules_route refl
    (line.body_alone bytes (λ body. call.rule_of (in_body body)) (object (rule_data days ts description delay)) request
    (rule_body days ts description delay first.0 texts text (first_delay ts delay fourth.0)) (rule_read days ts description delay first.0 second.0 text third.0 fourth.0))

pub gets : (account : ℕ) (key : RuleKey) → account < 10 ^ 12 → IsRule key → Answers (asking account (codes "GET") (rule key) [] []) account (GetRule key)
gets account key small is =
    let plain = path.rule_bytes key is in
    let source = in_path (codes "/rules/{identifier}") (rule key) in
    by_path account (codes "GET") (rule key) (codes "/rules/{identifier}") [] [] operation.GetRule (GetRule key) small plain (path.rule_route key is) refl
    (ap (λ p. call.get_rule (in_path (codes "/rules/{identifier}") p)) (path_alone (rule key) plain)
    ∙ line.get_rule_read source key (line.rule_there source (codes "identifier") key is (path.rule_key key is)))

pub deletes : (account : ℕ) (key : RuleKey) → account < 10 ^ 12 → IsRule key → Answers (asking account (codes "DELETE") (rule key) [] []) account (DeleteRule key)
deletes account key small is =
    let plain = path.rule_bytes key is in
    let source = in_path (codes "/rules/{identifier}") (rule key) in
    by_path account (codes "DELETE") (rule key) (codes "/rules/{identifier}") [] [] operation.DeleteRule (DeleteRule key) small plain (path.rule_route key is) refl
    (ap (λ p. call.delete_rule (in_path (codes "/rules/{identifier}") p)) (path_alone (rule key) plain)
    ∙ line.delete_rule_read source key (line.rule_there source (codes "identifier") key is (path.rule_key key is)))

pub unlocks : (account : ℕ) (key : RuleKey) → account < 10 ^ 12 → IsRule key → Answers (asking account (codes "PATCH") (rule key ++ codes "/unlock") [] []) account (UnlockRule key)
unlocks account key small is =
    let target = rule key ++ codes "/unlock" in
    let route = codes "/rules/{identifier}/unlock" in
    let plain = path.longer_bytes (rule key) (codes "/unlock") (path.rule_bytes key is) refl in
    let source = in_path route target in
    by_path account (codes "PATCH") target route [] [] operation.UnlockRule (UnlockRule key) small plain (path.rule_unlock_route key is) refl
    (ap (λ p. call.unlock_rule (in_path route p)) (path_alone target plain)
    ∙ line.unlock_rule_read source key (line.rule_there source (codes "identifier") key is (path.rule_unlock_key key is)))

pub updates : (account : ℕ) (key : RuleKey) (days : Option ℕ) (ts : Option (List RuleTag)) (description : Option (List ℕ)) → account < 10 ^ 12 → bad_member (UpdateRule key days ts description) ≡ None → IsRule key
    → IfSome ts AllHaveRuleTexts → IfSome description IsUtf8 → Answers (asking account (codes "PATCH") (rule key) [] (text_of (rule_updated days ts description))) account (UpdateRule key days ts description)
updates account key days ts description small good is texts text =
    let first = unless_passes (is_retention_given days) (codes "RetentionPeriod") _ good in
    let second = unless_passes (are_rule_tags_given ts) (codes "ResourceTags") _ first.1 in
    let third = unless_passes (is_description description) (codes "Description") None second.1 in
    let lasts = some_retention days first.0 in
    let plain = path.rule_bytes key is in
    let route = codes "/rules/{identifier}" in
    let source = in_path route (rule key) in
    let bytes = text_of (rule_updated days ts description) in
    let request = UpdateRule key days ts description in
    by_path account (codes "PATCH") (rule key) route [] bytes operation.UpdateRule request small plain (path.rule_route key is) refl
    (ap (λ p. call.update_rule (in_path route p) bytes) (path_alone (rule key) plain)
    ∙ line.object_read (required source (codes "identifier") kind.rule) bytes call.update_of key (object (update_data days ts description)) request
    (line.rule_there source (codes "identifier") key is (path.rule_key key is)) (update_body days ts description lasts texts text)
    (update_read key days ts description lasts (some_rule_tags ts second.0) text third.0))

pub locks : (account : ℕ) (key : RuleKey) (delay : ℕ) → account < 10 ^ 12 → bad_member (LockRule key delay) ≡ None → IsRule key → Answers (asking account (codes "PATCH") (rule key ++ codes "/lock") [] (text_of (rule_locked delay))) account (LockRule key delay)
locks account key delay small good is =
    let waits = unless_passes (is_delay delay) (codes "LockConfiguration") None good in
    let target = rule key ++ codes "/lock" in
    let route = codes "/rules/{identifier}/lock" in
    let plain = path.longer_bytes (rule key) (codes "/lock") (path.rule_bytes key is) refl in
    let source = in_path route target in
    let bytes = text_of (rule_locked delay) in
    by_path account (codes "PATCH") target route [] bytes operation.LockRule (LockRule key delay) small plain (path.rule_lock_route key is) refl
    (ap (λ p. call.lock_rule (in_path route p) bytes) (path_alone target plain)
    ∙ line.object_read (required source (codes "identifier") kind.rule) bytes call.lock_rule_of key (object (lock_data delay)) (LockRule key delay)
    (line.rule_there source (codes "identifier") key is (path.rule_lock_key key is)) (lock_body delay waits.0) (lock_read key delay waits.0))

pub lists : (account : ℕ) → account < 10 ^ 12 → Answers (asking account (codes "POST") (codes "/list-rules") [] []) account ListRules
lists account small = by_path account (codes "POST") (codes "/list-rules") (codes "/list-rules") [] [] operation.ListRules ListRules small refl path.rule_list_route refl refl

pub lists_bin : (account from most : ℕ) → account < 10 ^ 12 → bad_member (ListBin from most) ≡ None → Answers (asking account (codes "GET") (with_query (codes "/recycle-bin") (rows from most)) [] []) account (ListBin from most)
lists_bin account from most small good =
    let fits = have_rows from most good in
    by_query account (codes "GET") (codes "/recycle-bin") (codes "/recycle-bin") (rows from most) operation.ListBin (ListBin from most) small refl path.bin_route refl
    (ap (λ p. call.list_bin (in_query p)) (asked_pairs (codes "/recycle-bin") (rows from most) refl (rows_texts from most fits))
    ∙ line.list_bin_read (in_query (rows from most)) from most (rows_from from most fits) (rows_most from most fits))

pub restores : (account : ℕ) (key : SnapKey) → account < 10 ^ 12 → IsSnapshot key → Answers (asking account (codes "POST") (codes "/recycle-bin/" ++ snap_id key) [] []) account (RestoreFromBin key)
restores account key small is =
    let target = codes "/recycle-bin/" ++ snap_id key in
    let route = codes "/recycle-bin/{snapshotId}" in
    let plain = piece_in_path (snap_id key) (path.snap_id_piece key is) in
    let source = in_path route target in
    by_path account (codes "POST") target route [] [] operation.RestoreFromBin (RestoreFromBin key) small plain (path.binned_route key is) refl
    (ap (λ p. call.restore_from_bin (in_path route p)) (path_alone target plain)
    ∙ line.restore_from_bin_read source key (line.snapshot_there source (codes "snapshotId") key is (path.binned_key key is)))
