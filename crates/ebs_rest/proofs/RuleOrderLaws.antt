-- The first bad member of a call on rules or the bin is named, and others change nothing.
use Rattle.std.proofs.Common.{◌≡◌, ℕ, true, false, List, [], ◌∷◌, codes, Option, Some, None, is_some, refl}
use Rattle.std.specs.Prelude.{Bool}
use Rattle.std.specs.Option.{option_and_then, unwrap_or}
use Rattle.std.specs.declared.result.Result.TheVariants.{Ok}
use Rattle.ebs_model.specs.declared.keys.RuleKey.{RuleKey}
use Rattle.ebs_model.specs.declared.rules.RuleTag.{RuleTag}
use Rattle.ebs_model.specs.declared.request.Request.{Request}
use Rattle.ebs_model.specs.declared.request.Request.TheVariants.{CreateRule, GetRule, UpdateRule, DeleteRule, LockRule, UnlockRule, ListBin, RestoreFromBin}
use Rattle.ebs_model.specs.Limits.{is_first_delay}
use Rattle.ebs_model.specs.Refuse.{◌>>=◌, ◌>>◌}
use Rattle.serde_json.specs.Data.{Data}
use Rattle.ebs_members.specs.declared.rules.Period.TheVariants.{Retention, UnlockDelay}
use Rattle.ebs_members.specs.Sources.{need, refuse_unless, in_body, body_of, if_any}
use Rattle.ebs_members.specs.Kinds as kind
use Rattle.ebs_rest.specs.Calls as call
use Rattle.ebs_rest.specs.inner.Order.{first_bad, refused_for, in_object}
use Rattle.ebs_rest.specs.inner.RuleOrder.{first_delay_member, rule_members, update_members, delay_members, CreateRuleNames, GetRuleNames, UpdateRuleNames, DeleteRuleNames, ListRulesNames, LockRuleNames, UnlockRuleNames, ListBinNames, RestoreFromBinNames, CreateRuleOthers, GetRuleOthers, UpdateRuleOthers, DeleteRuleOthers, LockRuleOthers, UnlockRuleOthers, ListBinOthers, RestoreFromBinOthers}
use Rattle.ebs_rest.proofs.OrderLaws.{key_named, object_named, rows_named}

-- a last test before the request
tested : (holds : Bool) (name : List ℕ) (request : Request)
    → refused_for (refuse_unless holds name >> Ok request) ≡ first_bad ((name, holds) ∷ [])
tested true name request = refl
tested false name request = refl

rule_named : (days : Option ℕ) (kind : Option (Unit {0})) (tags : Option (Option (List RuleTag))) (description : Option (Option (List ℕ))) (delay : Option (Option ℕ))
    → refused_for (need (codes "RetentionPeriod") days >>= λ n. need (codes "ResourceType") kind >> (need (codes "ResourceTags") tags >>= λ t. need (codes "Description") description >>= λ d. need (codes "LockConfiguration") delay >>= λ l. refuse_unless (is_first_delay (unwrap_or t []) l) (codes "LockConfiguration") >> Ok (CreateRule n (unwrap_or t []) d l)))
    ≡ first_bad ((codes "RetentionPeriod", is_some days) ∷ (codes "ResourceType", is_some kind) ∷ (codes "ResourceTags", is_some tags) ∷ (codes "Description", is_some description) ∷ (codes "LockConfiguration", is_some delay) ∷ first_delay_member tags delay)
rule_named None kind tags description delay = refl
rule_named (Some n) None tags description delay = refl
rule_named (Some n) (Some k) None description delay = refl
rule_named (Some n) (Some k) (Some t) None delay = refl
rule_named (Some n) (Some k) (Some t) (Some d) None = refl
rule_named (Some n) (Some k) (Some t) (Some d) (Some l) = tested (is_first_delay (unwrap_or t []) l) (codes "LockConfiguration") (CreateRule n (unwrap_or t []) d l)

created_named : (body : Option Data)
    → refused_for (need (codes "body") body >>= λ b. call.rule_of (in_body b)) ≡ first_bad ((codes "body", is_some body) ∷ in_object rule_members body)
created_named None = refl
created_named (Some b) =
    rule_named (option_and_then (kind.period Retention) (in_body b (codes "RetentionPeriod"))) (option_and_then (kind.exactly (codes "EBS_SNAPSHOT")) (in_body b (codes "ResourceType")))
    (if_any kind.rule_tags (in_body b (codes "ResourceTags"))) (if_any kind.description (in_body b (codes "Description"))) (if_any (kind.period UnlockDelay) (in_body b (codes "LockConfiguration")))

pub create_rule_names : CreateRuleNames
create_rule_names bytes = created_named (body_of bytes)

pub get_rule_names : GetRuleNames
get_rule_names path = key_named (codes "identifier") GetRule (option_and_then kind.rule (path (codes "identifier")))

pub delete_rule_names : DeleteRuleNames
delete_rule_names path = key_named (codes "identifier") DeleteRule (option_and_then kind.rule (path (codes "identifier")))

pub unlock_rule_names : UnlockRuleNames
unlock_rule_names path = key_named (codes "identifier") UnlockRule (option_and_then kind.rule (path (codes "identifier")))

pub restore_from_bin_names : RestoreFromBinNames
restore_from_bin_names path = key_named (codes "snapshotId") RestoreFromBin (option_and_then kind.snapshot (path (codes "snapshotId")))

pub list_rules_names : ListRulesNames
list_rules_names = refl

updated_named : (key : RuleKey) (days : Option (Option ℕ)) (tags : Option (Option (List RuleTag))) (description : Option (Option (List ℕ)))
    → refused_for (need (codes "RetentionPeriod") days >>= λ n. need (codes "ResourceTags") tags >>= λ t. need (codes "Description") description >>= λ d. Ok (UpdateRule key n t d))
    ≡ first_bad ((codes "RetentionPeriod", is_some days) ∷ (codes "ResourceTags", is_some tags) ∷ (codes "Description", is_some description) ∷ [])
updated_named key None tags description = refl
updated_named key (Some n) None description = refl
updated_named key (Some n) (Some t) None = refl
updated_named key (Some n) (Some t) (Some d) = refl

pub update_rule_names : UpdateRuleNames
update_rule_names path bytes =
    object_named (codes "identifier") call.update_of update_members
    (λ key body. updated_named key (if_any (kind.period Retention) (body (codes "RetentionPeriod"))) (if_any kind.rule_tags (body (codes "ResourceTags"))) (if_any kind.description (body (codes "Description"))))
    (option_and_then kind.rule (path (codes "identifier"))) (body_of bytes)

pub lock_rule_names : LockRuleNames
lock_rule_names path bytes =
    object_named (codes "identifier") call.lock_rule_of delay_members
    (λ key body. key_named (codes "LockConfiguration") (LockRule key) (option_and_then (kind.period UnlockDelay) (body (codes "LockConfiguration"))))
    (option_and_then kind.rule (path (codes "identifier"))) (body_of bytes)

pub list_bin_names : ListBinNames
list_bin_names query = rows_named ListBin (if_any (kind.number_within 0 268435455) (query (codes "from"))) (if_any (kind.number_within 1 1000) (query (codes "max")))

pub create_rule_others : CreateRuleOthers
create_rule_others body another h = rw (h.0, h.1.0, h.1.1.0, h.1.1.1.0, h.1.1.1.1.0) refl

pub get_rule_others : GetRuleOthers
get_rule_others path other h = rw h.0 refl

pub update_rule_others : UpdateRuleOthers
update_rule_others key body another h = rw (h.0, h.1.0, h.1.1.0) refl

pub delete_rule_others : DeleteRuleOthers
delete_rule_others path other h = rw h.0 refl

pub lock_rule_others : LockRuleOthers
lock_rule_others key body another h = rw h.0 refl

pub unlock_rule_others : UnlockRuleOthers
unlock_rule_others path other h = rw h.0 refl

pub list_bin_others : ListBinOthers
list_bin_others query another h = rw (h.0, h.1.0) refl

pub restore_from_bin_others : RestoreFromBinOthers
restore_from_bin_others path other h = rw h.0 refl
