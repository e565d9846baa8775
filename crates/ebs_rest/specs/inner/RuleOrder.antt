-- The members of the calls on rules and the bin as a table, that the first bad one is the one that is named, and that no other counts.
use Rattle.std.specs.Prelude.{ℕ, List, [], ◌∷◌, codes, Option, Some, ◌≡◌, ◌++◌, None}
use Rattle.std.specs.Option.{unwrap_or}
use Rattle.ebs_model.specs.declared.keys.RuleKey.{RuleKey}
use Rattle.ebs_model.specs.declared.rules.RuleTag.{RuleTag}
use Rattle.ebs_model.specs.Limits.{is_first_delay}
use Rattle.ebs_members.specs.declared.rules.Period.TheVariants.{Retention, UnlockDelay}
use Rattle.ebs_members.specs.Sources.{Members, if_any}
use Rattle.ebs_members.specs.Kinds as kind
use Rattle.ebs_rest.specs.Calls as call
use Rattle.ebs_rest.specs.inner.Order.{Tried, must, may, first_bad, refused_for, object_members, rows_members, describe_members, Agree}

-- a lock beside resource tags is bad
abbrev pub first_delay_member : Option (Option (List RuleTag)) → Option (Option ℕ) → Tried
first_delay_member (Some tags) (Some delay) = (codes "LockConfiguration", is_first_delay (unwrap_or tags []) delay) ∷ []
first_delay_member tags delay = []

abbrev pub rule_members : Members → Tried
rule_members body =
    must body (codes "RetentionPeriod") (kind.period Retention)
    ∷ must body (codes "ResourceType") (kind.exactly (codes "EBS_SNAPSHOT"))
    ∷ may body (codes "ResourceTags") kind.rule_tags
    ∷ may body (codes "Description") kind.description
    ∷ may body (codes "LockConfiguration") (kind.period UnlockDelay)
    ∷ first_delay_member (if_any kind.rule_tags (body (codes "ResourceTags"))) (if_any (kind.period UnlockDelay) (body (codes "LockConfiguration")))

abbrev pub identifier_members : Members → Tried
identifier_members path = must path (codes "identifier") kind.rule ∷ []

abbrev pub update_members : Members → Tried
update_members body =
    may body (codes "RetentionPeriod") (kind.period Retention)
    ∷ may body (codes "ResourceTags") kind.rule_tags
    ∷ may body (codes "Description") kind.description
    ∷ []

abbrev pub delay_members : Members → Tried
delay_members body = must body (codes "LockConfiguration") (kind.period UnlockDelay) ∷ []

-- whatever is bad, the first bad member of the table is named, and a later one never
abbrev pub CreateRuleNames : Type 0
CreateRuleNames = (bytes : List ℕ) → refused_for (call.create_rule bytes) ≡ first_bad (object_members bytes rule_members)

abbrev pub GetRuleNames : Type 0
GetRuleNames = (path : Members) → refused_for (call.get_rule path) ≡ first_bad (identifier_members path)

abbrev pub UpdateRuleNames : Type 0
UpdateRuleNames = (path : Members) (bytes : List ℕ) → refused_for (call.update_rule path bytes) ≡ first_bad (identifier_members path ++ object_members bytes update_members)

abbrev pub DeleteRuleNames : Type 0
DeleteRuleNames = (path : Members) → refused_for (call.delete_rule path) ≡ first_bad (identifier_members path)

abbrev pub ListRulesNames : Type 0
ListRulesNames = refused_for call.list_rules ≡ None

abbrev pub LockRuleNames : Type 0
LockRuleNames = (path : Members) (bytes : List ℕ) → refused_for (call.lock_rule path bytes) ≡ first_bad (identifier_members path ++ object_members bytes delay_members)

abbrev pub UnlockRuleNames : Type 0
UnlockRuleNames = (path : Members) → refused_for (call.unlock_rule path) ≡ first_bad (identifier_members path)

abbrev pub ListBinNames : Type 0
ListBinNames = (query : Members) → refused_for (call.list_bin query) ≡ first_bad (rows_members query)

abbrev pub RestoreFromBinNames : Type 0
RestoreFromBinNames = (path : Members) → refused_for (call.restore_from_bin path) ≡ first_bad (describe_members path)

-- what stands under a name that the table doesn't list changes nothing
abbrev pub CreateRuleOthers : Type 0
CreateRuleOthers = (body another : Members) → Agree (codes "RetentionPeriod" ∷ codes "ResourceType" ∷ codes "ResourceTags" ∷ codes "Description" ∷ codes "LockConfiguration" ∷ []) body another
    → call.rule_of body ≡ call.rule_of another

abbrev pub GetRuleOthers : Type 0
GetRuleOthers = (path other : Members) → Agree (codes "identifier" ∷ []) path other → call.get_rule path ≡ call.get_rule other

abbrev pub UpdateRuleOthers : Type 0
UpdateRuleOthers = (key : RuleKey) (body another : Members) → Agree (codes "RetentionPeriod" ∷ codes "ResourceTags" ∷ codes "Description" ∷ []) body another
    → call.update_of key body ≡ call.update_of key another

abbrev pub DeleteRuleOthers : Type 0
DeleteRuleOthers = (path other : Members) → Agree (codes "identifier" ∷ []) path other → call.delete_rule path ≡ call.delete_rule other

abbrev pub LockRuleOthers : Type 0
LockRuleOthers = (key : RuleKey) (body another : Members) → Agree (codes "LockConfiguration" ∷ []) body another → call.lock_rule_of key body ≡ call.lock_rule_of key another

abbrev pub UnlockRuleOthers : Type 0
UnlockRuleOthers = (path other : Members) → Agree (codes "identifier" ∷ []) path other → call.unlock_rule path ≡ call.unlock_rule other

abbrev pub ListBinOthers : Type 0
ListBinOthers = (query another : Members) → Agree (codes "from" ∷ codes "max" ∷ []) query another → call.list_bin query ≡ call.list_bin another

abbrev pub RestoreFromBinOthers : Type 0
RestoreFromBinOthers = (path other : Members) → Agree (codes "snapshotId" ∷ []) path other → call.restore_from_bin path ≡ call.restore_from_bin other
