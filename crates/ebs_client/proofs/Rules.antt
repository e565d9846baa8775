-- Rules: bodies of many members.
use Rattle.std.proofs.Common.{◌≡◌, ℕ, true, List, [], ◌∷◌, refl, ◌∙◌, codes, IsUtf8, IfSome}
use Rattle.std.specs.declared.option.Option.{Option}
use Rattle.std.specs.declared.option.Option.TheVariants.{None, Some}
use Rattle.std.specs.declared.result.Result.TheVariants.{Ok}
use Rattle.json.specs.Json as json
use Rattle.serde_json.specs.Data.{Members, no_members, put, string, object}
use Rattle.ebs_model.specs.declared.rules.RuleTag.{RuleTag}
use Rattle.ebs_model.specs.declared.keys.RuleKey.{RuleKey}
use Rattle.ebs_model.specs.declared.request.Request.TheVariants.{CreateRule, UpdateRule, LockRule}
use Rattle.ebs_model.specs.Limits.{is_description, is_retention_given, are_rule_tags_given, is_first_delay}
use Rattle.ebs_members.specs.declared.rules.Period.TheVariants.{Retention, UnlockDelay}
use Rattle.ebs_members.specs.Sources.{in_body, body_of, Members as Sources, required, optional, refuse_unless}
use Rattle.ebs_members.specs.Kinds as kind
use Rattle.ebs_rest.specs.Calls as call
use Rattle.ebs_client.specs.Bodies.{text_of, if_any, retention, delayed, rule_tags, rule_created, rule_updated, rule_locked}
use Rattle.ebs_client.specs.Reach.{AllHaveRuleTexts}
use Rattle.ebs_client.proofs.RuleTags.{IsRetention, retention_short, retention_data, retention_read, retention_said, IsDelay, delay_short, delay_data, delay_read, delay_said, rule_tags_short, AreRuleTags, rule_tags_array, rule_tags_read, rule_tags_said}
use Rattle.ebs_client.proofs.Texts.{plain_text}
use Rattle.ebs_client.proofs.Objects as object_of
use Rattle.ebs_client.proofs.Objects.{put_any, at, past, at_any, past_any}
use Rattle.ebs_client.proofs.Lines as line

-- a rule that is made
abbrev of_period : ℕ → Members
of_period days = put (codes "RetentionPeriod") (retention_data days) no_members

abbrev of_type : ℕ → Members
of_type days = put (codes "ResourceType") (string (codes "EBS_SNAPSHOT")) (of_period days)

abbrev of_tags : ℕ → List RuleTag → Members
of_tags days ts = put (codes "ResourceTags") (rule_tags_array ts) (of_type days)

abbrev of_description : ℕ → List RuleTag → Option (List ℕ) → Members
of_description days ts description = put_any (codes "Description") string description (of_tags days ts)

abbrev pub rule_data : ℕ → List RuleTag → Option (List ℕ) → Option ℕ → Members
rule_data days ts description delay = put_any (codes "LockConfiguration") delay_data delay (of_description days ts description)

pub first_delay : (ts : List RuleTag) (delay : Option ℕ) → is_first_delay ts delay ≡ true → IfSome delay IsDelay
first_delay ts None h = tt
first_delay [] (Some delay) h = h
first_delay (t ∷ ts) (Some delay) h = cc

pub rule_body : (days : ℕ) (ts : List RuleTag) (description : Option (List ℕ)) (delay : Option ℕ) → IsRetention days → AllHaveRuleTexts ts → IfSome description IsUtf8 → IfSome delay IsDelay
    → body_of (text_of (rule_created days ts description delay)) ≡ Some (object (rule_data days ts description delay))
rule_body days ts description delay lasts texts text waits =
    let locked = if_any (codes "LockConfiguration") delayed delay json.no_members in
    let told = if_any (codes "Description") json.string description locked in
    let tagged = json.member (codes "ResourceTags") (json.array (rule_tags ts)) told in
    let typed = json.member (codes "ResourceType") (json.string (codes "EBS_SNAPSHOT")) tagged in
    let fine_locked = object_of.fine_if IsDelay (codes "LockConfiguration") delayed delay json.no_members refl delay_short waits object_of.fine_none in
    let fine_told = object_of.fine_if_text (codes "Description") description locked refl text fine_locked in
    let fine_tagged = object_of.fine_member (codes "ResourceTags") (json.array (rule_tags ts)) told refl (rule_tags_short ts texts) fine_told in
    let fine_typed = object_of.fine_text (codes "ResourceType") (codes "EBS_SNAPSHOT") tagged refl (plain_text (codes "EBS_SNAPSHOT") refl) fine_tagged in
    object_of.whole_body (json.member (codes "RetentionPeriod") (retention days) typed) (rule_data days ts description delay) (object_of.fine_member (codes "RetentionPeriod") (retention days) typed refl (retention_short days lasts) fine_typed)
    (object_of.read_member (codes "RetentionPeriod") (retention days) (retention_data days) typed no_members (retention_read days lasts)
    ∙ object_of.read_member (codes "ResourceType") (json.string (codes "EBS_SNAPSHOT")) (string (codes "EBS_SNAPSHOT")) tagged (of_period days) refl
    ∙ object_of.read_member (codes "ResourceTags") (json.array (rule_tags ts)) (rule_tags_array ts) told (of_type days) (rule_tags_read ts)
    ∙ object_of.read_if_text (codes "Description") description locked (of_tags days ts)
    ∙ object_of.read_if IsDelay (codes "LockConfiguration") delayed delay_data delay json.no_members (of_description days ts description) delay_read waits)

made_read : (body : Sources) (days : ℕ) (ts : List RuleTag) (description : Option (List ℕ)) (delay : Option ℕ) → required body (codes "RetentionPeriod") (kind.period Retention) ≡ Ok days
    → required body (codes "ResourceType") (kind.exactly (codes "EBS_SNAPSHOT")) ≡ Ok tt → optional body (codes "ResourceTags") kind.rule_tags ≡ Ok (Some ts) → optional body (codes "Description") kind.description ≡ Ok description
    → optional body (codes "LockConfiguration") (kind.period UnlockDelay) ≡ Ok delay → refuse_unless (is_first_delay ts delay) (codes "LockConfiguration") ≡ Ok tt → call.rule_of body ≡ Ok (CreateRule days ts description delay)
made_read body days ts description delay e f g h i j = rw (e, f, g, h, i, j) refl

pub rule_read : (days : ℕ) (ts : List RuleTag) (description : Option (List ℕ)) (delay : Option ℕ) → IsRetention days → AreRuleTags ts → IfSome description IsUtf8 → is_description description ≡ true → is_first_delay ts delay ≡ true
    → call.rule_of (in_body (object (rule_data days ts description delay))) ≡ Ok (CreateRule days ts description delay)
rule_read days ts description delay lasts good text short first =
    let ms = rule_data days ts description delay in
    let told = of_description days ts description in
    let tagged = of_tags days ts in
    let typed = of_type days in
    made_read (in_body (object ms)) days ts description delay
    (object_of.required_member ms (codes "RetentionPeriod") (kind.period Retention) (retention_data days) days refl (retention_said days lasts)
    (past_any (codes "RetentionPeriod") (codes "LockConfiguration") delay_data delay told _ refl (past_any (codes "RetentionPeriod") (codes "Description") string description tagged _ refl
    (past (codes "RetentionPeriod") (codes "ResourceTags") (rule_tags_array ts) typed _ refl (past (codes "RetentionPeriod") (codes "ResourceType") (string (codes "EBS_SNAPSHOT")) (of_period days) _ refl
    (at (codes "RetentionPeriod") (retention_data days) no_members))))))
    (object_of.required_member ms (codes "ResourceType") (kind.exactly (codes "EBS_SNAPSHOT")) (string (codes "EBS_SNAPSHOT")) tt refl refl
    (past_any (codes "ResourceType") (codes "LockConfiguration") delay_data delay told _ refl (past_any (codes "ResourceType") (codes "Description") string description tagged _ refl
    (past (codes "ResourceType") (codes "ResourceTags") (rule_tags_array ts) typed _ refl (at (codes "ResourceType") (string (codes "EBS_SNAPSHOT")) (of_period days))))))
    (object_of.optional_member AreRuleTags ms (codes "ResourceTags") kind.rule_tags rule_tags_array (Some ts) (λ ts. refl) rule_tags_said good
    (past_any (codes "ResourceTags") (codes "LockConfiguration") delay_data delay told _ refl (past_any (codes "ResourceTags") (codes "Description") string description tagged _ refl
    (at (codes "ResourceTags") (rule_tags_array ts) typed))))
    (object_of.description_member ms (codes "Description") description text short (past_any (codes "Description") (codes "LockConfiguration") delay_data delay told _ refl (at_any (codes "Description") string description tagged
    (past (codes "Description") (codes "ResourceTags") (rule_tags_array ts) typed _ refl (past (codes "Description") (codes "ResourceType") (string (codes "EBS_SNAPSHOT")) (of_period days) _ refl
    (past (codes "Description") (codes "RetentionPeriod") (retention_data days) no_members _ refl refl))))))
    (object_of.optional_member IsDelay ms (codes "LockConfiguration") (kind.period UnlockDelay) delay_data delay (λ days. refl) delay_said (first_delay ts delay first)
    (at_any (codes "LockConfiguration") delay_data delay told (past_any (codes "LockConfiguration") (codes "Description") string description tagged _ refl
    (past (codes "LockConfiguration") (codes "ResourceTags") (rule_tags_array ts) typed _ refl (past (codes "LockConfiguration") (codes "ResourceType") (string (codes "EBS_SNAPSHOT")) (of_period days) _ refl
    (past (codes "LockConfiguration") (codes "RetentionPeriod") (retention_data days) no_members _ refl refl))))))
    (line.passes (is_first_delay ts delay) (codes "LockConfiguration") first)

-- what a rule is changed to
abbrev of_new_period : Option ℕ → Members
of_new_period days = put_any (codes "RetentionPeriod") retention_data days no_members

abbrev of_new_tags : Option ℕ → Option (List RuleTag) → Members
of_new_tags days ts = put_any (codes "ResourceTags") rule_tags_array ts (of_new_period days)

abbrev pub update_data : Option ℕ → Option (List RuleTag) → Option (List ℕ) → Members
update_data days ts description = put_any (codes "Description") string description (of_new_tags days ts)

pub some_retention : (days : Option ℕ) → is_retention_given days ≡ true → IfSome days IsRetention
some_retention None h = tt
some_retention (Some days) h = h

pub some_rule_tags : (ts : Option (List RuleTag)) → are_rule_tags_given ts ≡ true → IfSome ts AreRuleTags
some_rule_tags None h = tt
some_rule_tags (Some ts) h = h

abbrev tags_json : List RuleTag → json.Json
tags_json ts = json.array (rule_tags ts)

pub update_body : (days : Option ℕ) (ts : Option (List RuleTag)) (description : Option (List ℕ)) → IfSome days IsRetention → IfSome ts AllHaveRuleTexts → IfSome description IsUtf8
    → body_of (text_of (rule_updated days ts description)) ≡ Some (object (update_data days ts description))
update_body days ts description lasts texts text =
    let told = if_any (codes "Description") json.string description json.no_members in
    let tagged = if_any (codes "ResourceTags") tags_json ts told in
    let fine_told = object_of.fine_if_text (codes "Description") description json.no_members refl text object_of.fine_none in
    let fine_tagged = object_of.fine_if AllHaveRuleTexts (codes "ResourceTags") tags_json ts told refl rule_tags_short texts fine_told in
    object_of.whole_body (if_any (codes "RetentionPeriod") retention days tagged) (update_data days ts description) (object_of.fine_if IsRetention (codes "RetentionPeriod") retention days tagged refl retention_short lasts fine_tagged)
    (object_of.read_if IsRetention (codes "RetentionPeriod") retention retention_data days tagged no_members retention_read lasts
    ∙ object_of.read_if AllHaveRuleTexts (codes "ResourceTags") tags_json rule_tags_array ts told (of_new_period days) (λ ts given. rule_tags_read ts) texts
    ∙ object_of.read_if_text (codes "Description") description json.no_members (of_new_tags days ts))

changed_read : (body : Sources) (key : RuleKey) (days : Option ℕ) (ts : Option (List RuleTag)) (description : Option (List ℕ)) → optional body (codes "RetentionPeriod") (kind.period Retention) ≡ Ok days
    → optional body (codes "ResourceTags") kind.rule_tags ≡ Ok ts → optional body (codes "Description") kind.description ≡ Ok description → call.update_of key body ≡ Ok (UpdateRule key days ts description)
changed_read body key days ts description e f g = rw (e, f, g) refl

pub update_read : (key : RuleKey) (days : Option ℕ) (ts : Option (List RuleTag)) (description : Option (List ℕ)) → IfSome days IsRetention → IfSome ts AreRuleTags → IfSome description IsUtf8 → is_description description ≡ true
    → call.update_of key (in_body (object (update_data days ts description))) ≡ Ok (UpdateRule key days ts description)
update_read key days ts description lasts good text short =
    let ms = update_data days ts description in
    let tagged = of_new_tags days ts in
    let period = of_new_period days in
    changed_read (in_body (object ms)) key days ts description
    (object_of.optional_member IsRetention ms (codes "RetentionPeriod") (kind.period Retention) retention_data days (λ days. refl) retention_said lasts
    (past_any (codes "RetentionPeriod") (codes "Description") string description tagged _ refl (past_any (codes "RetentionPeriod") (codes "ResourceTags") rule_tags_array ts period _ refl
    (at_any (codes "RetentionPeriod") retention_data days no_members refl))))
    (object_of.optional_member AreRuleTags ms (codes "ResourceTags") kind.rule_tags rule_tags_array ts (λ ts. refl) rule_tags_said good
    (past_any (codes "ResourceTags") (codes "Description") string description tagged _ refl (at_any (codes "ResourceTags") rule_tags_array ts period
    (past_any (codes "ResourceTags") (codes "RetentionPeriod") retention_data days no_members _ refl refl))))
    (object_of.description_member ms (codes "Description") description text short (at_any (codes "Description") string description tagged
    (past_any (codes "Description") (codes "ResourceTags") rule_tags_array ts period _ refl (past_any (codes "Description") (codes "RetentionPeriod") retention_data days no_members _ refl refl))))

-- the lock of a rule
abbrev pub lock_data : ℕ → Members
lock_data delay = put (codes "LockConfiguration") (delay_data delay) no_members

pub lock_body : (delay : ℕ) → IsDelay delay → body_of (text_of (rule_locked delay)) ≡ Some (object (lock_data delay))
lock_body delay h =
    object_of.whole_body (json.member (codes "LockConfiguration") (delayed delay) json.no_members) (lock_data delay)
    (object_of.fine_member (codes "LockConfiguration") (delayed delay) json.no_members refl (delay_short delay h) object_of.fine_none)
    (object_of.read_member (codes "LockConfiguration") (delayed delay) (delay_data delay) json.no_members no_members (delay_read delay h))

locked_read : (body : Sources) (key : RuleKey) (delay : ℕ) → required body (codes "LockConfiguration") (kind.period UnlockDelay) ≡ Ok delay → call.lock_rule_of key body ≡ Ok (LockRule key delay)
locked_read body key delay e = rw e refl

pub lock_read : (key : RuleKey) (delay : ℕ) → IsDelay delay → call.lock_rule_of key (in_body (object (lock_data delay))) ≡ Ok (LockRule key delay)
lock_read key delay h =
    locked_read (in_body (object (lock_data delay))) key delay
    (object_of.required_member (lock_data delay) (codes "LockConfiguration") (kind.period UnlockDelay) (delay_data delay) delay refl (delay_said delay h) (at (codes "LockConfiguration") (delay_data delay) no_members))
