-- The bodies in JSON.
use Rattle.std.specs.Prelude.{ℕ, ◌/◌, ◌%◌, Bool, true, false, List, [], ◌∷◌, ◌++◌, codes}
use Rattle.std.specs.declared.option.Option.{Option}
use Rattle.std.specs.declared.option.Option.TheVariants.{None, Some}
use Rattle.std.specs.Fmt.{decimal}
use Rattle.json.specs.Json.{Json, boolean, number, string, array, object, Items, no_items, item, Members, no_members, member}
use Rattle.json.specs.Tree.{json_tokens}
use Rattle.json.specs.Print.{print}
use Rattle.ebs_model.specs.Ids.{decimal_of_width, snap_id}
use Rattle.ebs_model.specs.declared.keys.SnapKey.{SnapKey}
use Rattle.ebs_model.specs.declared.tags.Tag.{Tag}
use Rattle.ebs_model.specs.declared.rules.RuleTag.{RuleTag}
use Rattle.ebs_model.specs.declared.policy.Retain.{Retain}
use Rattle.ebs_model.specs.declared.policy.Retain.TheVariants as retain
use Rattle.ebs_model.specs.declared.lock.LockMode.{LockMode}
use Rattle.ebs_model.specs.declared.lock.LockMode.TheVariants.{Governance, Compliance}
use Rattle.ebs_model.specs.declared.lock.Term.{Term}
use Rattle.ebs_model.specs.declared.lock.Term.TheVariants.{Days, Date}

abbrev pub text_of : Json → List ℕ
text_of json = print (json_tokens json)

abbrev pub whole : ℕ → Json
whole n = number (decimal n)

-- a member that may be left out
abbrev pub if_any : {A : Type 0} → List ℕ → (A → Json) → Option A → Members → Members
if_any name says None others = others
if_any name says (Some value) others = member name (says value) others

abbrev pub archived : Json
archived = object (member (codes "StorageTier") (string (codes "archive")) no_members)

-- for good, or for so many days
abbrev pub restored : Option ℕ → Json
restored None = object (member (codes "PermanentRestore") (boolean true) no_members)
restored (Some days) = object (member (codes "TemporaryRestoreDays") (whole days) no_members)

abbrev pub mode_name : LockMode → List ℕ
mode_name Governance = codes "governance"
mode_name Compliance = codes "compliance"

abbrev pub term : Term → Members → Members
term (Days days) others = member (codes "LockDuration") (whole days) others
term (Date date) others = member (codes "ExpirationDate") (whole date.second) others

abbrev pub locked : LockMode → Term → Option ℕ → Json
locked mode lasts cool_hours = object (member (codes "LockMode") (string (mode_name mode)) (term lasts (if_any (codes "CoolOffPeriod") whole cool_hours no_members)))

abbrev pub tag : Tag → Json
tag t = object (member (codes "Key") (string t.key) (member (codes "Value") (string t.value) no_members))

abbrev pub tags : List Tag → Items
tags [] = no_items
tags (t ∷ ts) = item (tag t) (tags ts)

-- a snapshot of a volume
abbrev pub described : Option (List ℕ) → List Tag → Json
described description ts = object (if_any (codes "Description") string description (member (codes "Tags") (array (tags ts)) no_members))

-- a volume, empty or of a snapshot
abbrev pub created : Option SnapKey → Option ℕ → List Tag → Option (List ℕ) → Json
created origin size ts token =
    object (if_any (codes "SnapshotId") (λ key. string (snap_id key)) origin
    (if_any (codes "Size") whole size (member (codes "Tags") (array (tags ts)) (if_any (codes "ClientToken") string token no_members))))

-- an upload
abbrev pub started : ℕ → Option SnapKey → Option (List ℕ) → List Tag → Option (List ℕ) → ℕ → Json
started size parent description ts token timeout =
    object (member (codes "VolumeSize") (whole size)
    (if_any (codes "ParentSnapshotId") (λ key. string (snap_id key)) parent
    (if_any (codes "Description") string description
    (member (codes "Tags") (array (tags ts)) (if_any (codes "ClientToken") string token (member (codes "Timeout") (whole timeout) no_members))))))

abbrev pub accounts : List ℕ → Items
accounts [] = no_items
accounts (account ∷ others) = item (string (decimal_of_width 12 account)) (accounts others)

-- everybody, or these accounts
abbrev pub choice : List ℕ → Bool → Json
choice chosen true = string (codes "all")
choice chosen false = array (accounts chosen)

-- with whom a snapshot is shared from now on, and with whom no longer
abbrev pub shared : List ℕ → Bool → List ℕ → Bool → Json
shared add add_all remove remove_all = object (member (codes "Add") (choice add add_all) (member (codes "Remove") (choice remove remove_all) no_members))

-- so many days, with their unit
abbrev pub days_of : List ℕ → List ℕ → ℕ → Json
days_of value unit days = object (member value (whole days) (member unit (string (codes "DAYS")) no_members))

-- how long a snapshot stays in the bin
abbrev pub retention : ℕ → Json
retention days = days_of (codes "RetentionPeriodValue") (codes "RetentionPeriodUnit") days

-- how long the unlock of a rule waits
abbrev pub delayed : ℕ → Json
delayed days = object (member (codes "UnlockDelay") (days_of (codes "UnlockDelayValue") (codes "UnlockDelayUnit") days) no_members)

-- without a value it asks for any value of its key
abbrev pub rule_tag : RuleTag → Json
rule_tag t = object (member (codes "ResourceTagKey") (string t.key) (if_any (codes "ResourceTagValue") string t.value no_members))

abbrev pub rule_tags : List RuleTag → Items
rule_tags [] = no_items
rule_tags (t ∷ ts) = item (rule_tag t) (rule_tags ts)

-- a rule, locked where a delay is given
abbrev pub rule_created : ℕ → List RuleTag → Option (List ℕ) → Option ℕ → Json
rule_created days ts description delay =
    object (member (codes "RetentionPeriod") (retention days)
    (member (codes "ResourceType") (string (codes "EBS_SNAPSHOT"))
    (member (codes "ResourceTags") (array (rule_tags ts)) (if_any (codes "Description") string description (if_any (codes "LockConfiguration") delayed delay no_members)))))

-- what isn't given stays
abbrev pub rule_updated : Option ℕ → Option (List RuleTag) → Option (List ℕ) → Json
rule_updated days ts description =
    object (if_any (codes "RetentionPeriod") retention days
    (if_any (codes "ResourceTags") (λ ts. array (rule_tags ts)) ts (if_any (codes "Description") string description no_members)))

abbrev pub rule_locked : ℕ → Json
rule_locked delay = object (member (codes "LockConfiguration") (delayed delay) no_members)

-- a time of day, `HH:MM`
abbrev pub clock : ℕ → List ℕ
clock at = decimal_of_width 2 (at / 3600) ++ (codes ":" ++ decimal_of_width 2 (at % 3600 / 60))

-- every so many hours, from one time of day
abbrev pub scheduled : ℕ → ℕ → Json
scheduled hours at =
    object (member (codes "Interval") (whole hours) (member (codes "IntervalUnit") (string (codes "HOURS")) (member (codes "Times") (array (item (string (clock at)) no_items)) no_members)))

abbrev pub aged : ℕ → List ℕ → Json
aged n unit = object (member (codes "Interval") (whole n) (member (codes "IntervalUnit") (string unit) no_members))

-- so many snapshots of a volume, or an age
abbrev pub retained : Retain → Json
retained (retain.Count n) = object (member (codes "Count") (whole n) no_members)
retained (retain.Days n) = aged n (codes "DAYS")
retained (retain.Weeks n) = aged n (codes "WEEKS")
retained (retain.Months n) = aged n (codes "MONTHS")
retained (retain.Years n) = aged n (codes "YEARS")

-- a policy
abbrev pub policy_created : List Tag → ℕ → ℕ → Retain → List Tag → Json
policy_created targets hours at kept add =
    object (member (codes "TargetTags") (array (tags targets))
    (member (codes "Schedule") (scheduled hours at) (member (codes "RetainRule") (retained kept) (member (codes "TagsToAdd") (array (tags add)) no_members))))
