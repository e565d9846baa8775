-- How the fields of a record are spelled.
use Rattle.std.proofs.Common.{ℕ, ◌^◌, ◌<◌, List, Bool, true, false, [], ◌∷◌, Option, Some, None, ◌++◌, ◌≡◌, length}
use Rattle.std.specs.Int.{w32, to_be_bytes, w64}
use Rattle.std.specs.List.{AllByRecursion, flat_map}
use Rattle.std.specs.Str.{IsUtf8}
use Rattle.ebs_model.specs.declared.keys.PolicyKey.{PolicyKey}
use Rattle.ebs_model.specs.declared.keys.SnapKey.{SnapKey}
use Rattle.ebs_model.specs.declared.lock.LockMode.{LockMode}
use Rattle.ebs_model.specs.declared.tags.Tag.{Tag}
use Rattle.ebs_model.specs.declared.keys.VolKey.{VolKey}
use Rattle.ebs_model.specs.declared.lock.LockMode.TheVariants.{Governance, Compliance}
use Rattle.ebs_model.specs.declared.rules.RuleTag.{RuleTag}
use Rattle.ebs_model.specs.declared.keys.RuleKey.{RuleKey}
use Rattle.ebs_model.specs.declared.lock.Term.{Term}
use Rattle.ebs_model.specs.declared.keys.Moment.{Moment}
use Rattle.ebs_model.specs.declared.lock.Term.TheVariants.{Days, Date}

abbrev pub IsWord : ℕ → Type 0
IsWord n = n < 2 ^ 32

abbrev pub IsLong : ℕ → Type 0
IsLong n = n < 2 ^ 64

unfoldable pub word : ℕ → List ℕ
word n = to_be_bytes w32 n

unfoldable pub long : ℕ → List ℕ
long n = to_be_bytes w64 n

abbrev pub flag : Bool → List ℕ
flag false = 0 ∷ []
flag true = 1 ∷ []

abbrev pub IsFlag : Bool → Type 0
IsFlag b = Unit {0}

abbrev pub optional : {V : Type 0} → (V → List ℕ) → Option V → List ℕ
optional spelled None = 0 ∷ []
optional spelled (Some v) = 1 ∷ spelled v

abbrev pub IsOptional : {V : Type 0} → (V → Type 0) → Option V → Type 0
IsOptional fits None = Unit {0}
IsOptional fits (Some v) = fits v

abbrev pub IsAccount : ℕ → Type 0
IsAccount n = n < 10 ^ 12

abbrev pub IsKeyNumber : ℕ → Type 0
IsKeyNumber n = n < 2 ^ 28

abbrev pub IsMoment : Moment → Type 0
IsMoment m = m.second < 2 ^ 64

abbrev pub moment : Moment → List ℕ
moment m = long m.second

abbrev pub IsKey : SnapKey → Type 0
IsKey k = IsAccount k.account × IsKeyNumber k.number

abbrev pub key : SnapKey → List ℕ
key k = long k.account ++ word k.number

abbrev pub IsVolume : VolKey → Type 0
IsVolume k = IsAccount k.account × IsKeyNumber k.number

abbrev pub volume : VolKey → List ℕ
volume k = long k.account ++ word k.number

abbrev pub IsRule : RuleKey → Type 0
IsRule k = IsAccount k.account × IsKeyNumber k.number

abbrev pub rule : RuleKey → List ℕ
rule k = long k.account ++ word k.number

-- 32 bytes as they are
abbrev pub IsDigest : List ℕ → Type 0
IsDigest bytes = length bytes ≡ 32

abbrev pub digest : List ℕ → List ℕ
digest bytes = bytes

-- so many bytes
abbrev pub IsText : List ℕ → Type 0
IsText bytes = (length bytes < 2 ^ 32) × IsUtf8 bytes

abbrev pub text : List ℕ → List ℕ
text bytes = word (length bytes) ++ bytes

-- so many members
abbrev pub AreMembers : {V : Type 0} → (V → Type 0) → List V → Type 0
AreMembers fits vs = (length vs < 2 ^ 32) × AllByRecursion fits vs

abbrev pub members : {V : Type 0} → (V → List ℕ) → List V → List ℕ
members spelled vs = word (length vs) ++ flat_map spelled vs

abbrev pub mode : LockMode → List ℕ
mode Governance = 0 ∷ []
mode Compliance = 1 ∷ []

abbrev pub IsMode : LockMode → Type 0
IsMode m = Unit {0}

-- so many days, or until a date
abbrev pub term : Term → List ℕ
term (Days days) = 0 ∷ word days
term (Date date) = 1 ∷ moment date

abbrev pub IsTerm : Term → Type 0
IsTerm (Days days) = days < 2 ^ 32
IsTerm (Date date) = IsMoment date

-- a policy's key
abbrev pub IsPolicyKey : PolicyKey → Type 0
IsPolicyKey v = IsAccount v.account × IsKeyNumber v.number

abbrev pub policy_key : PolicyKey → List ℕ
policy_key v = long v.account ++ word v.number

abbrev pub IsTag : Tag → Type 0
IsTag t = IsText t.key × IsText t.value

abbrev pub tag : Tag → List ℕ
tag t = text t.key ++ text t.value

abbrev pub IsRuleTag : RuleTag → Type 0
IsRuleTag t = IsText t.key × IsOptional IsText t.value

abbrev pub rule_tag : RuleTag → List ℕ
rule_tag t = text t.key ++ optional text t.value
