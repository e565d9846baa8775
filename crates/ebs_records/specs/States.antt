-- Locks, tiers and what policies keep: the place of the case, then its fields.
use Rattle.std.proofs.Common.{ℕ, List, ◌∷◌, ◌++◌, []}
use Rattle.ebs_model.specs.declared.policy.Retain.{Retain}
use Rattle.ebs_model.specs.declared.policy.Retain.TheVariants.{Count, Days, Weeks, Months, Years}
use Rattle.ebs_records.specs.Fields.{IsWord, word, IsMoment, moment}
use Rattle.ebs_model.specs.declared.rows.LockState.{LockState}
use Rattle.ebs_model.specs.declared.rows.LockState.TheVariants.{None as Unlocked, Governance, Compliance}
use Rattle.ebs_model.specs.declared.rows.Tier.{Tier}
use Rattle.ebs_model.specs.declared.rows.Tier.TheVariants.{Standard, Archived, Temporary}
use Rattle.ebs_model.specs.declared.rules.RuleLock.{RuleLock}
use Rattle.ebs_model.specs.declared.rules.RuleLock.TheVariants.{Unlocked as Open, Locked, Pending}

-- what a policy keeps: so many, or so many days, weeks, months or years
abbrev pub IsRetain : Retain → Type 0
IsRetain (Count n) = IsWord n
IsRetain (Days n) = IsWord n
IsRetain (Weeks n) = IsWord n
IsRetain (Months n) = IsWord n
IsRetain (Years n) = IsWord n

abbrev pub retain : Retain → List ℕ
retain (Count n) = 0 ∷ word n
retain (Days n) = 1 ∷ word n
retain (Weeks n) = 2 ∷ word n
retain (Months n) = 3 ∷ word n
retain (Years n) = 4 ∷ word n

-- a lock: none, or in governance until a moment, or in compliance until one, with the end of its cool-off
abbrev pub IsLock : LockState → Type 0
IsLock Unlocked = Unit {0}
IsLock (Governance until) = IsMoment until
IsLock (Compliance until cool_end) = IsMoment until × IsMoment cool_end

abbrev pub lock : LockState → List ℕ
lock Unlocked = 0 ∷ []
lock (Governance until) = 1 ∷ moment until
lock (Compliance until cool_end) = 2 ∷ (moment until ++ moment cool_end)

-- a tier: the standard one, the archive, or restored until a moment
abbrev pub IsTier : Tier → Type 0
IsTier Standard = Unit {0}
IsTier Archived = Unit {0}
IsTier (Temporary until) = IsMoment until

abbrev pub tier : Tier → List ℕ
tier Standard = 0 ∷ []
tier Archived = 1 ∷ []
tier (Temporary until) = 2 ∷ moment until

-- a rule's lock: none, or with a delay in days, or one whose unlock waits for a moment
abbrev pub IsRuleLock : RuleLock → Type 0
IsRuleLock Open = Unit {0}
IsRuleLock (Locked delay) = IsWord delay
IsRuleLock (Pending end) = IsMoment end

abbrev pub rule_lock : RuleLock → List ℕ
rule_lock Open = 0 ∷ []
rule_lock (Locked delay) = 1 ∷ word delay
rule_lock (Pending end) = 2 ∷ moment end
