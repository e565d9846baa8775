-- Beside what is promised: locks, tiers and what policies keep: the place of the case, then its fields.
use Rattle.std.proofs.Common.{◌≡◌, ℕ, List, ◌∷◌, ◌++◌, refl, ap}
use Rattle.ebs_model.specs.declared.rows.LockState.TheVariants.{None as Unlocked, Governance, Compliance}
use Rattle.ebs_model.specs.declared.rows.Tier.TheVariants.{Standard, Archived, Temporary}
use Rattle.ebs_model.specs.declared.rules.RuleLock.TheVariants.{Unlocked as Open, Locked, Pending}
use Rattle.ebs_model.specs.declared.policy.Retain.TheVariants.{Count, Days, Weeks, Months, Years}
use Rattle.ebs_records.specs.Fields.{IsMoment, moment, word}
use Rattle.ebs_records.specs.States.{IsRetain, retain}
use Rattle.ebs_records.specs.inner.Apart.{Apart, apart_pair}
use Rattle.ebs_records.specs.inner.Keys.{apart_moment}
use Rattle.ebs_records.specs.inner.Numbers.{apart_word}
use Rattle.ebs_records.specs.States.{IsLock, IsRuleLock, IsTier, lock, rule_lock, tier}

heads : (m n : ℕ) (x y : List ℕ) → m ∷ x ≡ n ∷ y → (m ≡ n) × (x ≡ y)
heads m n x y e = (cc, cc)

pub apart_lock : Apart IsLock lock
apart_lock Unlocked Unlocked x y a b e = (refl, (heads 0 0 x y e).1)
apart_lock (Governance m) (Governance n) x y a b e = let both = apart_moment m n x y a b (heads 1 1 (moment m ++ x) (moment n ++ y) e).1 in (ap Governance both.0, both.1)
apart_lock (Compliance m c) (Compliance n d) x y a b e =
    let both = apart_pair IsMoment moment IsMoment moment apart_moment apart_moment (m, c) (n, d) x y a b (heads 2 2 ((moment m ++ moment c) ++ x) ((moment n ++ moment d) ++ y) e).1 in
    (λ i. Compliance (both.0 i).0 (both.0 i).1, both.1)
apart_lock v w x y a b e = absurd cc

pub apart_tier : Apart IsTier tier
apart_tier Standard Standard x y a b e = (refl, (heads 0 0 x y e).1)
apart_tier Archived Archived x y a b e = (refl, (heads 1 1 x y e).1)
apart_tier (Temporary m) (Temporary n) x y a b e = let both = apart_moment m n x y a b (heads 2 2 (moment m ++ x) (moment n ++ y) e).1 in (ap Temporary both.0, both.1)
apart_tier v w x y a b e = absurd cc

pub apart_rule_lock : Apart IsRuleLock rule_lock
apart_rule_lock Open Open x y a b e = (refl, (heads 0 0 x y e).1)
apart_rule_lock (Locked m) (Locked n) x y a b e = let both = apart_word m n x y a b (heads 1 1 (word m ++ x) (word n ++ y) e).1 in (ap Locked both.0, both.1)
apart_rule_lock (Pending m) (Pending n) x y a b e = let both = apart_moment m n x y a b (heads 2 2 (moment m ++ x) (moment n ++ y) e).1 in (ap Pending both.0, both.1)
apart_rule_lock v w x y a b e = absurd cc

pub apart_retain : Apart IsRetain retain
apart_retain (Count m) (Count n) x y a b e = let both = apart_word m n x y a b (heads 0 0 (word m ++ x) (word n ++ y) e).1 in (ap Count both.0, both.1)
apart_retain (Days m) (Days n) x y a b e = let both = apart_word m n x y a b (heads 1 1 (word m ++ x) (word n ++ y) e).1 in (ap Days both.0, both.1)
apart_retain (Weeks m) (Weeks n) x y a b e = let both = apart_word m n x y a b (heads 2 2 (word m ++ x) (word n ++ y) e).1 in (ap Weeks both.0, both.1)
apart_retain (Months m) (Months n) x y a b e = let both = apart_word m n x y a b (heads 3 3 (word m ++ x) (word n ++ y) e).1 in (ap Months both.0, both.1)
apart_retain (Years m) (Years n) x y a b e = let both = apart_word m n x y a b (heads 4 4 (word m ++ x) (word n ++ y) e).1 in (ap Years both.0, both.1)
apart_retain v w x y a b e = absurd cc
