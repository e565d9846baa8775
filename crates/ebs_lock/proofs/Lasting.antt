-- What commands leave of a lock in compliance.
use Rattle.std.proofs.Common.{◌≡◌, ℕ, ◌<◌, ◌≤◌, Bool, true, false, cond, ◌||◌, arith, List, [], ◌∷◌, Option, Ok, Err, refl, sym, ap, subst, ◌∙◌}
use Rattle.std.proofs.lemmas.Bool.Decides.{nat_tests}
use Rattle.std.specs.Prelude.{nat_le, nat_lt, is_some}
use Rattle.ebs_model.specs.declared.keys.Moment.{Moment}
use Rattle.ebs_model.specs.declared.rows.LockState.{LockState}
use Rattle.ebs_model.specs.declared.rows.LockState.TheVariants as state
use Rattle.ebs_model.specs.declared.lock.LockMode.{LockMode}
use Rattle.ebs_model.specs.declared.lock.Term.{Term}
use Rattle.ebs_model.specs.declared.lock.LockCommand.{LockCommand}
use Rattle.ebs_model.specs.declared.lock.LockCommand.TheVariants.{Lock, Unlock}
use Rattle.ebs_model.specs.declared.phases.LockPhase.{LockPhase}
use Rattle.ebs_model.specs.declared.phases.LockPhase.TheVariants as phase
use Rattle.ebs_model.specs.declared.lock.LockRefusal.TheVariants as refusal
use Rattle.ebs_model.specs.Tiers.{lock_state}
use Rattle.ebs_model.specs.Locks.{lock_change, unlock_by, prolonged, replaced, is_compliance, is_governance, is_bad, end_of}
use Rattle.ebs_model.specs.Refuse.{or_left}
use Rattle.ebs_lock.specs.Runs.{Given, after, AreBetween}

-- it is in compliance then
phase_is : (until cool_end : Moment) (now : ℕ) → cool_end.second ≤ now → now < until.second → lock_state (state.Compliance until cool_end) now ≡ phase.Compliance
phase_is until cool_end now cool early = rw (ended, cooling) refl
  where
    ended : nat_le until.second now ≡ false
    ended = grind (arith, nat_tests)

    cooling : nat_lt now cool_end.second ≡ false
    cooling = grind (arith, nat_tests)

-- a lock that lasts no less
pub record Lasts (until cool_end : Moment) (lock : LockState) : Type 0 where
  pub later : Moment
  pub is : lock ≡ state.Compliance later cool_end
  pub longer : until.second ≤ later.second

stays : (until cool_end : Moment) → Lasts until cool_end (state.Compliance until cool_end)
stays until cool_end = record { later = until; is = refl; longer = omega arith }

-- a command leaves it or makes it longer
prolonged_lasts : (until cool_end : Moment) (mode : LockMode) (term : Term) (hours : Option ℕ) (now : ℕ) → Lasts until cool_end (or_left (state.Compliance until cool_end) (prolonged until cool_end mode term hours now))
prolonged_lasts until cool_end mode term hours now = by (is_governance mode) (is_some hours) (nat_le (end_of term now).second until.second) refl (is_bad term now)
  where
    by : (a b c : Bool) → nat_le (end_of term now).second until.second ≡ c → (d : Bool)
        → Lasts until cool_end (or_left (state.Compliance until cool_end) (cond (a || (b || c)) (Err (refusal.Locked until)) (cond d (Err refusal.BadDate) (Ok (state.Compliance (end_of term now) cool_end)))))
    by true b c t d = stays until cool_end
    by false true c t d = stays until cool_end
    by false false true t d = stays until cool_end
    by false false false t true = stays until cool_end
    by false false false t false = record { later = end_of term now; is = refl; longer = less (end_of term now).second until.second t }
      where
        less : (x y : ℕ) → nat_le x y ≡ false → y ≤ x
        less x y e = grind (arith, nat_tests)

pub step_lasts : (until cool_end : Moment) (command : LockCommand) (now : ℕ) → cool_end.second ≤ now → now < until.second → Lasts until cool_end (or_left (state.Compliance until cool_end) (lock_change (state.Compliance until cool_end) command now))
step_lasts until cool_end (Lock mode term hours) now cool early =
    subst (λ (p : LockPhase). Lasts until cool_end (or_left (state.Compliance until cool_end) (cond (is_compliance p) (prolonged until cool_end mode term hours now) (replaced mode term hours now)))) (sym (phase_is until cool_end now cool early)) (prolonged_lasts until cool_end mode term hours now)
step_lasts until cool_end Unlock now cool early =
    subst (λ (p : LockPhase). Lasts until cool_end (or_left (state.Compliance until cool_end) (unlock_by p until))) (sym (phase_is until cool_end now cool early)) (stays until cool_end)

-- so do all
sooner : (from u v : ℕ) → u ≤ v → (gs : List Given) → AreBetween from u gs → AreBetween from v gs
sooner from u v le [] h = tt
sooner from u v le (g ∷ gs) h = (h.0, omega (arith, le, h.1), sooner g.at u v le gs h.2)

pub all_last : (gs : List Given) (until cool_end : Moment) (now : ℕ) → cool_end.second ≤ now → AreBetween now until.second gs → Lasts until cool_end (after (state.Compliance until cool_end) gs)
all_last [] until cool_end now cool between = stays until cool_end
all_last (g ∷ gs) until cool_end now cool between =
    let one = step_lasts until cool_end g.command g.at (omega (arith, cool, between.0)) between.1 in
    let rest = all_last gs one.later cool_end g.at (omega (arith, cool, between.0)) (sooner g.at until.second one.later.second one.longer gs between.2) in
    record { later = rest.later; is = ap (λ (l : LockState). after l gs) one.is ∙ rest.is; longer = omega (arith, one.longer, rest.longer) }

-- ---- an expired lock

pub expired : (l : LockState) (command : LockCommand) (now : ℕ) → lock_state l now ≡ phase.Expired → lock_change l command now ≡ lock_change state.None command now
expired state.None command now e = absurd cc
expired (state.Governance until) (Lock mode term hours) now e = refl
expired (state.Governance until) Unlock now e = ap (λ (p : LockPhase). unlock_by p until) e
expired (state.Compliance until cool_end) (Lock mode term hours) now e = ap (λ (p : LockPhase). cond (is_compliance p) (prolonged until cool_end mode term hours now) (replaced mode term hours now)) e
expired (state.Compliance until cool_end) Unlock now e = ap (λ (p : LockPhase). unlock_by p until) e
