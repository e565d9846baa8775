-- Why a command isn't done, and what its status says then.
use Rattle.std.proofs.Common.{◌≡◌, ◌⊎◌, ◌≤◌, inl, inr, ℕ, List, true, Option, Err, refl, sym, ap, subst, ◌∙◌, arith}
use Rattle.ebs_world.specs.View.{View}
use Rattle.ebs_world.specs.Ends.{Outlet}
use Rattle.ebs_exchanges.specs.Exchanges.{Exchange}
use Rattle.ebs_session.specs.Session.{status_of}
use Rattle.ebs_session.specs.declared.end.End.{End}
use Rattle.ebs_session.specs.declared.end.End.TheVariants as of_session
use Rattle.ebs_disk_store.specs.Opened.{IsMarked}
use Rattle.ebs_disk_store.specs.declared.refusal.OpenRefusal.{OpenRefusal}
use Rattle.ebs_disk_store.specs.declared.refusal.OpenRefusal.TheVariants.{DiskFailed, NotMade, AlreadyMade, NotAJournal, BadVersion, BadRecord, BadCheckpoint, NotBuilt, Memory}
use Rattle.ebs_model.specs.Quotas.{Rose}
use Rattle.ebs_disk_store.specs.declared.pointing.StoreStop.TheVariants as stops
use Rattle.ebs_commands.specs.Collects.{Promised}
use Rattle.ebs_commands.specs.Ends.{Inits, IsUnmade}
use Rattle.ebs_commands.specs.declared.ending.CommandEnd.{CommandEnd}
use Rattle.ebs_commands.specs.declared.ending.CommandEnd.TheVariants as ends
use Rattle.ebs_cli.specs.Told.{Kept}
use Rattle.ebs_opening.specs.Opens.{IsUnready}
use Rattle.ebs_cli.specs.Opens.{IsKeptOrNew}
use Rattle.ebs_cli.specs.Done as done
use Rattle.ebs_cli.specs.Done.{ChecksAll, CollectsAll, DoneBy, EndsAt, FailsAt, IsBegun, SamplesAll, TicksAll, UsesAll}
use Rattle.ebs_cli.specs.OnDisk.{Played, answered, unbegun}
use Rattle.ebs_cli.specs.Outcomes.{command_at, status_for, unready_at}
use Rattle.ebs_cli.specs.Refusals.{HasNone, IsUnreadable, SaysUndone}
use Rattle.ebs_cli.specs.declared.outcome.Outcome.{Outcome}
use Rattle.ebs_cli.specs.declared.outcome.Outcome.TheVariants.{Unready}

-- ---- status 3

none_of : (v w : View) (outcome : Outcome) (refusal : OpenRefusal) → outcome ≡ Unready refusal → status_for outcome ≡ 3 → IsUnready v w refusal → HasNone v w
none_of v w outcome refusal is three why = record { refusal = refusal; status = sym (ap status_for is) ∙ three; cause = why }

never_three : (end : End) → status_of end ≡ 3 → ⊥
never_three of_session.Done is = cc
never_three of_session.InputFailed is = cc
never_three of_session.OutputFailed is = cc
never_three (of_session.Cut waiting) is = cc
never_three (of_session.Bad place) is = cc
never_three of_session.Memory is = cc
never_three of_session.Limit is = cc

pub session_refused : (Untouched : Type 0) (Went : List Exchange → Type 0) (v w : View) (left_old left_new written_old written_new clock_old clock_new : Option (List ℕ)) (outcome : Outcome)
    → Played Untouched Went v w left_old left_new written_old written_new clock_old clock_new outcome → status_for outcome ≡ 3 → HasNone v w
session_refused Untouched Went v w left_old left_new written_old written_new clock_old clock_new outcome (answered end is s) three = absurd (never_three end (sym (ap status_for is) ∙ three))
session_refused Untouched Went v w left_old left_new written_old written_new clock_old clock_new outcome (unbegun refusal is why still) three = none_of v w outcome refusal is three why.cause

-- a command over a store that was had never says that one was made before
module _ {D : Type 0} (view : D → View) (Untouched : Type 0) (By : D → Kept → CommandEnd → Type 0) (d e : D) (outcome : Outcome) where
  done_refused : ((mid : D) (s : Kept) (end : CommandEnd) → By mid s end → command_at end ≡ 3 → ⊥) → DoneBy view Untouched By d e outcome → status_for outcome ≡ 3 → HasNone (view d) (view e)
  done_refused never (done.unbegun refusal is why still) three = none_of (view d) (view e) outcome refusal is three why.cause
  done_refused never (done.by_store mid s end is had by) three = absurd (never mid s end by (sym (ap status_for is) ∙ three))

module _ {D : Type 0} (view : D → View) (sound Untouched : Type 0) (d e : D) (old new : Outlet) (outcome : Outcome) where
  module _ (clock_old clock_new : Option (List ℕ)) where
    ticks_never : (mid : D) (s : Kept) (end : CommandEnd) → TicksAll view sound d e clock_old clock_new old new mid s end → command_at end ≡ 3 → ⊥
    ticks_never mid s ends.AlreadyMade by three = by.ends
    ticks_never mid s ends.Done by three = cc
    ticks_never mid s ends.DiskFailed by three = cc
    ticks_never mid s ends.OutputFailed by three = cc
    ticks_never mid s ends.Memory by three = cc
    ticks_never mid s ends.Damaged by three = cc
    ticks_never mid s ends.Exhausted by three = cc

    pub tick_refused : DoneBy view Untouched (TicksAll view sound d e clock_old clock_new old new) d e outcome → status_for outcome ≡ 3 → HasNone (view d) (view e)
    tick_refused = done_refused view Untouched (TicksAll view sound d e clock_old clock_new old new) d e outcome ticks_never

    collects_never : (mid : D) (s : Kept) (end : CommandEnd) → CollectsAll view sound d e clock_old clock_new old new mid s end → command_at end ≡ 3 → ⊥
    collects_never mid s ends.AlreadyMade by three = by.ends.0
    collects_never mid s ends.Done by three = cc
    collects_never mid s ends.DiskFailed by three = cc
    collects_never mid s ends.OutputFailed by three = cc
    collects_never mid s ends.Memory by three = cc
    collects_never mid s ends.Damaged by three = cc
    collects_never mid s ends.Exhausted by three = cc

    pub collect_refused : DoneBy view Untouched (CollectsAll view sound d e clock_old clock_new old new) d e outcome → status_for outcome ≡ 3 → HasNone (view d) (view e)
    collect_refused = done_refused view Untouched (CollectsAll view sound d e clock_old clock_new old new) d e outcome collects_never

  uses_never : (mid : D) (s : Kept) (end : CommandEnd) → UsesAll view d e old new mid s end → command_at end ≡ 3 → ⊥
  uses_never mid s ends.AlreadyMade by three = by.tells
  uses_never mid s ends.Done by three = cc
  uses_never mid s ends.DiskFailed by three = cc
  uses_never mid s ends.OutputFailed by three = cc
  uses_never mid s ends.Memory by three = cc
  uses_never mid s ends.Damaged by three = cc
  uses_never mid s ends.Exhausted by three = cc

  pub usage_refused : DoneBy view Untouched (UsesAll view d e old new) d e outcome → status_for outcome ≡ 3 → HasNone (view d) (view e)
  usage_refused = done_refused view Untouched (UsesAll view d e old new) d e outcome uses_never

  checks_never : (mid : D) (s : Kept) (end : CommandEnd) → ChecksAll view sound d e old new mid s end → command_at end ≡ 3 → ⊥
  checks_never mid s ends.AlreadyMade by three = by.checks.2
  checks_never mid s ends.Done by three = cc
  checks_never mid s ends.DiskFailed by three = cc
  checks_never mid s ends.OutputFailed by three = cc
  checks_never mid s ends.Memory by three = cc
  checks_never mid s ends.Damaged by three = cc
  checks_never mid s ends.Exhausted by three = cc

  pub check_refused : DoneBy view Untouched (ChecksAll view sound d e old new) d e outcome → status_for outcome ≡ 3 → HasNone (view d) (view e)
  check_refused = done_refused view Untouched (ChecksAll view sound d e old new) d e outcome checks_never

pub init_refused : (end : CommandEnd) (Made : Type 0) (v w : View) (old new : Outlet) → Inits end Made v w old new → command_at end ≡ 3 → v.tells ≡ true → IsMarked v
init_refused ends.AlreadyMade Made v w old new i three = i.0.0
init_refused ends.Done Made v w old new i three = absurd cc
init_refused ends.DiskFailed Made v w old new i three = absurd cc
init_refused ends.OutputFailed Made v w old new i three = absurd cc
init_refused ends.Memory Made v w old new i three = absurd cc
init_refused ends.Damaged Made v w old new i three = absurd cc
init_refused ends.Exhausted Made v w old new i three = absurd cc

-- ---- status 2 of a collection

unready_rose : (v w : View) (refusal : OpenRefusal) → IsUnready v w refusal → unready_at refusal ≡ 2 → Rose v.faults w.faults
unready_rose v w DiskFailed why two = why
unready_rose v w NotMade why two = absurd cc
unready_rose v w AlreadyMade why two = absurd cc
unready_rose v w (NotAJournal nine) why two = absurd cc
unready_rose v w (BadVersion version) why two = absurd cc
unready_rose v w (BadRecord place) why two = absurd cc
unready_rose v w BadCheckpoint why two = absurd cc
unready_rose v w NotBuilt why two = absurd cc
unready_rose v w Memory why two = absurd cc

rose_since : (a b c : ℕ) → a ≤ b → Rose b c → Rose a c
rose_since a b c later rose = omega (arith, later, rose)

module _ {D : Type 0} (view : D → View) (sound Untouched : Type 0) (d e : D) (old new : Outlet) (clock_old clock_new : Option (List ℕ)) where
  -- in the collection, or in its checkpoint
  collects_rose : (mid : D) (k : Kept) (end : CommandEnd) → CollectsAll view sound d e clock_old clock_new old new mid k end → command_at end ≡ 2 → Rose (view mid).faults (view e).faults
  collects_rose mid k ends.DiskFailed by two = either by.ends.0
    where
      either : FailsAt view mid e k by.last ⊎ EndsAt view (Promised sound (view d)) mid e k by.last by.reading.second (Err stops.Unavailable) → Rose (view mid).faults (view e).faults
      either (inl failed) = failed.0
      either (inr ended) = ended.point
  collects_rose mid k ends.Done by two = absurd cc
  collects_rose mid k ends.AlreadyMade by two = absurd cc
  collects_rose mid k ends.OutputFailed by two = absurd cc
  collects_rose mid k ends.Memory by two = absurd cc
  collects_rose mid k ends.Damaged by two = absurd cc
  collects_rose mid k ends.Exhausted by two = absurd cc

  pub collect_rose : (outcome : Outcome) → DoneBy view Untouched (CollectsAll view sound d e clock_old clock_new old new) d e outcome → status_for outcome ≡ 2 → Rose (view d).faults (view e).faults
  collect_rose outcome (done.unbegun refusal is why still) two = unready_rose (view d) (view e) refusal why.cause (sym (ap status_for is) ∙ two)
  collect_rose outcome (done.by_store mid k end is had by) two = rose_since (view d).faults (view mid).faults (view e).faults had.opening.ran.count (collects_rose mid k end by (sym (ap status_for is) ∙ two))

-- ---- status 12

unready_never : (refusal : OpenRefusal) → unready_at refusal ≡ 12 → ⊥
unready_never DiskFailed is = cc
unready_never NotMade is = cc
unready_never AlreadyMade is = cc
unready_never (NotAJournal nine) is = cc
unready_never (BadVersion version) is = cc
unready_never (BadRecord place) is = cc
unready_never BadCheckpoint is = cc
unready_never NotBuilt is = cc
unready_never Memory is = cc

never_twelve : (end : End) → status_of end ≡ 12 → ⊥
never_twelve of_session.Done is = cc
never_twelve of_session.InputFailed is = cc
never_twelve of_session.OutputFailed is = cc
never_twelve (of_session.Cut waiting) is = cc
never_twelve (of_session.Bad place) is = cc
never_twelve of_session.Memory is = cc
never_twelve of_session.Limit is = cc

pub session_never : (Untouched : Type 0) (Went : List Exchange → Type 0) (v w : View) (left_old left_new written_old written_new clock_old clock_new : Option (List ℕ)) (outcome : Outcome)
    → Played Untouched Went v w left_old left_new written_old written_new clock_old clock_new outcome → status_for outcome ≡ 12 → ⊥
session_never Untouched Went v w left_old left_new written_old written_new clock_old clock_new outcome (answered end is s) twelve = never_twelve end (sym (ap status_for is) ∙ twelve)
session_never Untouched Went v w left_old left_new written_old written_new clock_old clock_new outcome (unbegun refusal is why still) twelve = unready_never refusal (sym (ap status_for is) ∙ twelve)

-- a command's end with this status is that no checkpoint can be written
twelve_is : (end : CommandEnd) → command_at end ≡ 12 → end ≡ ends.Exhausted
twelve_is ends.Exhausted is = refl
twelve_is ends.Done is = absurd cc
twelve_is ends.DiskFailed is = absurd cc
twelve_is ends.AlreadyMade is = absurd cc
twelve_is ends.OutputFailed is = absurd cc
twelve_is ends.Memory is = absurd cc
twelve_is ends.Damaged is = absurd cc

module _ {D : Type 0} (view : D → View) (Untouched : Type 0) (d e : D) (outcome : Outcome) where
  done_never : (By : D → Kept → CommandEnd → Type 0) → ((mid : D) (k : Kept) → By mid k ends.Exhausted → ⊥) → DoneBy view Untouched By d e outcome → status_for outcome ≡ 12 → ⊥
  done_never By never (done.unbegun refusal is why still) twelve = unready_never refusal (sym (ap status_for is) ∙ twelve)
  done_never By never (done.by_store mid k end is had by) twelve = never mid k (subst (λ (x : CommandEnd). By mid k x) (twelve_is end (sym (ap status_for is) ∙ twelve)) by)

  module _ (sound : Type 0) (old new : Outlet) where
    pub tick_never : (clock_old clock_new : Option (List ℕ)) → DoneBy view Untouched (TicksAll view sound d e clock_old clock_new old new) d e outcome → status_for outcome ≡ 12 → ⊥
    tick_never clock_old clock_new = done_never (TicksAll view sound d e clock_old clock_new old new) (λ mid k by. by.ends)

    pub check_never : DoneBy view Untouched (ChecksAll view sound d e old new) d e outcome → status_for outcome ≡ 12 → ⊥
    check_never = done_never (ChecksAll view sound d e old new) (λ mid k by. by.checks.2)

  pub usage_never : (old new : Outlet) → DoneBy view Untouched (UsesAll view d e old new) d e outcome → status_for outcome ≡ 12 → ⊥
  usage_never old new = done_never (UsesAll view d e old new) (λ mid k by. by.tells)

pub init_never : (end : CommandEnd) (Made : Type 0) (v w : View) (old new : Outlet) → Inits end Made v w old new → command_at end ≡ 12 → ⊥
init_never end Made v w old new i twelve = none (subst (λ (x : CommandEnd). Inits x Made v w old new) (twelve_is end twelve) i)
  where
    none : Inits ends.Exhausted Made v w old new → ⊥
    none i = i.0

-- ---- the other way

unready_says : (v w : View) (refusal : OpenRefusal) → IsUnready v w refusal → SaysUndone (unready_at refusal) v w
unready_says v w DiskFailed why = inr (inl (refl, why))
unready_says v w NotMade why = inl refl
unready_says v w AlreadyMade why = inl refl
unready_says v w (NotAJournal nine) why = inl refl
unready_says v w (BadVersion version) why = inl refl
unready_says v w (BadRecord place) why = inl refl
unready_says v w BadCheckpoint why = inl refl
unready_says v w NotBuilt why = inl refl
unready_says v w Memory why = inr (inr refl)

unbegun_says : (v w : View) (outcome : Outcome) (refusal : OpenRefusal) → outcome ≡ Unready refusal → IsUnready v w refusal → SaysUndone (status_for outcome) v w
unbegun_says v w outcome refusal is why = subst (λ (o : Outcome). SaysUndone (status_for o) v w) (sym is) (unready_says v w refusal why)

not_had : (v : View) (k : Kept) → IsUnreadable v → IsKeptOrNew v k → ⊥
not_had v k none (inl read) = none.1 k read.1
not_had v k none (inr new) = none.0 new.0

pub session_says : (Untouched : Type 0) (Went : List Exchange → Type 0) (v w : View) (left_old left_new written_old written_new clock_old clock_new : Option (List ℕ)) (outcome : Outcome)
    → Played Untouched Went v w left_old left_new written_old written_new clock_old clock_new outcome → IsUnreadable v → ((xs : List Exchange) → Went xs → (k : Kept) × IsKeptOrNew v k) → SaysUndone (status_for outcome) v w
session_says Untouched Went v w left_old left_new written_old written_new clock_old clock_new outcome (answered end is s) none had = let store = had s.exchanges s.went in absurd (not_had v store.0 none store.1)
session_says Untouched Went v w left_old left_new written_old written_new clock_old clock_new outcome (unbegun refusal is why still) none had = unbegun_says v w outcome refusal is why.cause

pub done_says : {D : Type 0} (view : D → View) (Untouched : Type 0) (By : D → Kept → CommandEnd → Type 0) (d e : D) (outcome : Outcome) → (view d).tells ≡ true → IsUnreadable (view d)
    → DoneBy view Untouched By d e outcome → SaysUndone (status_for outcome) (view d) (view e)
done_says view Untouched By d e outcome told none (done.unbegun refusal is why still) = unbegun_says (view d) (view e) outcome refusal is why.cause
done_says view Untouched By d e outcome told none (done.by_store mid s end is had by) = absurd (not_had (view d) s none (had.read told))

unmade_says : (v w : View) (end : CommandEnd) → IsUnmade end v w → SaysUndone (command_at end) v w
unmade_says v w ends.DiskFailed why = inr (inl (refl, why))
unmade_says v w ends.AlreadyMade why = inl refl
unmade_says v w ends.Memory why = inr (inr refl)
unmade_says v w ends.Done why = absurd why
unmade_says v w ends.OutputFailed why = absurd why
unmade_says v w ends.Damaged why = absurd why
unmade_says v w ends.Exhausted why = absurd why

pub init_says : (end : CommandEnd) (sound : Type 0) (v w : View) (secret : List ℕ) (old new : Outlet) → v.tells ≡ true → IsMarked v → Inits end (IsBegun sound v w secret) v w old new → SaysUndone (command_at end) v w
init_says ends.Done sound v w secret old new told marked i = absurd (marked (i.0.unmarked told))
init_says ends.OutputFailed sound v w secret old new told marked i = absurd (marked (i.0.unmarked told))
init_says ends.DiskFailed sound v w secret old new told marked i = unmade_says v w ends.DiskFailed i.0
init_says ends.AlreadyMade sound v w secret old new told marked i = unmade_says v w ends.AlreadyMade i.0
init_says ends.Memory sound v w secret old new told marked i = unmade_says v w ends.Memory i.0
init_says ends.Damaged sound v w secret old new told marked i = unmade_says v w ends.Damaged i.0
init_says ends.Exhausted sound v w secret old new told marked i = unmade_says v w ends.Exhausted i.0

pub sample_says : {D : Type 0} (view : D → View) (sound : Type 0) (end : CommandEnd) (rounds : ℕ) (d e : D) (old new : Outlet) → (view d).tells ≡ true → IsMarked (view d)
    → SamplesAll view sound rounds d e old new end → SaysUndone (command_at end) (view d) (view e)
sample_says view sound end rounds d e old new told marked (done.starved is same still) = inr (inr (ap command_at is))
sample_says view sound end rounds d e old new told marked (done.unmade why kept begins still) = unmade_says (view d) (view e) end why
sample_says view sound end rounds d e old new told marked (done.sampled made) = absurd (marked (made.begun.unmarked told))
