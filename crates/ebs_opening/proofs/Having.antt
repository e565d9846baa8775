-- A store that is had of a disk.
use Rattle.std.proofs.Common.{◌≡◌, inl, ⊎_elim, arith, ℕ, ◌≤◌, List, true, sym, ap, subst, ◌∙◌, false}
use Rattle.std.specs.FinMap as fin
use Rattle.std.specs.Prelude.{IfOk, IfErr}
use Rattle.std.proofs.lemmas.Bool.{false≢true, true≢false}
use Rattle.ebs_model.specs.Quotas.{Rose}
use Rattle.std.specs.declared.result.Result.{Result}
use Rattle.std.specs.declared.result.Result.TheVariants.{Ok, Err}
use Rattle.ebs_world.specs.declared.area.Area.TheVariants.{Archive}
use Rattle.ebs_world.specs.Image.{Image, Everywhere, Keeps, Was}
use Rattle.ebs_world.specs.View.{View, Leaves, Ran, IsTrueToItself}
use Rattle.ebs_world.specs.inner.Runs.{leaves_weaker, leaves_on, ran_on, ran_weaker}
use Rattle.ebs_journal.specs.inner.Line.{Line}
use Rattle.ebs_journal.specs.Opening.{OffMaking}
use Rattle.ebs_model.specs.Machine.{Machine, advance, empty_machine}
use Rattle.ebs_model.specs.inner.Orders.{snaps_total, exact_snaps, vols_total, exact_vols}
use Rattle.ebs_recovery.specs.inner.Fits.{Seen, new_store}
use Rattle.ebs_recovery.specs.Stands.{Stands, unmade, no_secret}
use Rattle.ebs_recovery.specs.inner.Stands.{refilled, refilled_snapshot, refilled_disk}
use Rattle.ebs_recovery.proofs.Places.{map_entries-empty}
use Rattle.ebs_recovery.specs.inner.StandLaws.{UnmadeStands, OneMachine}
use Rattle.ebs_disk_store.specs.inner.Creations.{IsUnmade}
use Rattle.ebs_disk_store.specs.Opened.{NoneNewOrOld, IsUnopened}
use Rattle.ebs_disk_store.specs.inner.Opened.{IsRead, MayRefuse, OpensAs}
use Rattle.ebs_disk_store.specs.declared.refusal.OpenRefusal.{OpenRefusal}
use Rattle.ebs_disk_store.specs.declared.refusal.OpenRefusal.TheVariants.{DiskFailed, NotMade, AlreadyMade, NotAJournal, BadVersion, BadRecord, BadCheckpoint, NotBuilt, Memory}
use Rattle.ebs_opening.specs.Opens.{AllStand, IsUnready}
use Rattle.ebs_opening.specs.inner.Opens.{Has, IsReadOrNew, is_unmade}

-- an image with the same bytes everywhere stands for the same machine
stands_same : (c d : Image) (m : Machine) → Keeps Everywhere d c → Stands d m → Stands c m
stands_same c d m same stands = subst (λ (e : Image). Stands e m) (λ j a i. sym (same a i tt) j) stands

was_standing : (v : View) (m : Machine) → AllStand v m → (c : Image) → Was Everywhere v.may_leave c → Stands c m
was_standing v m all c was = stands_same c was.0 m was.2 (all was.0 was.1)

-- calls that write nothing leave what the images stood for
pub still_standing : (v u : View) (m : Machine) → Ran Everywhere v u → v.honest ≡ true → AllStand v m → Leaves v u (λ c. Stands c m)
still_standing v u m ran honest all = leaves_weaker v u (Was Everywhere v.may_leave) (λ c. Stands c m) (was_standing v m all) (ran.moments honest)

-- and so do calls that write nothing, after others that left what these stood for
pub still_after : (v u w : View) (m : Machine) → IsTrueToItself u → u.honest ≡ true → Leaves v u (λ c. Stands c m) → Ran Everywhere u w → Leaves v w (λ c. Stands c m)
still_after v u w m law honest before ran = leaves_on v u w (λ c. Stands c m) before (still_standing u w m ran honest (λ c now. before.each c (law.counts_now honest v.moment c before.later now)))

all_still : (v u : View) (m : Machine) → Ran Everywhere v u → v.honest ≡ true → AllStand v m → AllStand u m
all_still v u m ran honest all c now = was_standing v m all c (ran.images honest c now)

-- where no store was made, the disk stood for the empty machine
pub is_empty : (c : Image) (m : Machine) → UnmadeStands → OneMachine → c Archive 0 ≡ 0 → Stands c m → m ≡ empty_machine no_secret
is_empty c m stands one zero stood = one c m (empty_machine no_secret) stood (stands c zero)

-- and while one is made each image does
pub making : (v mid u : View) (m : Machine) → Ran Everywhere v mid → v.tells ≡ true → v.honest ≡ true → AllStand v m → m ≡ empty_machine no_secret
    → (mid.tells ≡ true → mid.honest ≡ true → Leaves mid u (NoneNewOrOld mid no_secret)) → Leaves v u (λ c. Stands c m)
making v mid u m ran told honest all is made = leaves_on v mid u (λ c. Stands c m) (still_standing v mid m ran honest all)
    (leaves_weaker mid u (NoneNewOrOld mid no_secret) (λ c. Stands c m)
    (λ c. ⊎_elim (λ zero. unmade zero is) (⊎_elim (λ new. subst (λ (n : Machine). Stands c n) (sym is) new) (was_standing mid m (all_still v mid m ran honest all) c)))
    (made (ran.told ∙ told) (ran.kept_honest ∙ honest)))

pub ran_made : (v mid u : View) → Ran Everywhere v mid → Ran OffMaking mid u → Ran OffMaking v u
ran_made v mid u first second = ran_on OffMaking v mid u (ran_weaker Everywhere OffMaking v mid (λ a i here. tt) first) second

-- ---- the machine of a new store

pub new_refilled : (c : Image) (secret : List ℕ) → refilled c fin.empty (empty_machine secret) ≡ empty_machine secret
new_refilled c secret = λ i. record (empty_machine secret) {
  snaps = map_entries-empty snaps_total exact_snaps (refilled_snapshot c fin.empty) i;
  disks = map_entries-empty vols_total exact_vols (refilled_disk c fin.empty) i;
}

pub has_new : (u : View) (secret : List ℕ) (journal : Line) → advance (empty_machine secret) (empty_machine secret).clock ≡ empty_machine secret → Has u (new_store secret journal) (empty_machine secret)
has_new u secret journal rests = record {
  records = new_refilled u.reads secret;
  answers = ap (λ (n : Machine). advance n (record { second = 0 })) (new_refilled u.reads secret) ∙ rests;
}

pub has_made : (u : View) (s : Seen) (secret : List ℕ) (m : Machine) → s ≡ new_store secret s.journal → m ≡ empty_machine secret → advance m m.clock ≡ m → Has u s m
has_made u s secret m is_new is_empty rests = subst (λ (t : Seen). Has u t m) (sym is_new)
    (subst (λ (n : Machine). Has u (new_store secret s.journal) n) (sym is_empty) (has_new u secret s.journal (subst (λ (n : Machine). advance n n.clock ≡ n) is_empty rests)))

pub if_ok : {T E : Type 0} {P Q : T → Type 0} → ((x : T) → P x → Q x) → (r : Result T E) → IfOk r P → IfOk r Q
if_ok implies (Ok x) p = implies x p
if_ok implies (Err e) p = tt

pub has_opened : (v u : View) (s : Seen) (m : Machine) → Stands v.reads m → OpensAs v u s m → Has u s m
has_opened v u s m stands opens = record { records = (opens stands).1; answers = (opens stands).2 }

-- what was read is a journal, so that the mark says that a store was made
pub had_read : (v : View) (s : Seen) → IsRead v.reads s → IsReadOrNew v s
had_read v s read = inl (read.journal.made, read)

-- ---- why there is none

pub unready : (v u : View) (refusal : OpenRefusal) → is_unmade refusal ≡ false → IsUnopened v u refusal → IsUnready v u refusal
unready v u DiskFailed other why = why
unready v u NotMade other why = absurd (true≢false other)
unready v u AlreadyMade other why = absurd why
unready v u (NotAJournal nine) other why = why
unready v u (BadVersion version) other why = why
unready v u (BadRecord place) other why = why
unready v u BadCheckpoint other why = why
unready v u NotBuilt other why = why
unready v u Memory other why = tt

-- that none was made is told of the mark
pub unmarked : (v u : View) (refusal : OpenRefusal) → is_unmade refusal ≡ true → IsUnopened v u refusal → v.tells ≡ true → v.reads Archive 0 ≡ 0
unmarked v u DiskFailed is why told = absurd (false≢true is)
unmarked v u NotMade is why told = why told
unmarked v u AlreadyMade is why told = absurd why
unmarked v u (NotAJournal nine) is why told = absurd (false≢true is)
unmarked v u (BadVersion version) is why told = absurd (false≢true is)
unmarked v u (BadRecord place) is why told = absurd (false≢true is)
unmarked v u BadCheckpoint is why told = absurd (false≢true is)
unmarked v u NotBuilt is why told = absurd (false≢true is)
unmarked v u Memory is why told = absurd (false≢true is)

-- why none was made, where an opening told that there was none
pub untold : (v mid u : View) (refusal : OpenRefusal) → Ran Everywhere v mid → (v.tells ≡ true → v.reads Archive 0 ≡ 0) → IsUnmade mid u refusal → IsUnready v u refusal
untold v mid u DiskFailed ran zero why = rose v.faults mid.faults u.faults ran.count why
  where
    rose : (a b c : ℕ) → a ≤ b → Rose b c → Rose a c
    rose a b c le why = omega (arith, le, why)
untold v mid u NotMade ran zero why = absurd why
untold v mid u AlreadyMade ran zero why = λ told. why (ran.told ∙ told) (ran.kept told Archive 0 tt ∙ zero told)
untold v mid u (NotAJournal nine) ran zero why = absurd why
untold v mid u (BadVersion version) ran zero why = absurd why
untold v mid u (BadRecord place) ran zero why = absurd why
untold v mid u BadCheckpoint ran zero why = absurd why
untold v mid u NotBuilt ran zero why = absurd why
untold v mid u Memory ran zero why = tt

pub stood : (v mid u : View) (refusal : OpenRefusal) (m : Machine) → Ran Everywhere v mid → (v.tells ≡ true → v.reads Archive 0 ≡ 0) → IsUnmade mid u refusal → v.tells ≡ true → MayRefuse refusal
stood v mid u DiskFailed m ran zero why told = tt
stood v mid u NotMade m ran zero why told = absurd why
stood v mid u AlreadyMade m ran zero why told = absurd (why (ran.told ∙ told) (ran.kept told Archive 0 tt ∙ zero told))
stood v mid u (NotAJournal nine) m ran zero why told = absurd why
stood v mid u (BadVersion version) m ran zero why told = absurd why
stood v mid u (BadRecord place) m ran zero why told = absurd why
stood v mid u BadCheckpoint m ran zero why told = absurd why
stood v mid u NotBuilt m ran zero why told = absurd why
stood v mid u Memory m ran zero why told = tt

pub if_err : {T E : Type 0} {P Q : E → Type 0} → ((e : E) → P e → Q e) → (r : Result T E) → IfErr r P → IfErr r Q
if_err implies (Ok x) p = tt
if_err implies (Err e) p = implies e p
