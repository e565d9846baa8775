-- Who may read and write, in fields of rows.
use Rattle.std.proofs.Common.{◌≡◌, ◌⊎◌, inl, inr, ℕ, ◌+◌, ◌*◌, Bool, true, false, not, ◌&&◌, ◌||◌, ◌==◌, nat_le, Option, Some, None, Result, Ok, Err, sym, ap, ◌∙◌, refl, arith}
use Rattle.std.proofs.lemmas.Bool.Decides.{nat_tests}
use Rattle.std.specs.List.{list_any}
use Rattle.std.specs.FinMap as fin
use Rattle.ebs_model.specs.declared.keys.SnapKey.{SnapKey}
use Rattle.ebs_model.specs.declared.keys.Moment.{Moment}
use Rattle.ebs_model.specs.declared.rows.SnapRow.{SnapRow}
use Rattle.ebs_model.specs.declared.rows.Tier.{Tier}
use Rattle.ebs_model.specs.declared.rows.Tier.TheVariants.{Standard, Archived, Temporary}
use Rattle.ebs_model.specs.declared.answer.Refusal.{Refusal}
use Rattle.ebs_model.specs.Refuse.{◌>>◌, refuse_if}
use Rattle.ebs_model.specs.Time.{Snapshot, status_at, status_by, is_pending, is_completed, is_failed, is_ahead, is_reached, is_readable, rested}
use Rattle.ebs_model.specs.Access.{owns, may_read, seen, own, done, open_upload, ready, base, is_temporary}
use Rattle.ebs_model.specs.Calls.Bin.{binned}
use Rattle.ebs_model.specs.Machine.{Machine, advance}
use Rattle.ebs_model.proofs.Aged.{aged_row, get-aged, found-rested, found-stays}
use Rattle.ebs_laws.specs.Words.{IsShown, IsTierRead, IsNoRestore, MayRead, MayWrite, MayShare}
use Rattle.ebs_laws.proofs.Ages.{time-left}

pub first_ok : (x y : Result (Unit {0}) Refusal) → (x >> y) ≡ Ok tt → x ≡ Ok tt
first_ok (Ok u) y e = refl
first_ok (Err r) y e = cc

pub last_ok : (x y : Result (Unit {0}) Refusal) → (x >> y) ≡ Ok tt → y ≡ Ok tt
last_ok (Ok u) y e = e
last_ok (Err r) y e = cc

pub passes_by : (b : Bool) (r : Refusal) → refuse_if b r ≡ Ok tt → b ≡ false
passes_by true r e = cc
passes_by false r e = refl

holds : (b : Bool) → not b ≡ false → b ≡ true
holds true e = refl
holds false e = cc

pub same_number : (a b : ℕ) → (a == b) ≡ true → a ≡ b
same_number a b e = grind (arith, nat_tests)

pub number_is : (a b : ℕ) → a ≡ b → (a == b) ≡ true
number_is a b e = grind (arith, nat_tests)

-- of the caller's own, or of what it may read
shown_by : (o p l rest : Bool) → (not o && not ((o || (p || l)) && rest)) ≡ false → (o ≡ true) ⊎ ((l ≡ true) ⊎ (p ≡ true))
shown_by true p l rest e = inl refl
shown_by false true l rest e = inr (inr refl)
shown_by false false true rest e = inr (inl refl)
shown_by false false false rest e = cc

seen_by : (o p l c b t : Bool) → (o ≡ true) ⊎ ((l ≡ true) ⊎ (p ≡ true)) → c ≡ true → b ≡ false → t ≡ true → (not o && not ((o || (p || l)) && (c && (not b && t)))) ≡ false
seen_by true p l c b t h done out read = refl
seen_by false true l true false true h done out read = refl
seen_by false false true true false true h done out read = refl
seen_by false false false c b t (inl e) done out read = cc
seen_by false false false c b t (inr (inl e)) done out read = cc
seen_by false false false c b t (inr (inr e)) done out read = cc
seen_by false p l false b t h done out read = cc
seen_by false p l true true t h done out read = cc
seen_by false p l true false false h done out read = cc

pub completed_is : (c late : Bool) → is_completed (status_by c late) ≡ true → c ≡ true
completed_is true late e = refl
completed_is false true e = cc
completed_is false false e = cc

pending_is : (c late : Bool) → is_pending (status_by c late) ≡ true → (c ≡ false) × (late ≡ false)
pending_is true late e = cc
pending_is false true e = cc
pending_is false false e = (refl, refl)

pub tier_is : (tier : Tier) (now : ℕ) → is_readable tier now ≡ true → IsTierRead tier now
tier_is Standard now e = tt
tier_is Archived now e = cc
tier_is (Temporary until) now e = grind (arith, nat_tests)

pub tier_reads : (tier : Tier) (now : ℕ) → IsTierRead tier now → is_readable tier now ≡ true
tier_reads Standard now h = refl
tier_reads Archived now h = absurd h
tier_reads (Temporary until) now h = grind (arith, nat_tests)

no_restore : (tier : Tier) → is_temporary tier ≡ false → IsNoRestore tier
no_restore Standard e = tt
no_restore Archived e = tt
no_restore (Temporary until) e = cc

-- an end that is neither ahead nor reached isn't there
pub no_end : (end : Option Moment) (now : ℕ) → is_ahead end now ≡ false → is_reached end now ≡ false → end ≡ None
no_end None now a r = refl
no_end (Some end) now a r = absurd (grind (arith, nat_tests))

module _ (account : ℕ) (key : SnapKey) (now : ℕ) (row : SnapRow) where
  pub seen-out : seen account key now row ≡ Ok tt → is_ahead row.bin_end now ≡ false
  seen-out e = passes_by _ _ (first_ok _ _ e)

  pub seen-shown : seen account key now row ≡ Ok tt → IsShown account key row
  seen-shown e = by (shown_by (owns account key) row.public (list_any (λ a. a == account) row.shared) _ (passes_by _ _ (last_ok _ _ e)))
    where
      by : (owns account key ≡ true) ⊎ ((list_any (λ a. a == account) row.shared ≡ true) ⊎ (row.public ≡ true)) → IsShown account key row
      by (inl e) = inl (same_number account key.account e)
      by (inr e) = inr e

  pub ready-shown : ready account key now row ≡ Ok tt → (is_ahead row.bin_end now ≡ false) × IsShown account key row × (row.completed ≡ true) × IsTierRead row.tier now
  ready-shown e =
      let see = first_ok (seen account key now row) _ e in
      let rest = last_ok (seen account key now row) _ e in
      (seen-out see, seen-shown see, completed_is row.completed _ (holds _ (passes_by _ _ (first_ok _ _ rest))), tier_is row.tier now (holds _ (passes_by _ _ (last_ok _ _ rest))))

  pub base-ready : base account key now row ≡ Ok tt → (ready account key now row ≡ Ok tt) × IsNoRestore row.tier
  base-ready e = (first_ok (ready account key now row) _ e, no_restore row.tier (passes_by _ _ (last_ok (ready account key now row) _ e)))

  pub open-owned : open_upload account key now row ≡ Ok tt → (is_ahead row.bin_end now ≡ false) × (account ≡ key.account) × (row.completed ≡ false) × (nat_le (row.last.second + 60 * row.timeout) now ≡ false)
  open-owned e =
      let mine = first_ok (own account key now row) _ e in
      let see = first_ok (seen account key now row) _ mine in
      let (going, intime) = pending_is row.completed _ (holds _ (passes_by _ _ (last_ok (own account key now row) _ e))) in
      (seen-out see, same_number account key.account (holds _ (passes_by _ _ (last_ok (seen account key now row) _ mine))), going, intime)

  pub done-shown : done account key now row ≡ Ok tt → (is_ahead row.bin_end now ≡ false) × (row.completed ≡ true)
  done-shown e = (seen-out (first_ok (seen account key now row) _ (first_ok (own account key now row) _ e)), completed_is row.completed _ (holds _ (passes_by _ _ (last_ok (own account key now row) _ e))))

  pub own-owned : own account key now row ≡ Ok tt → account ≡ key.account
  own-owned e = same_number account key.account (holds _ (passes_by _ _ (last_ok (seen account key now row) _ e)))

  pub own-out : own account key now row ≡ Ok tt → is_ahead row.bin_end now ≡ false
  own-out e = seen-out (first_ok (seen account key now row) _ e)

  -- what its owner finds in the bin
  pub binned-owned : binned account key now row ≡ Ok tt → account ≡ key.account
  binned-owned e = same_number account key.account (holds _ (passes_by _ _ (first_ok _ _ e)))

  pub binned-ahead : binned account key now row ≡ Ok tt → is_ahead row.bin_end now ≡ true
  binned-ahead e = holds _ (passes_by _ _ (last_ok _ _ e))

  pub done-owned : done account key now row ≡ Ok tt → account ≡ key.account
  done-owned e = own-owned (first_ok (own account key now row) _ e)

  pub shown-ready : IsShown account key row → row.completed ≡ true → row.bin_end ≡ None → IsTierRead row.tier now → ready account key now row ≡ Ok tt
  shown-ready shown done out tier =
      let ended : is_ahead row.bin_end now ≡ false = ap (λ end. is_ahead end now) out in
      let whole : is_completed (status_at row now) ≡ true = ap (λ c. is_completed (status_by c (nat_le (row.last.second + 60 * row.timeout) now))) done in
      let reads = tier_reads row.tier now tier in
      let mine : (not (owns account key) && not (may_read account key now row)) ≡ false = seen_by (owns account key) row.public (list_any (λ a. a == account) row.shared) _ _ _ (by shown) whole ended reads in
      rw (mine, ended, whole, reads) refl
    where
      by : IsShown account key row → (owns account key ≡ true) ⊎ ((list_any (λ a. a == account) row.shared ≡ true) ⊎ (row.public ≡ true))
      by (inl e) = inl (number_is account key.account e)
      by (inr e) = inr e

-- what was there of what is found at a moment
pub record Was (m : Machine) (now : Moment) (key : SnapKey) (s : Snapshot) : Type 0 where
  pub old : Snapshot
  pub is_there : fin.get m.snaps key ≡ Some old
  pub rests : rested now.second old ≡ s
  pub ahead : is_reached old.row.bin_end now.second ≡ false

pub was-there : (m : Machine) (now : Moment) (key : SnapKey) (s : Snapshot) → fin.get (advance m now).snaps key ≡ Some s → Was m now key s
was-there m now key s e = by (fin.get m.snaps key) refl (sym (get-aged now.second m.snaps key) ∙ e)
  where
    by : (o : Option Snapshot) → fin.get m.snaps key ≡ o → aged_row now.second o ≡ Some s → Was m now key s
    by None is e = cc
    by (Some old) is e = record { old = old; is_there = is; rests = found-rested now.second old s e; ahead = holds_not _ (found-stays now.second old s e) }
      where
        holds_not : (b : Bool) → not b ≡ true → b ≡ false
        holds_not true e = cc
        holds_not false e = refl

not_failed : (c late : Bool) → c ≡ true → is_failed (status_by c late) ≡ false
not_failed true late e = refl
not_failed false late e = cc

module _ (m : Machine) (account : ℕ) (now : Moment) (key : SnapKey) where
  pub may-read : (s : Snapshot) → fin.get (advance m now).snaps key ≡ Some s → ready account key now.second s.row ≡ Ok tt → (old : Snapshot) × MayRead m account key now.second old
  may-read s is passes =
      let was = was-there m now key s is in
      let (out, shown, done, tier) = ready-shown account key now.second (rested now.second was.old).row (ap (λ (s : Snapshot). ready account key now.second s.row) was.rests ∙ passes) in
      (was.old, record { is_there = was.is_there; shown = shown; completed = done; not_binned = no_end was.old.row.bin_end now.second out was.ahead; tier = tier })

  pub may-write : (s : Snapshot) → fin.get (advance m now).snaps key ≡ Some s → open_upload account key now.second s.row ≡ Ok tt → (old : Snapshot) × MayWrite m account key now.second old
  may-write s is passes =
      let was = was-there m now key s is in
      let (out, owned, going, intime) = open-owned account key now.second (rested now.second was.old).row (ap (λ (s : Snapshot). open_upload account key now.second s.row) was.rests ∙ passes) in
      (was.old, record { is_there = was.is_there; owned = owned; not_completed = going; in_time = grind (arith, nat_tests); not_binned = no_end was.old.row.bin_end now.second out was.ahead })

  pub may-share : (s : Snapshot) → fin.get (advance m now).snaps key ≡ Some s → done account key now.second s.row ≡ Ok tt → (old : Snapshot) × MayShare m account key old
  may-share s is passes =
      let was = was-there m now key s is in
      let there = ap (λ (s : Snapshot). done account key now.second s.row) was.rests ∙ passes in
      let (out, whole) = done-shown account key now.second (rested now.second was.old).row there in
      (was.old, record { is_there = was.is_there; owned = done-owned account key now.second (rested now.second was.old).row there; completed = whole; not_binned = no_end was.old.row.bin_end now.second out was.ahead })

  -- what may be read is there at the moment, and passes the test
  pub read-there : (s : Snapshot) → MayRead m account key now.second s → (fin.get (advance m now).snaps key ≡ Some s) × (ready account key now.second s.row ≡ Ok tt)
  read-there s h = (
    time-left m now key s h.is_there (ap (λ end. is_reached end now.second) h.not_binned) (not_failed s.row.completed _ h.completed),
    shown-ready account key now.second s.row h.shown h.completed h.not_binned h.tier,
  )
