-- What an account finds in two machines that it sees alike.
use Rattle.std.proofs.Common.{◌≡◌, ℕ, ◌+◌, ◌*◌, nat_le, Bool, true, false, cond, not, ◌&&◌, ◌||◌, ◌==◌, List, Option, Some, None, Result, Ok, Err, sym, ap, subst, ◌∙◌, refl, is_some}
use Rattle.std.proofs.lemmas.Bool.{false≢true}
use Rattle.std.specs.List.{list_any}
use Rattle.std.specs.FinMap as fin
use Rattle.std.specs.Ordering.{nat_cmp}
use Rattle.ebs_model.specs.declared.keys.SnapKey.{SnapKey}
use Rattle.ebs_model.specs.declared.rows.SnapRow.{SnapRow}
use Rattle.ebs_model.specs.declared.rows.LockState.{LockState}
use Rattle.ebs_model.specs.declared.answer.Kind.TheVariants.{Snapshot as snapshot}
use Rattle.ebs_model.specs.declared.answer.StateName.TheVariants as state
use Rattle.ebs_model.specs.declared.answer.Refusal.{Refusal}
use Rattle.ebs_model.specs.declared.answer.Refusal.TheVariants.{NotFound, NotOwner, WrongState}
use Rattle.ebs_model.specs.Refuse.{◌>>=◌, ◌>>◌, refuse_if, some_or}
use Rattle.ebs_model.specs.Arrays.{WholeArray}
use Rattle.ebs_model.specs.Time.{Snapshot, status_by, status_at, is_completed, is_readable, is_ahead}
use Rattle.ebs_model.specs.Access.{owns, may_read, seen, own, done, open_upload, ready, base, state_of, is_temporary}
use Rattle.ebs_model.specs.Calls.Bin.{binned}
use Rattle.ebs_model.specs.Machine.{Machine}
use Rattle.ebs_laws.specs.OrderLaws.{is_in_bin, is_tier_read}
use Rattle.ebs_laws.specs.IsolationLaws.{is_shown_to, shown, seen_of, view, Both, Renaming, SameArray, SameSnapshot, SameView}
use Rattle.ebs_laws.proofs.Whole.{the_snapshot}
use Rattle.ebs_laws.proofs.Ordered.{bin-same, tier-same}
use Rattle.ebs_laws.proofs.Matches.{Matched, refused, same-refusal, stopped}

-- a machine with the clock and the secret of another
abbrev pub twin : Machine → Machine → Machine
twin m n0 = record n0 { clock = m.clock; secret = m.secret }

abbrev pub Indexes : Type 0
Indexes = fin.FinMap nat_cmp (Unit {0})

pub view-own : (account : ℕ) (key : SnapKey) (now : ℕ) (o : Option Snapshot) → owns account key ≡ true → seen_of account key now o ≡ o
view-own account key now None e = refl
view-own account key now (Some s) e = ap (λ b. cond b (Some s) (cond (is_shown_to account now s.row) (Some (shown s)) None)) e

abbrev pub seen_by_other : ℕ → ℕ → Option Snapshot → Option Snapshot
seen_by_other account now None = None
seen_by_other account now (Some s) = cond (is_shown_to account now s.row) (Some (shown s)) None

pub view-other : (account : ℕ) (key : SnapKey) (now : ℕ) (o : Option Snapshot) → owns account key ≡ false → seen_of account key now o ≡ seen_by_other account now o
view-other account key now None e = refl
view-other account key now (Some s) e = ap (λ b. cond b (Some s) (cond (is_shown_to account now s.row) (Some (shown s)) None)) e

completed-same : (c late : Bool) → is_completed (status_by c late) ≡ c
completed-same true late = refl
completed-same false true = refl
completed-same false false = refl

-- the tests of another than the owner
module _ (account : ℕ) (key : SnapKey) (now : ℕ) (row : SnapRow) (e : owns account key ≡ false) where
  abbrev some_reader : Bool
  some_reader = row.public || list_any (λ a. a == account) row.shared

  reads-so : may_read account key now row ≡ is_shown_to account now row
  reads-so = λ i. (e i || some_reader) && (completed-same row.completed (nat_le (row.last.second + 60 * row.timeout) now) i && (not (bin-same row.bin_end now i) && tier-same row.tier now i))

  sees : (ahead p c t : Bool) → (refuse_if ahead (NotFound snapshot) >> refuse_if (not false && not (p && (c && (not ahead && t)))) (NotFound snapshot)) ≡ cond (p && (c && (not ahead && t))) (Ok tt) (Err (NotFound snapshot))
  sees true true true t = refl
  sees true true false t = refl
  sees true false c t = refl
  sees false true true true = refl
  sees false true true false = refl
  sees false true false t = refl
  sees false false c t = refl

  pub seen-other : seen account key now row ≡ cond (is_shown_to account now row) (Ok tt) (Err (NotFound snapshot))
  seen-other =
      (λ i. refuse_if (bin-same row.bin_end now i) (NotFound snapshot) >> refuse_if (not (e i) && not (reads-so i)) (NotFound snapshot))
      ∙ sees (is_in_bin row.bin_end now) some_reader row.completed (is_tier_read row.tier now)

  owner-only : (b : Bool) → (cond b (Ok tt) (Err (NotFound snapshot)) >> refuse_if (not false) NotOwner) ≡ Err (cond b NotOwner (NotFound snapshot))
  owner-only true = refl
  owner-only false = refl

  pub own-other : own account key now row ≡ Err (cond (is_shown_to account now row) NotOwner (NotFound snapshot))
  own-other = (λ i. seen-other i >> refuse_if (not (e i)) NotOwner) ∙ owner-only (is_shown_to account now row)

-- a test that begins with that of owners
pub record IsOwners (account : ℕ) (key : SnapKey) (now : ℕ) (test : SnapRow → Result (Unit {0}) Refusal) : Type 0 where
  pub refuses : (x : SnapRow) (r : Refusal) → own account key now x ≡ Err r → test x ≡ Err r

pub own-IsOwners : (account : ℕ) (key : SnapKey) (now : ℕ) → IsOwners account key now (own account key now)
own-IsOwners account key now = record { refuses = λ x r e. e }

pub open-IsOwners : (account : ℕ) (key : SnapKey) (now : ℕ) → IsOwners account key now (open_upload account key now)
open-IsOwners account key now = record { refuses = λ x r e. stopped (own account key now x) _ r e }

pub done-IsOwners : (account : ℕ) (key : SnapKey) (now : ℕ) → IsOwners account key now (done account key now)
done-IsOwners account key now = record { refuses = λ x r e. stopped (own account key now x) _ r e }

-- a row with other values of what its owner alone knows
abbrev pub masked : SnapRow → LockState → List ℕ → Bool → Indexes → SnapRow
masked row lock shared public put = record row { lock = lock; shared = shared; public = public; put = put }

-- a test of readers, which begins with `seen` and looks at nothing that the owner alone knows
pub record IsReaders (account : ℕ) (key : SnapKey) (now : ℕ) (test : SnapRow → Result (Unit {0}) Refusal) : Type 0 where
  pub rest : SnapRow → Result (Unit {0}) Refusal
  pub is : (x : SnapRow) → test x ≡ (seen account key now x >> rest x)
  pub blind : (x : SnapRow) (lock : LockState) (shared : List ℕ) (public : Bool) (put : Indexes) → rest (masked x lock shared public put) ≡ rest x

then_nothing : (v : Result (Unit {0}) Refusal) → v ≡ (v >> Ok tt)
then_nothing (Ok u) = refl
then_nothing (Err r) = refl

in_one : (x y z : Result (Unit {0}) Refusal) → ((x >> y) >> z) ≡ (x >> (y >> z))
in_one (Ok u) y z = refl
in_one (Err r) y z = refl

pub seen-IsReaders : (account : ℕ) (key : SnapKey) (now : ℕ) → IsReaders account key now (seen account key now)
seen-IsReaders account key now = record { rest = λ x. Ok tt; is = λ x. then_nothing (seen account key now x); blind = λ x l a p s. refl }

abbrev readable : ℕ → SnapRow → Result (Unit {0}) Refusal
readable now row = refuse_if (not (is_completed (status_at row now))) (WrongState (state_of (status_at row now))) >> refuse_if (not (is_readable row.tier now)) (WrongState state.Archived)

pub ready-IsReaders : (account : ℕ) (key : SnapKey) (now : ℕ) → IsReaders account key now (ready account key now)
ready-IsReaders account key now = record { rest = readable now; is = λ x. refl; blind = λ x l a p s. refl }

pub base-IsReaders : (account : ℕ) (key : SnapKey) (now : ℕ) → IsReaders account key now (base account key now)
base-IsReaders account key now = record {
  rest = λ row. readable now row >> refuse_if (is_temporary row.tier) (WrongState state.Temporary);
  is = λ x. in_one (seen account key now x) (readable now x) (refuse_if (is_temporary x.tier) (WrongState state.Temporary));
  blind = λ x l a p s. refl;
}

-- a row of another that is seen, but for what its owner alone knows
unmasked : (r : Renaming) (x y : Snapshot) → SameSnapshot r (shown x) (shown y) → y.row ≡ masked x.row y.row.lock y.row.shared y.row.public y.row.put
unmasked r x y same = λ i. masked (same.row i) y.row.lock y.row.shared y.row.public y.row.put

module _ (account : ℕ) (r : Renaming) (m : Machine) (n0 : Machine) (h : SameView account r m (twin m n0)) where
  abbrev now : ℕ
  now = m.clock.second

  pub own-rows : (key : SnapKey) → owns account key ≡ true → Both (SameSnapshot r) (fin.get m.snaps key) (fin.get n0.snaps key)
  own-rows key e = subst (λ o. Both (SameSnapshot r) o (fin.get n0.snaps key)) (view-own account key now _ e) (subst (λ o. Both (SameSnapshot r) (view account m key) o) (view-own account key now _ e) (h.snaps key))

  pub other-rows : (key : SnapKey) → owns account key ≡ false → Both (SameSnapshot r) (seen_by_other account now (fin.get m.snaps key)) (seen_by_other account now (fin.get n0.snaps key))
  other-rows key e = subst (λ o. Both (SameSnapshot r) o (seen_by_other account now (fin.get n0.snaps key))) (view-other account key now _ e) (subst (λ o. Both (SameSnapshot r) (view account m key) o) (view-other account key now _ e) (h.snaps key))

  -- what owners' tests find
  module _ {C D : Type 0} (P : C → D → Type 0) (key : SnapKey) (test : SnapRow → Result (Unit {0}) Refusal) (is : IsOwners account key now test) (f : Snapshot → Result C Refusal) (g : Snapshot → Result D Refusal) (next : (x : Snapshot) (b : WholeArray) → owns account key ≡ true → SameArray r x.array b → Matched P (f x) (g (record { row = x.row; array = b }))) where
    abbrev first : Option Snapshot → Result Snapshot Refusal
    first o = some_or o (NotFound snapshot) >>= λ s. test s.row >> Ok s

    of_own : owns account key ≡ true → (o p : Option Snapshot) → Both (SameSnapshot r) o p → Matched P (first o >>= f) (first p >>= g)
    of_own e None None b = refused
    of_own e None (Some y) b = absurd b
    of_own e (Some x) None b = absurd b
    of_own e (Some x) (Some y) b = subst (λ row. Matched P ((test x.row >> Ok x) >>= f) ((test row >> Ok (record { row = row; array = y.array })) >>= g)) (sym b.row) (at (test x.row))
      where
        at : (v : Result (Unit {0}) Refusal) → Matched P ((v >> Ok x) >>= f) ((v >> Ok (record { row = x.row; array = y.array })) >>= g)
        at (Ok u) = next x y.array e b.array
        at (Err r) = refused

    of_other : owns account key ≡ false → (o : Option Snapshot) → first o ≡ Err (cond (is_some (seen_by_other account now o)) NotOwner (NotFound snapshot))
    of_other e None = refl
    of_other e (Some x) = ap (λ v. v >> Ok x) (is.refuses x.row _ (own-other account key now x.row e)) ∙ ap Err (as_seen (is_shown_to account now x.row))
      where
        as_seen : (b : Bool) → cond b NotOwner (NotFound snapshot) ≡ cond (is_some (cond b (Some (shown x)) None)) NotOwner (NotFound snapshot)
        as_seen true = refl
        as_seen false = refl

    some_alike : (o p : Option Snapshot) → Both (SameSnapshot r) o p → is_some p ≡ is_some o
    some_alike None None b = refl
    some_alike None (Some y) b = absurd b
    some_alike (Some x) None b = absurd b
    some_alike (Some x) (Some y) b = refl

    by_owner : (b : Bool) → owns account key ≡ b → Matched P (the_snapshot m key test >>= f) (the_snapshot (twin m n0) key test >>= g)
    by_owner true e = of_own e (fin.get m.snaps key) (fin.get n0.snaps key) (own-rows key e)
    by_owner false e = same-refusal P _ _ (cond (is_some (seen_by_other account now (fin.get m.snaps key))) NotOwner (NotFound snapshot))
        (ap (λ v. v >>= f) (of_other e (fin.get m.snaps key)))
        (ap (λ v. v >>= g) (of_other e (fin.get n0.snaps key) ∙ ap (λ b. Err (cond b NotOwner (NotFound snapshot))) (some_alike _ _ (other-rows key e))))

    pub both-owned : Matched P (the_snapshot m key test >>= f) (the_snapshot (twin m n0) key test >>= g)
    both-owned = by_owner (owns account key) refl

  -- what its owner finds in the bin; nobody else finds anything there
  module _ {C D : Type 0} (P : C → D → Type 0) (key : SnapKey) (f : Snapshot → Result C Refusal) (g : Snapshot → Result D Refusal) (next : (x : Snapshot) (b : WholeArray) → owns account key ≡ true → SameArray r x.array b → Matched P (f x) (g (record { row = x.row; array = b }))) where
    abbrev in_bin : Option Snapshot → Result Snapshot Refusal
    in_bin o = some_or o (NotFound snapshot) >>= λ s. binned account key now s.row >> Ok s

    binned_own : owns account key ≡ true → (o p : Option Snapshot) → Both (SameSnapshot r) o p → Matched P (in_bin o >>= f) (in_bin p >>= g)
    binned_own e None None b = refused
    binned_own e None (Some y) b = absurd b
    binned_own e (Some x) None b = absurd b
    binned_own e (Some x) (Some y) b = subst (λ row. Matched P ((binned account key now x.row >> Ok x) >>= f) ((binned account key now row >> Ok (record { row = row; array = y.array })) >>= g)) (sym b.row) (at (binned account key now x.row))
      where
        at : (v : Result (Unit {0}) Refusal) → Matched P ((v >> Ok x) >>= f) ((v >> Ok (record { row = x.row; array = y.array })) >>= g)
        at (Ok u) = next x y.array e b.array
        at (Err r) = refused

    binned_other : owns account key ≡ false → (o : Option Snapshot) → in_bin o ≡ Err (NotFound snapshot)
    binned_other e None = refl
    binned_other e (Some x) = ap (λ b. (refuse_if (not b) (NotFound snapshot) >> refuse_if (not (is_ahead x.row.bin_end now)) (NotFound snapshot)) >> Ok x) e

    binned_by : (b : Bool) → owns account key ≡ b → Matched P (the_snapshot m key (binned account key now) >>= f) (the_snapshot (twin m n0) key (binned account key now) >>= g)
    binned_by true e = binned_own e (fin.get m.snaps key) (fin.get n0.snaps key) (own-rows key e)
    binned_by false e = same-refusal P _ _ (NotFound snapshot) (ap (λ v. v >>= f) (binned_other e (fin.get m.snaps key))) (ap (λ v. v >>= g) (binned_other e (fin.get n0.snaps key)))

    pub both-binned : Matched P (the_snapshot m key (binned account key now) >>= f) (the_snapshot (twin m n0) key (binned account key now) >>= g)
    both-binned = binned_by (owns account key) refl

  -- what is known of what the owner alone knows: to the owner it is equal
  abbrev pub Known : SnapKey → SnapRow → LockState → List ℕ → Bool → Indexes → Type 0
  Known key row lock shared public put = owns account key ≡ true → (lock ≡ row.lock) × (shared ≡ row.shared) × (public ≡ row.public) × (put ≡ row.put)

  -- what readers' tests find
  module _ {C D : Type 0} (P : C → D → Type 0) (key : SnapKey) (test : SnapRow → Result (Unit {0}) Refusal) (is : IsReaders account key now test) (f : Snapshot → Result C Refusal) (g : Snapshot → Result D Refusal)
      (next : (x : Snapshot) (b : WholeArray) (lock : LockState) (shared : List ℕ) (public : Bool) (put : Indexes) → Known key x.row lock shared public put → SameArray r x.array b → Matched P (f x) (g (record { row = masked x.row lock shared public put; array = b }))) where
    abbrev found : Option Snapshot → Result Snapshot Refusal
    found o = some_or o (NotFound snapshot) >>= λ s. test s.row >> Ok s

    -- two rows that the tests find alike
    alike : (x y : Snapshot) (v : Result (Unit {0}) Refusal) → test x.row ≡ v → test y.row ≡ v → y.row ≡ masked x.row y.row.lock y.row.shared y.row.public y.row.put → Known key x.row y.row.lock y.row.shared y.row.public y.row.put → SameArray r x.array y.array
        → Matched P ((test x.row >> Ok x) >>= f) ((test y.row >> Ok y) >>= g)
    alike x y (Err v) e e' is mine same = same-refusal P _ _ v (ap (λ v. (v >> Ok x) >>= f) e) (ap (λ v. (v >> Ok y) >>= g) e')
    alike x y (Ok u) e e' is mine same =
        let one : ((test x.row >> Ok x) >>= f) ≡ f x = ap (λ v. (v >> Ok x) >>= f) e in
        let two : ((test y.row >> Ok y) >>= g) ≡ g (record { row = masked x.row y.row.lock y.row.shared y.row.public y.row.put; array = y.array }) = ap (λ v. (v >> Ok y) >>= g) e' ∙ (λ i. g (record { row = is i; array = y.array })) in
        subst (λ v. Matched P v ((test y.row >> Ok y) >>= g)) (sym one) (subst (λ v. Matched P (f x) v) (sym two) (next x y.array y.row.lock y.row.shared y.row.public y.row.put mine same))

    to_own : owns account key ≡ true → (o p : Option Snapshot) → Both (SameSnapshot r) o p → Matched P (found o >>= f) (found p >>= g)
    to_own e None None b = refused
    to_own e None (Some y) b = absurd b
    to_own e (Some x) None b = absurd b
    to_own e (Some x) (Some y) b =
        alike x y (test x.row) refl (ap test b.row) (λ i. masked (b.row i) y.row.lock y.row.shared y.row.public y.row.put)
        (λ _. (ap (λ (row : SnapRow). row.lock) b.row, ap (λ (row : SnapRow). row.shared) b.row, ap (λ (row : SnapRow). row.public) b.row, ap (λ (row : SnapRow). row.put) b.row)) b.array

    -- what somebody else gets, where a row is seen and where not
    hidden : owns account key ≡ false → (x : Snapshot) → is_shown_to account now x.row ≡ false → test x.row ≡ Err (NotFound snapshot)
    hidden e x shut = is.is x.row ∙ ap (λ v. v >> is.rest x.row) (seen-other account key now x.row e ∙ ap (λ b. cond b (Ok tt) (Err (NotFound snapshot))) shut)

    open_to : owns account key ≡ false → (x : Snapshot) → is_shown_to account now x.row ≡ true → test x.row ≡ is.rest x.row
    open_to e x free = is.is x.row ∙ ap (λ v. v >> is.rest x.row) (seen-other account key now x.row e ∙ ap (λ b. cond b (Ok tt) (Err (NotFound snapshot))) free)

    to_other : owns account key ≡ false → (o p : Option Snapshot) → Both (SameSnapshot r) (seen_by_other account now o) (seen_by_other account now p) → Matched P (found o >>= f) (found p >>= g)
    to_other e None None b = refused
    to_other e None (Some y) b = at (is_shown_to account now y.row) refl b
      where
        at : (v : Bool) → is_shown_to account now y.row ≡ v → Both (SameSnapshot r) None (cond v (Some (shown y)) None) → Matched P (Err (NotFound snapshot)) ((test y.row >> Ok y) >>= g)
        at true s b = absurd b
        at false s b = same-refusal P _ _ (NotFound snapshot) refl (ap (λ v. (v >> Ok y) >>= g) (hidden e y s))
    to_other e (Some x) None b = at (is_shown_to account now x.row) refl b
      where
        at : (v : Bool) → is_shown_to account now x.row ≡ v → Both (SameSnapshot r) (cond v (Some (shown x)) None) None → Matched P ((test x.row >> Ok x) >>= f) (Err (NotFound snapshot))
        at true s b = absurd b
        at false s b = same-refusal P _ _ (NotFound snapshot) (ap (λ v. (v >> Ok x) >>= f) (hidden e x s)) refl
    to_other e (Some x) (Some y) b = at (is_shown_to account now x.row) (is_shown_to account now y.row) refl refl b
      where
        at : (v w : Bool) → is_shown_to account now x.row ≡ v → is_shown_to account now y.row ≡ w → Both (SameSnapshot r) (cond v (Some (shown x)) None) (cond w (Some (shown y)) None) → Matched P ((test x.row >> Ok x) >>= f) ((test y.row >> Ok y) >>= g)
        at false false s t b = same-refusal P _ _ (NotFound snapshot) (ap (λ v. (v >> Ok x) >>= f) (hidden e x s)) (ap (λ v. (v >> Ok y) >>= g) (hidden e y t))
        at true false s t b = absurd b
        at false true s t b = absurd b
        at true true s t b =
            let like = unmasked r x y b in
            alike x y (is.rest x.row) (open_to e x s) (open_to e y t ∙ ap is.rest like ∙ is.blind x.row y.row.lock y.row.shared y.row.public y.row.put) like (λ o. absurd (false≢true (sym e ∙ o))) b.array

    by_caller : (b : Bool) → owns account key ≡ b → Matched P (the_snapshot m key test >>= f) (the_snapshot (twin m n0) key test >>= g)
    by_caller true e = to_own e _ _ (own-rows key e)
    by_caller false e = to_other e _ _ (other-rows key e)

    pub both-read : Matched P (the_snapshot m key test >>= f) (the_snapshot (twin m n0) key test >>= g)
    both-read = by_caller (owns account key) refl
