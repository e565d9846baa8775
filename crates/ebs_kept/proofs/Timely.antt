-- Uploads that haven't failed.
use Rattle.std.proofs.Common.{◌≡◌, ℕ, ◌+◌, ◌*◌, ◌≤◌, Bool, true, false, Some, None, Result, Ok, Err, OnErr, ap, refl, arith}
use Rattle.std.specs.Prelude.{nat_le, ◌&&◌}
use Rattle.std.proofs.lemmas.Bool.Decides.{nat_tests}
use Rattle.ebs_model.specs.declared.rows.RowStatus.{RowStatus}
use Rattle.ebs_model.specs.declared.rows.RowStatus.TheVariants.{Pending, Completed, Failed}
use Rattle.ebs_model.specs.Limits.{most_gib, is_size}
use Rattle.ebs_model.specs.Time.{status_by, is_failed, is_pending, is_completed}

pub pending-not-failed : (s : RowStatus) → is_pending s ≡ true → is_failed s ≡ false
pending-not-failed Pending e = refl
pending-not-failed Completed e = cc
pending-not-failed Failed e = cc

pub completed-not-failed : (s : RowStatus) → is_completed s ≡ true → is_failed s ≡ false
completed-not-failed Pending e = refl
completed-not-failed Completed e = refl
completed-not-failed Failed e = cc

later : (now timeout : ℕ) → 1 ≤ timeout → nat_le (now + 60 * timeout) now ≡ false
later now timeout h = grind (arith, nat_tests)

-- none fails at the moment of its own put
pub on_time : (completed : Bool) (now timeout : ℕ) → (completed ≡ false → 1 ≤ timeout) → is_failed (status_by completed (nat_le (now + 60 * timeout) now)) ≡ false
on_time true now timeout h = refl
on_time false now timeout h = ap (λ b. is_failed (status_by false b)) (later now timeout (h refl))

pub some_none : {A : Type 0} {x : A} → Some x ≡ None → ⊥
some_none e = cc

-- what holds anyway holds at `Err`
pub on_err : {A E : Type 0} (r : Result A E) (P : Type 0) → P → OnErr r P
on_err (Ok x) P p = tt
on_err (Err e) P p = p

pub both : (a b : Bool) → (a && b) ≡ true → (a ≡ true) × (b ≡ true)
both true b e = (refl, e)
both false b e = cc

-- an image has at most 16384 GiB
pub sized : (size : ℕ) → is_size size ≡ true → size ≤ most_gib
sized size e =
    let t = (both (nat_le 1 size) (nat_le size most_gib) e).1 in
    grind (arith, nat_tests)
