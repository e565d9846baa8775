-- What a test says that was passed.
use Rattle.std.proofs.Common.{◌≡◌, ℕ, ◌+◌, ◌*◌, ◌≤◌, Bool, true, false, not, List, Option, None, Result, Ok, Err, ap, ◌∙◌, sym, refl, arith}
use Rattle.std.proofs.lemmas.Bool.Decides.{nat_tests}
use Rattle.std.specs.Prelude.{nat_le, ◌&&◌}
use Rattle.ebs_model.specs.declared.keys.SnapKey.{SnapKey}
use Rattle.ebs_model.specs.declared.tags.Tag.{Tag}
use Rattle.ebs_model.specs.declared.rows.SnapRow.{SnapRow}
use Rattle.ebs_model.specs.declared.rows.RowStatus.{RowStatus}
use Rattle.ebs_model.specs.declared.rows.RowStatus.TheVariants.{Pending, Completed, Failed}
use Rattle.ebs_model.specs.declared.answer.Refusal.{Refusal}
use Rattle.ebs_model.specs.Refuse.{◌>>◌, refuse_if}
use Rattle.ebs_model.specs.Limits.{unless, bad_start, is_timeout, is_description, are_tags, is_token_given}
use Rattle.ebs_model.specs.Time.{status_at, status_by, is_pending, is_completed, is_failed}
use Rattle.ebs_model.specs.Access.{seen, own, open_upload, ready}

pub first_ok : (x y : Result (Unit {0}) Refusal) → (x >> y) ≡ Ok tt → x ≡ Ok tt
first_ok (Ok u) y e = refl
first_ok (Err r) y e = cc

last_ok : (x y : Result (Unit {0}) Refusal) → (x >> y) ≡ Ok tt → y ≡ Ok tt
last_ok (Ok u) y e = e
last_ok (Err r) y e = cc

not_refused : (b : Bool) (r : Refusal) → refuse_if (not b) r ≡ Ok tt → b ≡ true
not_refused true r e = refl
not_refused false r e = cc

pending_not_failed : (status : RowStatus) → is_pending status ≡ true → is_failed status ≡ false
pending_not_failed Pending e = refl
pending_not_failed Completed e = cc
pending_not_failed Failed e = cc

completed_not_failed : (status : RowStatus) → is_completed status ≡ true → is_failed status ≡ false
completed_not_failed Pending e = cc
completed_not_failed Completed e = refl
completed_not_failed Failed e = cc

module _ (account : ℕ) (key : SnapKey) (now : ℕ) (row : SnapRow) where
  pub open-pending : open_upload account key now row ≡ Ok tt → is_pending (status_at row now) ≡ true
  open-pending e = not_refused _ _ (last_ok (own account key now row) _ e)

  pub open-stands : open_upload account key now row ≡ Ok tt → is_failed (status_at row now) ≡ false
  open-stands e = pending_not_failed _ (open-pending e)

  pub ready-stands : ready account key now row ≡ Ok tt → is_failed (status_at row now) ≡ false
  ready-stands e = completed_not_failed _ (not_refused _ _ (first_ok _ _ (last_ok (seen account key now row) _ e)))

completed_is : (completed late : Bool) → is_completed (status_by completed late) ≡ true → completed ≡ true
completed_is true late e = refl
completed_is false true e = cc
completed_is false false e = cc

pub ready-completed : (account : ℕ) (key : SnapKey) (now : ℕ) (row : SnapRow) → ready account key now row ≡ Ok tt → row.completed ≡ true
ready-completed account key now row e = completed_is row.completed _ (not_refused _ _ (first_ok _ _ (last_ok (seen account key now row) _ e)))

pending_failed : (b : Bool) → is_failed (status_by false b) ≡ b
pending_failed true = refl
pending_failed false = refl

-- what hasn't failed hadn't failed before
pub stood_before : (completed : Bool) (x clock now : ℕ) → clock ≤ now → is_failed (status_by completed (nat_le x now)) ≡ false → is_failed (status_by completed (nat_le x clock)) ≡ false
stood_before true x clock now h e = refl
stood_before false x clock now h e = pending_failed _ ∙ before (sym (pending_failed _) ∙ e)
  where
    before : nat_le x now ≡ false → nat_le x clock ≡ false
    before e = grind (arith, nat_tests)

unless-none : (b : Bool) (name : List ℕ) (next : Option (List ℕ)) → unless b name next ≡ None → (b ≡ true) × (next ≡ None)
unless-none true name next e = (refl, e)
unless-none false name next e = cc

pub both_first : (a b : Bool) → (a && b) ≡ true → a ≡ true
both_first true b e = refl
both_first false b e = cc

-- an upload that starts is open
pub started-pending : (description : Option (List ℕ)) (tags : List Tag) (token : Option (List ℕ)) (timeout now : ℕ) → bad_start description tags token timeout ≡ None → is_pending (status_by false (nat_le (now + 60 * timeout) now)) ≡ true
started-pending description tags token timeout now e =
    let within = (unless-none (is_timeout timeout) _ _ (unless-none (is_token_given token) _ _ (unless-none (are_tags tags) _ _ (unless-none (is_description description) _ _ e).1).1).1).0 in
    ap (λ b. is_pending (status_by false b)) (early (both_first (nat_le 10 timeout) _ within))
  where
    early : nat_le 10 timeout ≡ true → nat_le (now + 60 * timeout) now ≡ false
    early e = grind (arith, nat_tests)
