-- A walk over the tests of a call, to what it comes to.
use Rattle.std.proofs.Common.{◌≡◌, ℕ, ◌<◌, ◌≤◌, arith, Bool, true, false, not, ◌&&◌, ◌==◌, nat_le, nat_lt, Option, Some, None, Result, Ok, Err, refl, sym, ap, subst, ◌∙◌}
use Rattle.std.proofs.lemmas.Bool.Decides.{nat_tests}
use Rattle.std.specs.FinMap.{get}
use Rattle.ebs_model.specs.declared.keys.SnapKey.{SnapKey}
use Rattle.ebs_model.specs.declared.keys.VolKey.{VolKey}
use Rattle.ebs_model.specs.declared.keys.PolicyKey.{PolicyKey}
use Rattle.ebs_model.specs.declared.policy.Policy.{Policy}
use Rattle.ebs_model.specs.declared.rows.SnapRow.{SnapRow}
use Rattle.ebs_model.specs.declared.rows.VolRow.{VolRow}
use Rattle.ebs_model.specs.declared.rows.TokenRow.{TokenRow}
use Rattle.ebs_model.specs.declared.change.Decision.{Decision}
use Rattle.ebs_model.specs.declared.answer.Kind.TheVariants as kind
use Rattle.ebs_model.specs.declared.answer.Refusal.{Refusal}
use Rattle.ebs_model.specs.declared.answer.Refusal.TheVariants.{NotFound}
use Rattle.ebs_model.specs.Refuse.{◌>>=◌, ◌>>◌, refuse_if, some_or}
use Rattle.ebs_model.specs.Time.{status_at, is_pending, is_completed}
use Rattle.ebs_model.specs.Access.{open_upload, own, done}
use Rattle.ebs_model.specs.Rows.{Rows, the_row, the_volume, the_policy}
use Rattle.ebs_model.specs.Calls.Start.{by_token}

pub data IfDone {A : Type 0} (P : A → Type 0) : Result A Refusal → Type 0 where
  achieved : {x : A} → P x → IfDone P (Ok x)
  refused : {r : Refusal} → IfDone P (Err r)

pub after : {A B : Type 0} (P : B → Type 0) (x : Result A Refusal) (f : A → Result B Refusal) → ((v : A) → x ≡ Ok v → IfDone P (f v)) → IfDone P (x >>= f)
after P (Ok v) f h = h v refl
after P (Err r) f h = refused

pub passed : {B : Type 0} (P : B → Type 0) (x : Result (Unit {0}) Refusal) (y : Result B Refusal) → (x ≡ Ok tt → IfDone P y) → IfDone P (x >> y)
passed P (Ok u) y h = h refl
passed P (Err r) y h = refused

pub by_use : (P : Decision → Type 0) (o : Option TokenRow) (repeat : TokenRow → Result Decision Refusal) (fresh : Result Decision Refusal) → ((row : TokenRow) → IfDone P (repeat row)) → (o ≡ None → IfDone P fresh) → IfDone P (by_token o repeat fresh)
by_use P None repeat fresh f g = g refl
by_use P (Some row) repeat fresh f g = f row

ok_same : {A : Type 0} (y x : A) → ◌≡◌ {A = Result A Refusal} (Ok y) (Ok x) → y ≡ x
ok_same y x e = cc

pub of_done : {A : Type 0} (P : A → Type 0) (x : A) (r : Result A Refusal) → r ≡ Ok x → IfDone P r → P x
of_done P x (Ok y) e (achieved p) = subst P (ok_same y x e) p
of_done P x (Err r) e d = cc

-- ---- what was found

pub found : (rows : Rows) (key : SnapKey) (test : SnapRow → Result (Unit {0}) Refusal) (row : SnapRow) → the_row rows key test ≡ Ok row → (get rows.snaps key ≡ Some row) × (test row ≡ Ok tt)
found rows key test row e = at (get rows.snaps key) refl e
  where
    tested : (x : Result (Unit {0}) Refusal) (kept : SnapRow) → (x >> Ok kept) ≡ Ok row → (kept ≡ row) × (x ≡ Ok tt)
    tested (Ok u) kept e = (cc, refl)
    tested (Err r) kept e = cc

    at : (o : Option SnapRow) → get rows.snaps key ≡ o → (some_or o (NotFound kind.Snapshot) >>= λ kept. test kept >> Ok kept) ≡ Ok row → (get rows.snaps key ≡ Some row) × (test row ≡ Ok tt)
    at None is e = cc
    at (Some kept) is e =
        let (same, passes) = tested (test kept) kept e in
        (is ∙ ap Some same, ap test (sym same) ∙ passes)

same : (a b : ℕ) → (a == b) ≡ true → a ≡ b
same a b t = grind (arith, nat_tests)

pub found_volume : (rows : Rows) (account : ℕ) (key : VolKey) (row : VolRow) → the_volume rows account key ≡ Ok row → (get rows.vols key ≡ Some row) × (account ≡ key.account)
found_volume rows account key row e = by (account == key.account) (get rows.vols key) refl refl e
  where
    by : (b : Bool) (o : Option VolRow) → (account == key.account) ≡ b → get rows.vols key ≡ o → (refuse_if (not b) (NotFound kind.Volume) >> some_or o (NotFound kind.Volume)) ≡ Ok row
        → (get rows.vols key ≡ Some row) × (account ≡ key.account)
    by false o t is e = cc
    by true None t is e = cc
    by true (Some kept) t is e = (cc, same account key.account t)

pub found_policy : (rows : Rows) (account : ℕ) (key : PolicyKey) (p : Policy) → the_policy rows account key ≡ Ok p → (get rows.policies key ≡ Some p) × (account ≡ key.account)
found_policy rows account key p e = by (account == key.account) (get rows.policies key) refl refl e
  where
    by : (b : Bool) (o : Option Policy) → (account == key.account) ≡ b → get rows.policies key ≡ o → (refuse_if (not b) (NotFound kind.Policy) >> some_or o (NotFound kind.Policy)) ≡ Ok p
        → (get rows.policies key ≡ Some p) × (account ≡ key.account)
    by false o t is e = cc
    by true None t is e = cc
    by true (Some kept) t is e = (cc, same account key.account t)

-- ---- what the tests tell

-- an open upload is pending
pub open-pending : (account : ℕ) (key : SnapKey) (now : ℕ) (row : SnapRow) → open_upload account key now row ≡ Ok tt → is_pending (status_at row now) ≡ true
open-pending account key now row e = last (own account key now row) (is_pending (status_at row now)) _ e
  where
    last : (x : Result (Unit {0}) Refusal) (b : Bool) (r : Refusal) → (x >> refuse_if (not b) r) ≡ Ok tt → b ≡ true
    last (Ok u) true r e = refl
    last (Ok u) false r e = cc
    last (Err q) b r e = cc

-- what is done is completed
pub done-completed : (account : ℕ) (key : SnapKey) (now : ℕ) (row : SnapRow) → done account key now row ≡ Ok tt → row.completed ≡ true
done-completed account key now row e = of row.completed (nat_le _ now) (last (own account key now row) (is_completed (status_at row now)) _ e)
  where
    last : (x : Result (Unit {0}) Refusal) (b : Bool) (r : Refusal) → (x >> refuse_if (not b) r) ≡ Ok tt → b ≡ true
    last (Ok u) true r e = refl
    last (Ok u) false r e = cc
    last (Err q) b r e = cc

    of : (c late : Bool) → is_completed (Rattle.ebs_model.specs.Time.status_by c late) ≡ true → c ≡ true
    of true late e = refl
    of false true e = cc
    of false false e = cc

pub below : (limit n : ℕ) (r : Refusal) → refuse_if (nat_le limit n) r ≡ Ok tt → n < limit
below limit n r e = by (nat_le limit n) refl e
  where
    by : (b : Bool) → nat_le limit n ≡ b → refuse_if b r ≡ Ok tt → n < limit
    by true t e = cc
    by false t e = grind (arith, nat_tests)

pub within : (limit n : ℕ) (r : Refusal) → refuse_if (nat_lt limit n) r ≡ Ok tt → n ≤ limit
within limit n r e = by (nat_lt limit n) refl e
  where
    by : (b : Bool) → nat_lt limit n ≡ b → refuse_if b r ≡ Ok tt → n ≤ limit
    by true t e = cc
    by false t e = grind (arith, nat_tests)

-- a test that is asked for where a token is given
pub below_if : (given : Bool) (limit n : ℕ) (r : Refusal) → refuse_if (given && nat_le limit n) r ≡ Ok tt → given ≡ true → n < limit
below_if true limit n r e t = below limit n r e
below_if false limit n r e t = cc

pub passes : (b : Bool) (r : Refusal) → refuse_if (not b) r ≡ Ok tt → b ≡ true
passes true r e = refl
passes false r e = cc
