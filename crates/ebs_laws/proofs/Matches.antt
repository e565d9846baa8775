-- Two calls side by side: their tests refuse both alike, or both go on.
use Rattle.std.proofs.Common.{◌≡◌, Result, Ok, Err, sym, ap, subst}
use Rattle.ebs_model.specs.declared.answer.Refusal.{Refusal}
use Rattle.ebs_model.specs.Refuse.{◌>>=◌, ◌>>◌}

-- both are refused alike, or this holds of what they give
pub data Matched {A B : Type 0} (P : A → B → Type 0) : Result A Refusal → Result B Refusal → Type 0 where
  matched : {x : A} {y : B} → P x y → Matched P (Ok x) (Ok y)
  refused : {r : Refusal} → Matched P (Err r) (Err r)

pub both-after : {A B C D : Type 0} (S : A → B → Type 0) (P : C → D → Type 0) (x : Result A Refusal) (y : Result B Refusal) (f : A → Result C Refusal) (g : B → Result D Refusal) → Matched S x y → ((a : A) (b : B) → S a b → Matched P (f a) (g b)) → Matched P (x >>= f) (y >>= g)
both-after S P (Ok a) (Ok b) f g (matched s) h = h a b s
both-after S P (Ok a) (Err _) f g x6 h = elim x6 [ ]
both-after S P (Err r) (Ok _) f g x6 h = elim x6 [ ]
both-after S P (Err r) (Err _) f g refused h = refused

-- what doesn't depend on the machine
pub both-same : {A C D : Type 0} (P : C → D → Type 0) (x : Result A Refusal) (f : A → Result C Refusal) (g : A → Result D Refusal) → ((v : A) → Matched P (f v) (g v)) → Matched P (x >>= f) (x >>= g)
both-same P (Ok v) f g h = h v
both-same P (Err r) f g h = refused

pub both-passed : {C D : Type 0} (P : C → D → Type 0) (x y : Result (Unit {0}) Refusal) (z : Result C Refusal) (w : Result D Refusal) → y ≡ x → Matched P z w → Matched P (x >> z) (y >> w)
both-passed P x y z w e h = subst (λ v. Matched P (x >> z) (v >> w)) (sym e) (at x)
  where
    at : (x : Result (Unit {0}) Refusal) → Matched P (x >> z) (x >> w)
    at (Ok u) = h
    at (Err r) = refused

pub same-refusal : {C D : Type 0} (P : C → D → Type 0) (x : Result C Refusal) (y : Result D Refusal) (r : Refusal) → x ≡ Err r → y ≡ Err r → Matched P x y
same-refusal P x y r e f = subst (λ v. Matched P v y) (sym e) (subst (λ v. Matched P (Err r) v) (sym f) refused)

pub stopped : {C : Type 0} (x : Result (Unit {0}) Refusal) (y : Result C Refusal) (r : Refusal) → x ≡ Err r → (x >> y) ≡ Err r
stopped x y r e = ap (λ v. v >> y) e
