-- What wasn't read as one value, wasn't as another that is seen so.
use Rattle.std.proofs.Common.{◌≡◌, ℕ, List, ◌++◌, true, false, Option, Some, None, sym, ◌∙◌, append_assoc}
use Rattle.ebs_records.specs.inner.Apart.{Apart}
use Rattle.std.specs.declared.result.Result.TheVariants.{Err}
use Rattle.ebs_records.specs.declared.codec.Unread.{Unread}
use Rattle.ebs_records.specs.declared.codec.Unread.TheVariants.{Malformed, Memory}
use Rattle.ebs_records.specs.inner.Reading.{Reads}
use Rattle.ebs_records.specs.Fields.{flag, IsFlag, optional, IsOptional}

pub unread_by : {V W : Type 0} (view : V → W) (fits : W → Type 0) (spelled : W → List ℕ) (old new : List ℕ) (e : Unread) → Reads fits spelled old new (Err e) → Reads {V = V} (λ v. fits (view v)) (λ v. spelled (view v)) old new (Err e)
unread_by view fits spelled old new Malformed h = λ v rest f e. h (view v) rest f e
unread_by view fits spelled old new Memory h = tt

-- where no flag begins the bytes no option does
pub no_option : {V : Type 0} (fits : V → Type 0) (spelled : V → List ℕ) (old new : List ℕ) (e : Unread) → Reads IsFlag flag old new (Err e) → Reads (IsOptional fits) (optional spelled) old new (Err e)
no_option fits spelled old new Memory h = tt
no_option fits spelled old new Malformed h = by
  where
    by : (o : Option _) (rest : List ℕ) → IsOptional fits o → old ≡ optional spelled o ++ rest → ⊥
    by None rest f e = h false rest tt e
    by (Some v) rest f e = h true (spelled v ++ rest) tt e

module _ {A B : Type 0} (fa : A → Type 0) (sa : A → List ℕ) (fb : B → Type 0) (sb : B → List ℕ) where
  -- where the first of two wasn't read
  pub first_unread : (old mid new : List ℕ) (e : Unread) → Reads fa sa old mid (Err e) → Reads {V = A × B} (λ p. fa p.0 × fb p.1) (λ p. sa p.0 ++ sb p.1) old new (Err e)
  first_unread old mid new Memory h = tt
  first_unread old mid new Malformed h = λ p rest f o. h p.0 (sb p.1 ++ rest) f.0 (o ∙ append_assoc (sa p.0) (sb p.1) rest)

  -- where the second of two wasn't read behind the first
  pub second_unread : Apart fa sa → (v : A) → fa v → (old mid new : List ℕ) (e : Unread) → old ≡ sa v ++ mid → Reads fb sb mid new (Err e) → Reads {V = A × B} (λ p. fa p.0 × fb p.1) (λ p. sa p.0 ++ sb p.1) old new (Err e)
  second_unread apart v fits old mid new Memory is h = tt
  second_unread apart v fits old mid new Malformed is h = λ p rest f o.
      let both = apart v p.0 mid (sb p.1 ++ rest) fits f.0 (sym is ∙ o ∙ append_assoc (sa p.0) (sb p.1) rest) in h p.1 rest f.1 both.1
