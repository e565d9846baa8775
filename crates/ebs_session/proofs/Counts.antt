-- Counts of faults that rose or stood.
use Rattle.std.proofs.Common.{◌≡◌, ℕ, Result, Ok, Err, subst}
use Rattle.ebs_model.specs.Quotas.{Rose}
use Rattle.ebs_session.specs.declared.end.End.{End}
use Rattle.ebs_session.specs.declared.pieces.Taken.TheVariants.{Piece, End as NoMore, Failed, Limit as Full}

-- it stood before it rose
pub rose_since : (a b c : ℕ) → b ≡ a → Rose b c → Rose a c
rose_since a b c before rose = subst (λ (n : ℕ). Rose n c) before rose

pub ok_is_no_err : (u : Unit {0}) (end : End) → (let r : Result (Unit {0}) End = Ok u in r ≡ Err end) → ⊥
ok_is_no_err u end is = cc

pub same_end : (a b : End) → (let r : Result (Unit {0}) End = Err a in r ≡ Err b) → a ≡ b
same_end a b is = cc

pub piece_is_no_failure : (count : ℕ) → Piece count ≡ Failed → ⊥
piece_is_no_failure count is = cc

pub end_is_no_failure : NoMore ≡ Failed → ⊥
end_is_no_failure is = cc

pub full_is_no_failure : Full ≡ Failed → ⊥
full_is_no_failure is = cc
