-- What wasn't read as one value, wasn't as another that is seen so.
use Rattle.std.proofs.Common.{ℕ, List}
use Rattle.std.specs.declared.result.Result.TheVariants.{Err}
use Rattle.ebs_records.specs.declared.codec.Unread.{Unread}
use Rattle.ebs_records.specs.declared.codec.Unread.TheVariants.{Malformed, Memory}
use Rattle.ebs_records.specs.inner.Reading.{Reads}

pub unread_by : {V W : Type 0} (view : V → W) (fits : W → Type 0) (spelled : W → List ℕ) (old new : List ℕ) (e : Unread) → Reads fits spelled old new (Err e) → Reads {V = V} (λ v. fits (view v)) (λ v. spelled (view v)) old new (Err e)
unread_by view fits spelled old new Malformed h = λ v rest f e. h (view v) rest f e
unread_by view fits spelled old new Memory h = tt
