-- What is told of a listener.
use Rattle.std.specs.Prelude.{ℕ, Bool, true, false, ◌≡◌, ◌≤◌}
use Rattle.ebs_model.specs.Quotas.{Rose}
use Rattle.ebs_doors.specs.declared.listener.Accepted.{Accepted}
use Rattle.ebs_doors.specs.declared.listener.Accepted.TheVariants.{Connection, Closed, Failed}

-- whether the listener has answered `Closed`, and how often it has failed
pub record Door : Type 0 where
  pub closed : Bool
  pub faults : ℕ

-- a failure: the count didn't fall, and rose
pub record FailedAt (old new : Door) : Type 0 where
  pub closed : new.closed ≡ old.closed
  pub later : old.faults ≤ new.faults
  pub rose : Rose old.faults new.faults

-- what an answer makes of a listener: a connection comes only before it is closed, and a failure only where its count rose
abbrev pub Answered : {C : Type 0} → Door → Door → Accepted C → Type 0
Answered old new (Connection conn) = (old.closed ≡ false) × (new ≡ old)
Answered old new Closed = new ≡ record { closed = true; faults = old.faults }
Answered old new Failed = FailedAt old new
