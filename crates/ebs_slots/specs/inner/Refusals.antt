-- What a read answers.
use Rattle.std.specs.Prelude.{ℕ, List, Result, Ok, Err, ◌≡◌, ◌≢◌}
use Rattle.sha2.specs.Sha256.{sha256}
use Rattle.ebs_slots.specs.declared.refusal.ReadRefusal.{ReadRefusal}
use Rattle.ebs_slots.specs.declared.refusal.ReadRefusal.TheVariants.{DiskFailed, Damaged, Memory}

-- P of the given digest and that of the bytes, where a block is damaged
abbrev pub IfDamaged : {T : Type 0} → Result T ReadRefusal → (List ℕ → List ℕ → Type 0) → Type 0
IfDamaged (Ok b) P = Unit {0}
IfDamaged (Err DiskFailed) P = Unit {0}
IfDamaged (Err (Damaged stored found)) P = P stored found
IfDamaged (Err Memory) P = Unit {0}

-- the answer to a read of these bytes: they come where they have the digest, and else the block is damaged
abbrev pub Gives : Result (List ℕ) ReadRefusal → List ℕ → List ℕ → Type 0
Gives (Ok given) digest bytes = (given ≡ bytes) × (sha256 bytes ≡ digest)
Gives (Err DiskFailed) digest bytes = Unit {0}
Gives (Err (Damaged stored found)) digest bytes = (stored ≡ digest) × (found ≡ sha256 bytes) × (found ≢ digest)
Gives (Err Memory) digest bytes = Unit {0}
