-- What the calls of a disk in memory leave: the bytes that a read gives, those of the last sync, and which have been written since.
use Rattle.std.specs.Prelude.{ℕ, Bool, ◌-◌, true, cond, ltb, length, false, List, [], ◌∷◌, ◌≡◌, take, ◌≤◌, ◌++◌, Vec}
use Rattle.std.specs.declared.alloc.Global.{Global}
use Rattle.ebs_world.specs.declared.area.Area.{Area}
use Rattle.ebs_world.specs.declared.log.Step.{Step}
use Rattle.ebs_world.specs.declared.log.Step.TheVariants.{Write, Sync}
use Rattle.ebs_world.specs.Image.{Image, Images}
use Rattle.ebs_world.specs.inner.Held.{same, over}

pub record State : Type 0 where
  -- what a read gives
  pub now : Image
  -- what a read gave of each area when it was last synced
  pub kept : Image
  -- the places that were written since
  pub dirty : Area → ℕ → Bool

abbrev pub mark : ℕ → ℕ → (ℕ → Bool) → ℕ → Bool
mark at n f i = cond (ltb i at) (f i) (cond (ltb (i - at) n) true (f i))

abbrev pub after : State → Step → State
after s (Write area at piece) = record {
  now = λ a i. cond (same a area) (over at piece.items (s.now a) i) (s.now a i);
  kept = s.kept;
  dirty = λ a i. cond (same a area) (mark at (length piece.items) (s.dirty a) i) (s.dirty a i);
}
after s (Sync area) = record {
  now = s.now;
  kept = λ a i. cond (same a area) (s.now a i) (s.kept a i);
  dirty = λ a i. cond (same a area) false (s.dirty a i);
}

abbrev pub replay : State → List Step → State
replay s [] = s
replay s (x ∷ xs) = replay (after s x) xs

-- all is durable
abbrev pub synced : Image → State
synced first = record { now = first; kept = first; dirty = λ a i. false }

-- any bytes where it was written since the last sync, and what was kept then elsewhere
abbrev pub IsImage : State → Images
IsImage s c = (a : Area) (i : ℕ) → s.dirty a i ≡ false → c a i ≡ s.kept a i

-- after all calls, and after the first k
abbrev pub present : Image → List Step → State
present first steps = replay (synced first) steps

abbrev pub state_at : Image → List Step → ℕ → State
state_at first steps k = present first (take k steps)

-- an image of one of the moments from t on
pub record LeftSince (first : Image) (steps : List Step) (t : ℕ) (c : Image) : Type 0 where
  pub k : ℕ
  pub later : t ≤ k
  pub made : k ≤ length steps
  pub image : IsImage (state_at first steps k) c

-- a write of the piece was added to the calls
pub record Noted (area : Area) (at : ℕ) (piece : List ℕ) (old new : List Step) : Type 0 where
  pub kept : Vec ℕ Global
  pub piece_is : kept.items ≡ piece
  pub steps : new ≡ old ++ Write area at kept ∷ []
