-- What is told of a disk at a moment, and what a run of calls does to it.
use Rattle.std.specs.Prelude.{ℕ, Bool, ◌≤◌, ◌⊎◌, ◌≡◌, true, OnErr, Result}
use Rattle.ebs_world.specs.Image.{Image, Images, Places, Keeps, Was}
use Rattle.ebs_model.specs.Quotas.{Rose}

pub record View : Type 1 where
  -- whether it tells what a read gives
  pub tells : Bool
  -- whether it keeps what it promises of crashes
  pub honest : Bool
  -- what a read gives
  pub reads : Image
  -- what a crash now may leave
  pub may_leave : Images
  -- the number of this moment
  pub moment : ℕ
  -- what a crash at one of the moments from that one on may have left
  pub left_since : ℕ → Images
  -- how often a call has failed
  pub faults : ℕ

-- each image of a moment from `old` to `new` has P
pub record Leaves (old new : View) (P : Images) : Type 0 where
  pub later : old.moment ≤ new.moment
  pub each : (c : Image) → new.left_since old.moment c → P c
  pub before : (t : ℕ) (c : Image) → t ≤ old.moment → new.left_since t c → old.left_since t c ⊎ P c

-- a run of calls kept the bytes at these places: for reads, and in each image of each moment
pub record Ran (places : Places) (old new : View) : Type 0 where
  pub told : new.tells ≡ old.tells
  pub kept_honest : new.honest ≡ old.honest
  pub kept : old.tells ≡ true → Keeps places old.reads new.reads
  pub images : old.honest ≡ true → (c : Image) → new.may_leave c → Was places old.may_leave c
  pub moments : old.honest ≡ true → Leaves old new (Was places old.may_leave)
  -- no image of an earlier moment is forgotten
  pub remembers : old.honest ≡ true → (t : ℕ) (c : Image) → t ≤ old.moment → old.left_since t c → new.left_since t c
  pub count : old.faults ≤ new.faults

-- an error comes only where the count of faults rose
abbrev pub IsCaused : {T E : Type 0} → View → View → Result T E → Type 0
IsCaused old new result = OnErr result (Rose old.faults new.faults)

-- the reading and the images of one moment fit together
pub record IsTrueToItself (v : View) : Type 0 where
  pub reads_as_image : v.tells ≡ true → v.honest ≡ true → v.may_leave v.reads
  pub counts_now : v.honest ≡ true → (t : ℕ) (c : Image) → t ≤ v.moment → v.may_leave c → v.left_since t c
  pub only_now : v.honest ≡ true → (c : Image) → v.left_since v.moment c → v.may_leave c
