-- What a crash of a disk in memory leaves.
use Rattle.std.proofs.Common.{◌≡◌, ℕ, ◌-◌, ◌<◌, ◌≤◌, List, [], ◌∷◌, length, take, drop, get_or, refl, ◌∙◌, ap, arith}
use Rattle.std.proofs.lemmas.List.{take_all}
use Rattle.ebs_world.specs.declared.area.Area.{Area}
use Rattle.ebs_world.specs.declared.crash.CrashPick.{CrashPick}
use Rattle.ebs_world.specs.declared.crash.CrashPick.TheVariants.{Old, New, Fill}
use Rattle.ebs_world.specs.declared.log.Step.{Step}
use Rattle.ebs_world.specs.Image.{Image}
use Rattle.ebs_world.specs.inner.Log.{State, after, replay, synced, IsImage}
use Rattle.ebs_world.specs.inner.Crash.{picked}
use Rattle.ebs_world.proofs.Put.{cond_false}

pub picked_synced : (pick : CrashPick) (first : Image) (a : Area) (i : ℕ) → first a i ≡ picked pick (synced first) a i
picked_synced Old first a i = refl
picked_synced New first a i = refl
picked_synced (Fill byte) first a i = refl

-- whatever is picked is an image
pub picked_image : (pick : CrashPick) (s : State) → IsImage s s.now → IsImage s (picked pick s)
picked_image Old s settled a i clean = refl
picked_image New s settled a i clean = settled a i clean
picked_image (Fill byte) s settled a i clean = cond_false (s.dirty a i) byte (s.kept a i) clean

-- the loop over the calls takes the first
pub next_call : (s : State) (rest : List Step) (x : Step) → x ≡ get_or rest 0 x → 1 ≤ length rest → replay (after s x) (take (length rest - 1) (drop 1 rest)) ≡ replay s rest
next_call s [] x is long = absurd (omega (arith, long))
next_call s (y ∷ rest) x is long = ap (λ (l : List Step). replay (after s x) l) (take_all (length (y ∷ rest) - 1) rest (omega arith)) ∙ ap (λ (z : Step). replay (after s z) rest) is

pub none_left : (s : State) (rest : List Step) → length rest < 1 → replay s rest ≡ s
none_left s [] short = refl
none_left s (x ∷ rest) short = absurd (omega (arith, short))
