-- Ways down from a node that nobody holds, along which each node has one child from which a held one is reached.
use Rattle.std.specs.Prelude.{◌≡◌, ◌⊎◌, ℕ, ◌<◌, IsSome, is_some}
use Rattle.std.specs.declared.option.Option.TheVariants.{Some}
use Rattle.std.specs.FinMap as map
use Rattle.ebs_lineage.specs.Table.{NodeMap}
use Rattle.ebs_lineage.specs.Lines.{IsHeld}
use Rattle.ebs_lineage.specs.Live.{IsOnLine}
use Rattle.ebs_lineage.specs.Kin.{Links, IsWantedKid, first_of, next_of, newer_of, below_of, place_in}

-- the later node is below the first, and so is each held node that is below the first
pub record IsWay (nodes : NodeMap) (n d : ℕ) : Type 0 where
  pub above : IsOnLine nodes d n
  pub held : (h : ℕ) → IsHeld nodes h → IsOnLine nodes h n → IsOnLine nodes h d

-- a way to a later node that is there
pub record IsWayDown (nodes : NodeMap) (n d : ℕ) : Type 0 where
  pub way : IsWay nodes n d
  pub later : n < d
  pub there : IsSome (map.get nodes d)

-- no way goes on from it: somebody holds it, or beside each child from which a held node is reached there is another
abbrev pub IsEnd : NodeMap → ℕ → Type 0
IsEnd nodes d = IsHeld nodes d ⊎ ((e : ℕ) → IsWantedKid nodes d e → (f : ℕ) × IsWantedKid nodes d f × (f ≡ e → ⊥))

-- what is noted of ways is so
abbrev pub AreWays : NodeMap → Links → Type 0
AreWays nodes links = (n d : ℕ) → below_of links n ≡ Some d → IsWayDown nodes n d

-- the links are the same but for what is noted of ways
pub record IsNoted (old new : Links) : Type 0 where
  pub firsts : (n : ℕ) → first_of new n ≡ first_of old n
  pub nexts : (n : ℕ) → next_of new n ≡ next_of old n
  pub newers : (n : ℕ) → newer_of new n ≡ newer_of old n
  pub places : (n : ℕ) → place_in (map.get new n) ≡ place_in (map.get old n)
  pub there : (n : ℕ) → is_some (map.get new n) ≡ is_some (map.get old n)
