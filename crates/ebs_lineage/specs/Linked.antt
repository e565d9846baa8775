-- How the links of nodes stand.
use Rattle.std.specs.Prelude.{◌≡◌, ◌⊎◌, ℕ, ◌≤◌, IsSome, is_some}
use Rattle.std.specs.declared.option.Option.TheVariants.{None, Some}
use Rattle.std.specs.FinMap as map
use Rattle.std.specs.HashMap.{spare}
use Rattle.ebs_lineage.specs.declared.node.Node.{Node}
use Rattle.ebs_lineage.specs.declared.kin.Kin.TheInside.{Inside}
use Rattle.ebs_lineage.specs.Table.{NodeMap}
use Rattle.ebs_lineage.specs.Kin.{Links, KinTable, AreKin, IsKid, place_in, below_of}
use Rattle.ebs_lineage.specs.Live.{IsOnLine, IsWanted}

abbrev pub kin_shown : Inside → KinTable
kin_shown a = record { links = map.from_entries a.links.entries; spare = spare a.links }

-- each node has links, which lead over its children from which held ones are reached, and a node that is still to come has no place
pub record AreLinked (nodes : NodeMap) (made : ℕ) (links : Links) : Type 0 where
  pub there : (n : ℕ) (x : Node) → map.get nodes n ≡ Some x → IsSome (map.get links n)
  pub to_come : (n : ℕ) → made ≤ n → place_in (map.get links n) ≡ None
  pub kin : AreKin nodes links

-- the links are the same but for which children are listed
pub record IsRelisted (old new : Links) : Type 0 where
  pub belows : (n : ℕ) → below_of new n ≡ below_of old n
  pub places : (n : ℕ) → place_in (map.get new n) ≡ place_in (map.get old n)
  pub there : (n : ℕ) → is_some (map.get new n) ≡ is_some (map.get old n)

-- a child from which a held node is reached, or which is the node or one of its ancestors
abbrev pub IsWantedOr : NodeMap → ℕ → ℕ → ℕ → Type 0
IsWantedOr nodes at n d = IsKid nodes n d × (IsWanted nodes d ⊎ IsOnLine nodes at d)
