-- Which nodes hide a block, and what is known of them.
use Rattle.std.specs.Prelude.{◌≡◌, ℕ, ◌<◌, true, IsSome, cond, is_some}
use Rattle.std.specs.declared.option.Option.{Option}
use Rattle.std.specs.declared.option.Option.TheVariants.{None, Some}
use Rattle.std.specs.FinMap as map
use Rattle.ebs_lineage.specs.Table.{NodeMap}
use Rattle.ebs_lineage.specs.Lines.{IsHeld, own, parent_of}
use Rattle.ebs_lineage.specs.Live.{IsOnLine, IsWanted, owner, owner_above}
use Rattle.ebs_lineage.specs.Hiders.{HiderTable, Hides, with_hiding}

-- a later node of the line hides the block that the node keeps: no held node at or below it finds that
pub record IsHider (nodes : NodeMap) (n index c : ℕ) : Type 0 where
  pub below : IsOnLine nodes c n
  pub later : n < c
  pub hides : (h : ℕ) → IsHeld nodes h → IsOnLine nodes h c → owner nodes index h ≡ Some n → ⊥

-- what is noted hides, and where a node below from which held ones are reached doesn't find a block, it or one above it is noted to hide that
pub record AreHiders (nodes : NodeMap) (h : HiderTable) : Type 0 where
  pub hidden : (n index c : ℕ) → Hides h n index c → IsHider nodes n index c
  pub shown : (n index x : ℕ) → IsSome (map.get (own nodes n) index) → IsOnLine nodes x n → IsWanted nodes x → (owner nodes index x ≡ Some n → ⊥) → (c : ℕ) × Hides h n index c × IsOnLine nodes x c

-- where none was left out
abbrev pub AreKnown : NodeMap → HiderTable → Type 0
AreKnown nodes h = h.is_whole ≡ true → AreHiders nodes h

-- the ancestor whose block a put into the node hides
abbrev pub hidden_by : NodeMap → ℕ → ℕ → Option ℕ
hidden_by nodes n index = cond (is_some (map.get (own nodes n) index)) None (owner_above (parent_of nodes n) (owner nodes index))

-- where it hides one, that is noted
abbrev pub noted_by : HiderTable → Option ℕ → ℕ → ℕ → HiderTable
noted_by h None index by = h
noted_by h (Some n) index by = with_hiding h n index by
