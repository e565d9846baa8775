-- How many entries have a stamp.
use Rattle.std.specs.Prelude.{◌≡◌, ◌⊎◌, ◌↔◌, ◌+◌, ◌-◌, ◌==◌, ℕ, List, [], ◌∷◌, length, if◌then◌else◌}
use Rattle.std.specs.declared.option.Option.{Option}
use Rattle.std.specs.declared.option.Option.TheVariants.{None, Some}
use Rattle.std.specs.FinMap as map
use Rattle.ebs_model.specs.declared.array.Block.{Block}
use Rattle.ebs_lineage.specs.Table.{NodeMap}
use Rattle.ebs_lineage.specs.Lines.{own}

-- a node's number, and an index of its own blocks
abbrev pub Entry : Type 0
Entry = ℕ × ℕ

abbrev pub IsIn : Entry → List Entry → Type 0
IsIn e [] = ⊥
IsIn e (x ∷ xs) = (e ≡ x) ⊎ IsIn e xs

-- none stands there twice
abbrev pub AreApart : List Entry → Type 0
AreApart [] = Unit {0}
AreApart (x ∷ xs) = (IsIn x xs → ⊥) × AreApart xs

-- so many entries are of a kind
pub record AreSoMany (Is : Entry → Type 0) (count : ℕ) : Type 0 where
  pub listed : List Entry
  pub apart : AreApart listed
  pub just : (e : Entry) → IsIn e listed ↔ Is e
  pub long : length listed ≡ count

-- the block that a node keeps at an index
abbrev pub block_at : NodeMap → Entry → Option Block
block_at nodes e = map.get (own nodes e.0) e.1

-- it has the stamp
pub record IsEntry (nodes : NodeMap) (stamp : ℕ) (e : Entry) : Type 0 where
  pub block : Block
  pub found : block_at nodes e ≡ Some block
  pub same : block.stamp ≡ stamp

-- so many entries of nodes have the stamp
abbrev pub AreEntries : NodeMap → ℕ → ℕ → Type 0
AreEntries nodes stamp count = AreSoMany (IsEntry nodes stamp) count

-- one entry more has the first stamp
abbrev pub one_more : ℕ → ℕ → ℕ → ℕ
one_more new stamp count = if stamp == new then count + 1 else count

-- one entry less has it
abbrev pub one_less : ℕ → ℕ → ℕ → ℕ
one_less gone stamp count = if stamp == gone then count - 1 else count

-- one entry less has the stamp of the block that stood at a place, if one did
abbrev pub less_old : Option Block → ℕ → ℕ → ℕ
less_old None stamp count = count
less_old (Some old) stamp count = one_less old.stamp stamp count
