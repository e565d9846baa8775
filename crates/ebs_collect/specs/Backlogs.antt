-- What waits, and what a backlog covers.
use Rattle.std.specs.Prelude.{◌≡◌, ◌⊎◌, ℕ, ◌≤◌, ◌<◌, ◌^◌, nat_le, IsSome, refl}
use Rattle.std.specs.declared.option.Option.{Option}
use Rattle.std.specs.declared.option.Option.TheVariants.{Some}
use Rattle.std.specs.Coded.{Coded, code_by, coded×, coded_ℕ, coded_option}
use Rattle.std.specs.FinMap as map
use Rattle.ebs_model.specs.declared.array.Block.{Block}
use Rattle.ebs_lineage.specs.declared.place.Place.{Place}
use Rattle.ebs_lineage.specs.Owned.{Blocks}
use Rattle.ebs_lineage.specs.Table.{NodeMap}
use Rattle.ebs_lineage.specs.Lines.{Lines, IsFree, own, parent_of}
use Rattle.ebs_lineage.specs.Live.{IsLive, owner, owner_above}
use Rattle.ebs_collect.specs.Stack.{IsStack, waiting_in}

-- the node that is looked at first, and how many blocks wait
pub record Queue : Type 0 where
  pub first : Option ℕ
  pub waiting : ℕ

abbrev pub queue_code : Coded Queue
queue_code = code_by (Option ℕ × ℕ) (coded× (coded_option coded_ℕ) coded_ℕ) (λ q. (q.first, q.waiting)) (λ p. record { first = p.0; waiting = p.1 }) (λ _. refl)

-- the blocks at an index and above it
abbrev pub from_index : Blocks → ℕ → Blocks
from_index blocks index = map.retain_keys blocks (nat_le index)

-- nobody holds a node that waits, and so many of its blocks are left, which is one at least
pub record IsPlace (nodes : NodeMap) (n : ℕ) (p : Place) : Type 0 where
  pub free : IsFree nodes n
  pub left : p.left ≡ map.len (from_index (own nodes n) p.from)
  pub some : 1 ≤ p.left
  pub few : p.left < 2 ^ 64

-- the backlog is the stack of the nodes that wait, and knows how many blocks these are
pub record IsLinked (q : Queue) (l : Lines) : Type 0 where
  pub stack : IsStack l.places q.first
  pub each : (n : ℕ) (p : Place) → map.get l.places n ≡ Some p → IsPlace l.table.nodes n p
  pub count : q.waiting ≡ waiting_in l.places

-- a block that the node keeps waits
pub record IsWaiting (l : Lines) (n index : ℕ) : Type 0 where
  pub place : Place
  pub here : map.get l.places n ≡ Some place
  pub reached : place.from ≤ index
  pub kept : IsSome (map.get (own l.table.nodes n) index)

-- each block that a node keeps is found by a held node, or waits
abbrev pub Covers : Lines → Type 0
Covers l = (n index : ℕ) (block : Block) → map.get (own l.table.nodes n) index ≡ Some block → IsLive l.table.nodes n index ⊎ IsWaiting l n index

-- or it is one of these
abbrev pub CoversBut : Lines → (ℕ → ℕ → Type 0) → Type 0
CoversBut l IsLeft = (n index : ℕ) (block : Block) → map.get (own l.table.nodes n) index ≡ Some block → (IsLive l.table.nodes n index ⊎ IsWaiting l n index) ⊎ IsLeft n index

-- a block that a node keeps which nobody holds
pub record IsLoose (nodes : NodeMap) (n index : ℕ) : Type 0 where
  pub free : IsFree nodes n
  pub kept : IsSome (map.get (own nodes n) index)

-- the ancestor whose block the node would find at the index without its own
abbrev pub IsHidden : NodeMap → ℕ → ℕ → ℕ → Type 0
IsHidden nodes n index m = owner_above (parent_of nodes n) (owner nodes index) ≡ Some m

-- all but the places is as before
abbrev pub IsPlacesAlone : Lines → Lines → Type 0
IsPlacesAlone old new = new ≡ record old { places = new.places }
