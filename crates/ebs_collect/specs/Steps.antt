-- The steps of a backlog.
use Rattle.std.specs.Prelude.{◌≡◌, ◌⊎◌, ℕ, ◌+◌, ◌<◌, ◌≤◌}
use Rattle.std.specs.declared.option.Option.TheVariants.{Some}
use Rattle.std.specs.FinMap as map
use Rattle.ebs_model.specs.declared.array.Block.{Block}
use Rattle.ebs_lineage.specs.declared.place.Place.{Place}
use Rattle.ebs_lineage.specs.Owned.{IsLeastFrom}
use Rattle.ebs_lineage.specs.Lines.{Lines, IsHeld, own}
use Rattle.ebs_lineage.specs.Live.{IsLive, owner}
use Rattle.ebs_collect.specs.declared.backlog.Next.{Next}
use Rattle.ebs_collect.specs.Backlogs.{Queue, IsLinked, IsWaiting, IsLoose, IsPlacesAlone}
use Rattle.ebs_collect.specs.Slices.{Leaves}

-- the blocks of a node wait besides, where nobody holds it
pub record IsAdded (q : Queue) (l : Lines) (n : ℕ) (r : Queue) (m : Lines) : Type 0 where
  pub linked : IsLinked r m
  pub lines : IsPlacesAlone l m
  pub to : (k index : ℕ) → IsWaiting m k index → IsWaiting l k index ⊎ ((k ≡ n) × IsLoose l.table.nodes k index)
  pub from : (k index : ℕ) → IsWaiting l k index ⊎ ((k ≡ n) × IsLoose l.table.nodes k index) → IsWaiting m k index
  pub grows : q.waiting ≤ r.waiting

-- the first node that waits, and the least of its blocks that do
pub record IsNext (q : Queue) (l : Lines) (next : Next) : Type 0 where
  pub first : q.first ≡ Some next.number
  pub here : map.get l.places next.number ≡ Some next.place
  pub block : Block
  pub least : IsLeastFrom (map.get (own l.table.nodes next.number)) next.place.from (Some (next.index, block))

-- that block doesn't wait any more, and all others do as before
pub record IsPassed (q : Queue) (l : Lines) (next : Next) (r : Queue) (m : Lines) : Type 0 where
  pub linked : IsLinked r m
  pub lines : IsPlacesAlone l m
  pub waits : (k index : ℕ) → IsWaiting l k index → IsWaiting m k index ⊎ ((k ≡ next.number) × (index ≡ next.index))
  pub past : (p : Place) → map.get m.places next.number ≡ Some p → next.index < p.from
  pub free : IsLoose l.table.nodes next.number next.index
  pub count : q.waiting ≡ r.waiting + 1

-- a block was taken out of its node, or is live
pub record IsJudged (l m : Lines) (n index : ℕ) : Type 0 where
  pub leaves : Leaves l m
  pub places : m.places ≡ l.places
  pub owners : (h i : ℕ) → IsHeld l.table.nodes h → owner m.table.nodes i h ≡ owner l.table.nodes i h
  pub others : (k i : ℕ) (block : Block) → map.get (own l.table.nodes k) i ≡ Some block → ((k ≡ n) × (i ≡ index) → ⊥) → map.get (own m.table.nodes k) i ≡ Some block
  pub lives : (block : Block) → map.get (own m.table.nodes n) index ≡ Some block → IsLive m.table.nodes n index
