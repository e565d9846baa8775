-- The line of turns, by what its items say: what it does to the machine, and when it is legal.
use Rattle.std.specs.Prelude.{ℕ, ◌≡◌, ◌≤◌, List, [], ◌∷◌, ◌++◌, Option, Some, None, ◌==◌, if◌then◌else◌}
use Rattle.ebs_world.specs.View.{View}
use Rattle.ebs_model.specs.Machine.{Machine, advance, moment_of}
use Rattle.ebs_model.specs.Step.{step}
use Rattle.ebs_model.specs.Quotas.{Rose}
use Rattle.ebs_disk_store.specs.inner.Fetched.{answer_of}
use Rattle.ebs_turns.specs.declared.line.Deed.{Deed}
use Rattle.ebs_turns.specs.declared.line.Deed.TheVariants.{Nothing, Takes, Spends}
use Rattle.ebs_turns.specs.declared.line.Turn.{Turn}
use Rattle.ebs_desk.specs.declared.item.Item.{Item}
use Rattle.ebs_desk.specs.declared.item.Item.TheVariants.{Entry, Fault, Tick, Saving, Full, Staged, Blank}

module _ {M X : Type 0} (after : M → X → M) where
  -- what the items of a line make of this, one after the other
  abbrev pub run_items : M → List (Turn X) → M
  run_items m [] = m
  run_items m (x ∷ xs) = run_items (after m x.item) xs

  -- of each item it holds at its place
  abbrev pub AllAt : (M → X → Type 0) → M → List (Turn X) → Type 0
  AllAt Is m [] = Unit {0}
  AllAt Is m (x ∷ xs) = Is m x.item × AllAt Is (after m x.item) xs

module _ {D : Type 0} where
  -- the machine after an item
  abbrev pub machine_after : Machine → Item D → Machine
  machine_after m (Entry account reading request loaded) = (step m account reading request.value).0
  machine_after m (Fault before after) = m
  machine_after m (Tick reading work progress) = advance m (moment_of m reading)
  machine_after m (Saving left) = m
  machine_after m Full = m
  machine_after m (Staged block) = m
  machine_after m Blank = m

  -- the machine that the line leaves
  abbrev pub run_line : Machine → List (Turn (Item D)) → Machine
  run_line m line = run_items machine_after m line

  -- the answer of an entry, by what was loaded, is the machine's
  abbrev pub IsAnswered : Machine → Item D → Type 0
  IsAnswered m (Entry account reading request loaded) = answer_of loaded.value ≡ (step m account reading request.value).1
  IsAnswered m (Fault before after) = Unit {0}
  IsAnswered m (Tick reading work progress) = Unit {0}
  IsAnswered m (Saving left) = Unit {0}
  IsAnswered m Full = Unit {0}
  IsAnswered m (Staged block) = Unit {0}
  IsAnswered m Blank = Unit {0}

  -- it is that the disk failed
  abbrev pub IsFault : Item D → Type 0
  IsFault (Entry account reading request loaded) = ⊥
  IsFault (Fault before after) = Unit {0}
  IsFault (Tick reading work progress) = ⊥
  IsFault (Saving left) = ⊥
  IsFault Full = ⊥
  IsFault (Staged block) = ⊥
  IsFault Blank = ⊥

  -- each entry's answer is that of the machine at its place
  abbrev pub AreAnswered : Machine → List (Turn (Item D)) → Type 0
  AreAnswered m line = AllAt machine_after IsAnswered m line

  -- the entries, in their order: the legal history
  abbrev pub entries_in : Item D → Turn (Item D) → List (Turn (Item D))
  entries_in (Entry account reading request loaded) x = x ∷ []
  entries_in (Fault before after) x = []
  entries_in (Tick reading work progress) x = []
  entries_in (Saving left) x = []
  entries_in Full x = []
  entries_in (Staged block) x = []
  entries_in Blank x = []

  abbrev pub history : List (Turn (Item D)) → List (Turn (Item D))
  history [] = []
  history (x ∷ xs) = entries_in x.item x ++ history xs

  abbrev pub block_of : Item D → Option (List ℕ)
  block_of (Staged block) = Some block.value
  block_of (Entry account reading request loaded) = None
  block_of (Fault before after) = None
  block_of (Tick reading work progress) = None
  block_of (Saving left) = None
  block_of Full = None
  block_of Blank = None

  -- the block that was staged under the lease, if it is out, after a turn that leaves this
  abbrev pub block_after : ℕ → Option (List ℕ) → Item D → Deed → Option (List ℕ)
  block_after lease block item Nothing = block
  block_after lease block item (Takes taken) = if lease == taken then block_of item else block
  block_after lease block item (Spends given) = if lease == given then None else block

  abbrev pub block_by : ℕ → Option (List ℕ) → List (Turn (Item D)) → Option (List ℕ)
  block_by lease block [] = block
  block_by lease block (x ∷ xs) = block_by lease (block_after lease block x.item x.deed) xs

  -- the block that was staged under the lease, if it is out by the line
  abbrev pub block_under : ℕ → List (Turn (Item D)) → Option (List ℕ)
  block_under lease line = block_by lease None line

  module _ (view : D → View) where
    -- how often the disk had failed after the item, where it had so often before
    abbrev pub count_after : ℕ → Item D → ℕ
    count_after count (Entry account reading request loaded) = count
    count_after count (Fault before after) = (view after.value).faults
    count_after count (Tick reading work progress) = count
    count_after count (Saving left) = count
    count_after count Full = count
    count_after count (Staged block) = count
    count_after count Blank = count

    -- the second count of the line's last fault, or this one
    abbrev pub last_count : ℕ → List (Turn (Item D)) → ℕ
    last_count count line = run_items count_after count line

    -- the count of a fault rose, from no less than that
    abbrev pub IsRisen : ℕ → Item D → Type 0
    IsRisen count (Entry account reading request loaded) = Unit {0}
    IsRisen count (Fault before after) = (count ≤ (view before.value).faults) × Rose (view before.value).faults (view after.value).faults
    IsRisen count (Tick reading work progress) = Unit {0}
    IsRisen count (Saving left) = Unit {0}
    IsRisen count Full = Unit {0}
    IsRisen count (Staged block) = Unit {0}
    IsRisen count Blank = Unit {0}

    -- the count of each fault rose, from no less than that of the fault before it
    abbrev pub AreRisen : ℕ → List (Turn (Item D)) → Type 0
    AreRisen count line = AllAt count_after IsRisen count line
