-- What a call does to the blocks that nodes keep and to the slots that count them, and which arrays are shown.
use Rattle.std.specs.Prelude.{◌≡◌, ◌≢◌, ◌≤◌, ℕ, None, true, false}
use Rattle.std.specs.Ordering.{is_le}
use Rattle.std.specs.FinMap as map
use Rattle.ebs_model.specs.declared.request.Request.{Request}
use Rattle.ebs_model.specs.declared.change.Decision.{Decision}
use Rattle.ebs_model.specs.declared.change.Decision.TheVariants as decision
use Rattle.ebs_model.specs.Rows.{Rows}
use Rattle.ebs_holds.specs.declared.holder.Holder.{Holder}
use Rattle.ebs_holds.specs.Holders.{holder_cmp}
use Rattle.ebs_holds.specs.Holds.{HeldBy, Holding, blocks_at, nodes_in}
use Rattle.ebs_holds.specs.Counted.{KeepsBlocks, KeepsCounted, put_place, replaced_in}
use Rattle.ebs_catalog.specs.Held.{rows_in}
use Rattle.ebs_kept.specs.declared.kept.Kept.TheInside.{Inside}
use Rattle.ebs_kept.specs.inner.Shown.{Form}
use Rattle.ebs_kept.specs.inner.Stamps.{is_shown}

-- a call that makes no change keeps all blocks, and one that makes a change does with them what this request does
abbrev pub ChangesCounted : Form → Form → Request → Type 0
ChangesCounted old new request =
    (new.machine.changes ≡ old.machine.changes → KeepsBlocks (nodes_in old.holding) (nodes_in new.holding))
    × (new.machine.changes ≢ old.machine.changes → KeepsCounted (nodes_in old.holding) (nodes_in new.holding) request old.machine.stamps (replaced_in old.holding request))

-- a change that was decided puts a block just where the request puts one
abbrev pub PutsAsAsked : Request → Decision → Type 0
PutsAsAsked request (decision.Change change answer) = put_place change.request ≡ put_place request
PutsAsAsked request (decision.Kept answer) = Unit {0}
PutsAsAsked request (decision.View answer) = Unit {0}
PutsAsAsked request (decision.Read row) = Unit {0}

-- arrays that are shown at the moment stay, and so do the blocks that nodes keep; more blocks may wait
pub record KeepsShown (now : ℕ) (rows : Rows) (old new : Holding) : Type 0 where
  pub arrays : (q : Holder) → is_shown now rows q ≡ true → blocks_at new q ≡ blocks_at old q
  pub blocks : KeepsBlocks (nodes_in old) (nodes_in new)
  pub grows : old.queue.waiting ≤ new.queue.waiting

-- an array that isn't shown has no blocks
abbrev pub IsAllShown : ℕ → Rows → Holding → Type 0
IsAllShown now rows h = (q : Holder) → is_shown now rows q ≡ false → blocks_at h q ≡ map.empty

-- before a holder, none has a node whose array isn't shown
abbrev pub IsShownBefore : ℕ → Rows → HeldBy → Holder → Type 0
IsShownBefore now rows held from = (q : Holder) → is_le (holder_cmp from q) ≡ false → is_shown now rows q ≡ false → map.get held q ≡ None

-- nothing is kept of what time has ended by the clock, nor of a volume that is gone
abbrev pub AreAllShown : Form → Type 0
AreAllShown f = IsAllShown f.machine.clock.second (rows_in f.catalog) f.holding

-- which the store says of itself
abbrev pub IsSettled : Inside → Type 0
IsSettled k = k.is_settled ≡ true → IsAllShown k.clock.second (rows_in k.catalog) k.holdings
