-- What is seen of a store, by what it keeps.
use Rattle.std.specs.Prelude.{ℕ, Bool, refl, true, false, ◌≡◌, ◌<◌, Some, IsSome, ◌^◌, ◌+◌, ◌*◌, ◌≤◌, None}
use Rattle.std.specs.Coded.{Coded, code_by, coded×, coded_ℕ, coded_bool, coded_option}
use Rattle.std.specs.FinMap as fin
use Rattle.ebs_world.specs.declared.area.Area.{Area}
use Rattle.ebs_world.specs.declared.area.Area.TheVariants.{Journal0, Journal1, Blocks, Archive}
use Rattle.ebs_world.specs.contracts.area.Area as area_type
use Rattle.ebs_model.specs.declared.keys.Moment.{Moment}
use Rattle.ebs_model.specs.contracts.keys.Moment as moment_type
use Rattle.ebs_model.specs.declared.keys.SnapKey.{SnapKey}
use Rattle.ebs_model.specs.declared.rows.SnapRow.{SnapRow}
use Rattle.ebs_model.specs.Time.{Snapshot}
use Rattle.ebs_model.specs.Machine.{Machine}
use Rattle.ebs_records.specs.contracts.record.Record as record_type
use Rattle.ebs_lineage.specs.Table.{NodeMap}
use Rattle.ebs_collect.specs.Slices.{IsCounted}
use Rattle.ebs_recovery.specs.Made.{SlotOfStamp}
use Rattle.ebs_recovery.specs.inner.Stands.{EachBlock}
use Rattle.ebs_lawful.specs.Lawful.{IsLawful}
use Rattle.ebs_lawful.specs.Arrays.{AreArrays}
use Rattle.ebs_lawful_points.specs.Blocks.{HasStamps}
use Rattle.ebs_disk_store.specs.declared.store.Store.TheInside.{Inside}
use Rattle.ebs_journal.specs.inner.Line.{Line, line}
use Rattle.ebs_model.specs.inner.Codes.{machine_code}
use Rattle.ebs_recovery.specs.inner.Fits.{Seen}
use Rattle.ebs_slots.specs.inner.Slots.{SlotTable, table_code}

abbrev pub line_code : Coded Line
line_code = code_by ((Area × ℕ) × ((ℕ × ℕ) × (Bool × (Bool × Bool)))) (coded× (coded× area_type.the_row.coded coded_ℕ) (coded× (coded× coded_ℕ coded_ℕ) (coded× coded_bool (coded× coded_bool coded_bool))))
    (λ l. ((l.area, l.epoch), ((l.end, l.since_checkpoint), (l.clean, (l.shut, l.turning)))))
    (λ p. record { area = p.0.0; epoch = p.0.1; end = p.1.0.0; since_checkpoint = p.1.0.1; clean = p.1.1.0; shut = p.1.1.1.0; turning = p.1.1.1.1 }) (λ _. refl)

abbrev pub seen_code : Coded Seen
seen_code = code_by ((Machine × Moment) × ((SlotTable × ℕ) × (Line × _)))
    (coded× (coded× machine_code moment_type.the_row.coded) (coded× (coded× table_code coded_ℕ) (coded× line_code (coded_option record_type.the_row.coded))))
    (λ s. ((s.recorded, s.clock), ((s.slots, s.waiting), (s.journal, s.pending))))
    (λ p. record { recorded = p.0.0; clock = p.0.1; slots = p.1.0.0; waiting = p.1.0.1; journal = p.1.1.0; pending = p.1.1.1 }) (λ _. refl)

abbrev pub shown : {S : _} → Inside S → Seen
shown s = record { recorded = s.kept.machine; clock = s.clock; slots = s.slots; waiting = s.kept.holding.queue.waiting; journal = line s.journal; pending = s.pending }

abbrev pub is_blocks : Area → Bool
is_blocks Journal0 = false
is_blocks Journal1 = false
is_blocks Blocks = true
is_blocks Archive = false

-- each stamp with a slot was given
abbrev pub AreGiven : SlotOfStamp → ℕ → Type 0
AreGiven keys stamps = (stamp slot : ℕ) → fin.get keys stamp ≡ Some slot → stamp < stamps

-- each block that is kept has a slot
abbrev pub AreSlotted : SlotOfStamp → Machine → Type 0
AreSlotted keys m = EachBlock (λ block. IsSome (fin.get keys block.stamp)) m

-- an index that was put in an upload is one of an image of the greatest size
abbrev pub HasIndexes : SnapRow → Type 0
HasIndexes row = (index : ℕ) → fin.get row.put index ≡ Some tt → index < 2 ^ 25

abbrev pub AreIndexed : Machine → Type 0
AreIndexed m = (key : SnapKey) (s : Snapshot) → fin.get m.snaps key ≡ Some s → HasIndexes s.row

-- what calls keep of every machine, however digests are found
pub record HasLaws (m : Machine) : Type 0 where
  pub lawful : IsLawful m
  pub arrays : AreArrays m
  pub stamps : HasStamps m

-- what holds of a store by itself, whatever its disk, of which these are the nodes
pub record IsSound (s : Seen) (nodes : NodeMap) : Type 0 where
  pub late : s.recorded.clock.second ≤ s.clock.second
  pub early : s.clock.second ≤ 2 ^ 36
  pub few : s.recorded.changes ≤ 2 ^ 40
  -- each change has a record, and each second one of time at most, so the journal ends below byte 2^62
  pub room : s.journal.end ≤ 2 ^ 41 + 14 * s.recorded.clock.second + 1048581 * s.recorded.changes
  pub given : AreGiven s.slots.keys s.recorded.stamps
  pub slotted : AreSlotted s.slots.keys s.recorded
  -- a stamp has a slot exactly where a node keeps its block
  pub counted : IsCounted s.slots nodes
  pub indexed : AreIndexed s.recorded
  pub laws : HasLaws s.recorded
  pub area : is_blocks s.slots.area ≡ true
  pub clean : s.pending ≡ None → s.journal.clean ≡ true
