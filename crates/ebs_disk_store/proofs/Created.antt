-- A store that is made.
use Rattle.std.proofs.Common.{◌≡◌, ◌⊎◌, inl, inr, ⊎_elim, ℕ, ◌≤◌, ◌^◌, List, [], true, None, Some, sym, ap, subst, ◌∙◌, arith}
use Rattle.std.specs.Prelude.{IsSome}
use Rattle.std.specs.FinMap as fin
use Rattle.std.specs.Ordering.{nat_cmp}
use Rattle.ebs_world.specs.declared.area.Area.{Area}
use Rattle.ebs_world.specs.declared.area.Area.TheVariants.{Journal0, Blocks, Archive}
use Rattle.ebs_world.specs.Image.{Image, Everywhere, Was}
use Rattle.ebs_world.specs.View.{View, Leaves, Ran}
use Rattle.ebs_world.specs.inner.Runs.{leaves_weaker, leaves_on, ran_on, ran_weaker}
use Rattle.ebs_journal.specs.inner.Line.{Line}
use Rattle.ebs_journal.specs.Opening.{IsJournal, OffMaking}
use Rattle.ebs_lineage.specs.Table.{NodeMap}
use Rattle.ebs_collect.specs.Slices.{IsCounted}
use Rattle.ebs_slots.specs.inner.Slots.{SlotTable, no_slots}
use Rattle.ebs_model.specs.Machine.{Machine, empty_machine}
use Rattle.ebs_recovery.specs.inner.Stands.{first_checkpoint, IsSecret}
use Rattle.ebs_recovery.specs.inner.StandLaws.{NewStands}
use Rattle.ebs_disk_store.specs.Opened.{KeepsMade, NoneNewOrOld}
use Rattle.ebs_recovery.proofs.First.{no_blocks}
use Rattle.ebs_model.specs.declared.keys.SnapKey.{SnapKey}
use Rattle.ebs_model.specs.Keys.{snap_cmp}
use Rattle.ebs_model.specs.Time.{Snapshot}
use Rattle.ebs_disk_store.specs.inner.Shown.{AreIndexed, AreSlotted, HasLaws, IsSound, is_blocks}
use Rattle.ebs_disk_store.proofs.Lawful.{empty_laws}

-- until something is written, each image is one of before
pub unwritten : (old new : View) (secret : List ℕ) → Ran Everywhere old new → old.honest ≡ true → Leaves old new (NoneNewOrOld old secret)
unwritten old new secret ran honest = leaves_weaker old new (Was Everywhere old.may_leave) (NoneNewOrOld old secret) (λ c was. inr (inr was)) (ran.moments honest)

-- what was read of a synced disk stands in each image
pub unmarked : (v mid : View) → Ran Everywhere v mid → v.honest ≡ true → ((c : Image) → v.may_leave c → (a : Area) (i : ℕ) → c a i ≡ v.reads a i) → v.reads Archive 0 ≡ 0
    → (c : Image) → mid.may_leave c → c Archive 0 ≡ 0
unmarked v mid ran honest durable is c now =
    let was = ran.images honest c now in
    was.2 Archive 0 tt ∙ durable was.0 was.1 Archive 0 ∙ is

-- where zero was read as the mark, no store was made
pub none_made : (old mid new : View) (mark : ℕ) → Ran Everywhere old mid → (mid.tells ≡ true → mark ≡ mid.reads Archive 0) → mark ≡ 0 → KeepsMade old new
none_made old mid new mark ran reads none = λ told marked. absurd (marked (sym (ran.kept told Archive 0 tt) ∙ sym (reads (ran.told ∙ told)) ∙ none))

-- while a journal is made, the mark is zero or the new journal is whole
pub while_made : (old mid new : View) (secret checkpoint : List ℕ) → Ran Everywhere old mid → old.tells ≡ true → old.honest ≡ true
    → ((c : Image) → mid.may_leave c → c Archive 0 ≡ 0)
    → (mid.tells ≡ true → mid.honest ≡ true → ((c : Image) → mid.may_leave c → c Archive 0 ≡ 0) → Leaves mid new (λ c. (c Archive 0 ≡ 0) ⊎ IsJournal c Journal0 1 checkpoint []))
    → checkpoint ≡ first_checkpoint secret → IsSecret secret → NewStands
    → Leaves old new (NoneNewOrOld old secret)
while_made old mid new secret checkpoint ran told honest marked made is is_secret stands = leaves_on old mid new (NoneNewOrOld old secret)
    (unwritten old mid secret ran honest)
    (leaves_weaker mid new (λ c. (c Archive 0 ≡ 0) ⊎ IsJournal c Journal0 1 checkpoint []) (NoneNewOrOld old secret)
    (λ c. ⊎_elim (λ zero. inl zero) (λ journal. inr (inl (stands c Journal0 1 secret is_secret (subst (λ (bytes : List ℕ). IsJournal c Journal0 1 bytes []) is journal)))))
    (made (ran.told ∙ told) (ran.kept_honest ∙ honest) marked))

pub ran_made : (old mid new : View) → Ran Everywhere old mid → Ran OffMaking mid new → Ran OffMaking old new
ran_made old mid new first second = ran_on OffMaking old mid new (ran_weaker Everywhere OffMaking old mid (λ a i here. tt) first) second

pub none_given : {A : Type 0} (stamp slot : ℕ) → fin.get (fin.empty {X = ℕ} {R = nat_cmp}) stamp ≡ Some slot → A
none_given stamp slot e = absurd (nothing (sym (fin.get-empty {X = ℕ} nat_cmp stamp) ∙ e))
  where
    nothing : None ≡ Some slot → ⊥
    nothing e = cc

pub none_kept : {A : Type 0} (key : SnapKey) (s : Snapshot) → fin.get (fin.empty {X = Snapshot} {R = snap_cmp}) key ≡ Some s → A
none_kept key s e = absurd (nothing (sym (fin.get-empty {X = Snapshot} snap_cmp key) ∙ e))
  where
    nothing : None ≡ Some s → ⊥
    nothing e = cc

-- a store without records is sound
pub new_sound : (m : Machine) (secret : List ℕ) (slots : SlotTable) (waiting : ℕ) (nodes : NodeMap) (journal : Line) → m ≡ empty_machine secret → slots ≡ no_slots Blocks → IsCounted (no_slots Blocks) nodes → journal.end ≤ 2 ^ 41 → journal.clean ≡ true
    → IsSound (record { recorded = m; clock = record { second = 0 }; slots = slots; waiting = waiting; journal = journal; pending = None }) nodes
new_sound m secret slots waiting nodes journal is none counted end clean = record {
  late = omega (arith, ap (λ (n : Machine). n.clock.second) is);
  early = omega arith;
  few = omega (arith, ap (λ (n : Machine). n.changes) is);
  room = omega (arith, end);
  given = λ stamp slot found. none_given stamp slot (ap (λ (s : SlotTable). fin.get s.keys stamp) (sym none) ∙ found);
  slotted = subst (AreSlotted slots.keys) (sym is) (no_blocks (λ block. IsSome (fin.get slots.keys block.stamp)) secret);
  counted = subst (λ (u : SlotTable). IsCounted u nodes) (sym none) counted;
  indexed = subst AreIndexed (sym is) (λ key s found index there. none_kept key s found);
  laws = subst HasLaws (sym is) (empty_laws secret);
  area = ap (λ (s : SlotTable). is_blocks s.area) none;
  clean = λ _. clean;
}
