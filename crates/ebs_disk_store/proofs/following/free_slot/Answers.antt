use Rattle.std.proofs.Common.{◌≡◌, ◌∙◌, true, not, sym, subst}
use Rattle.ebs_collect.specs.Slices.{Frees}
use Rattle.ebs_collect.proofs.Releases.{frees-same}
use Rattle.ebs_collect.proofs.Sliced.{frees-both}
use Rattle.ebs_model.specs.Machine.{Machine}
use Rattle.ebs_recovery.specs.Made.{is_taken}
use Rattle.ebs_recovery.proofs.Agree.{free_unnamed}
use Rattle.ebs_disk_store.specs.inner.Following.{IsKeptState}
use Rattle.ebs_disk_store.proofs.Swept.{frees_less, free_is, less_state, untaken}
use Rattle.ebs_disk_store.proofs.following.free_slot.Goals as goal
use Rattle.ebs_disk_store.proofs.following.free_slot.Goals.{After-sweep}

pub returns-then-is_free-clause-frees : goal.returns-then-is_free-clause-frees
returns-then-is_free-clause-frees c = frees-same c.args.slots.now

pub returns-then-is_free-clause-taken : goal.returns-then-is_free-clause-taken
returns-then-is_free-clause-taken c =
    sym (free_unnamed (record { machine = c.args.kept.now.machine; slots = c.args.slots.now.keys }) c.args.slot (c.is_free.ensures.0 c.if-is_free.true).no_key)

pub returns-then-is_free-clause-free : goal.returns-then-is_free-clause-free
returns-then-is_free-clause-free c _ = c.is_free.ensures.0 c.if-is_free.true

-- ---- behind what waited

pub returns-then-is_free-2-clause-state : goal.returns-then-is_free-2-clause-state
returns-then-is_free-2-clause-state c =
    less_state c.collect_all.new.kept.machine c.args.slots.now c.collect_all.new.slots (frees_less c.args.slots.now c.collect_all.new.slots c.collect_all.ensures.frees) c.collect_all.ensures.slotted
    (subst (λ (x : Machine). IsKeptState x c.args.slots.now) (sym c.collect_all.ensures.machine) c.requires.state)

pub returns-then-is_free-2-clause-taken : goal.returns-then-is_free-2-clause-taken
returns-then-is_free-2-clause-taken c =
    subst (λ (x : Machine). true ≡ not (is_taken (record { machine = x; slots = c.args.slots.now.keys }) c.args.slot)) c.collect_all.ensures.machine
    (untaken c.collect_all.new.kept.machine c.args.slots.now c.collect_all.new.slots (frees_less c.args.slots.now c.collect_all.new.slots c.collect_all.ensures.frees) c.collect_all.ensures.slotted c.args.slot
    (c.is_free-2.ensures.0 c.if-is_free-2.true))

pub returns-then-is_free-2-clause-free : goal.returns-then-is_free-2-clause-free
returns-then-is_free-2-clause-free c _ = c.is_free-2.ensures.0 c.if-is_free-2.true

-- ---- behind what time has ended

all_frees : (c : After-sweep) → Frees c.args.slots.now c.sweep.new.slots
all_frees c = frees-both c.args.slots.now c.collect_all.new.slots c.sweep.new.slots c.collect_all.ensures.frees c.sweep.ensures.frees

machine_is : (c : After-sweep) → c.sweep.new.kept.machine ≡ c.args.kept.now.machine
machine_is c = c.sweep.ensures.machine ∙ c.collect_all.ensures.machine

state_before : (c : After-sweep) → IsKeptState c.sweep.new.kept.machine c.args.slots.now
state_before c = subst (λ (x : Machine). IsKeptState x c.args.slots.now) (sym (machine_is c)) c.requires.state

pub returns-clause-machine : goal.returns-clause-machine
returns-clause-machine c = machine_is (goal.at.returns-clause-machine c).After-sweep

pub returns-clause-frees : goal.returns-clause-frees
returns-clause-frees c = all_frees (goal.at.returns-clause-frees c).After-sweep

pub returns-clause-state : goal.returns-clause-state
returns-clause-state c =
    let a = (goal.at.returns-clause-state c).After-sweep in
    less_state c.sweep.new.kept.machine c.args.slots.now c.sweep.new.slots (frees_less c.args.slots.now c.sweep.new.slots (all_frees a)) c.sweep.ensures.slotted (state_before a)

pub returns-clause-taken : goal.returns-clause-taken
returns-clause-taken c =
    let a = (goal.at.returns-clause-taken c).After-sweep in
    subst (λ (x : Machine). c.is_free-3.result ≡ not (is_taken (record { machine = x; slots = c.args.slots.now.keys }) c.args.slot)) (machine_is a)
    (free_is c.sweep.new.kept.machine c.args.slots.now c.sweep.new.slots (frees_less c.args.slots.now c.sweep.new.slots (all_frees a)) c.sweep.ensures.slotted c.sweep.ensures.shared c.args.slot c.is_free-3.result
    (state_before a) c.is_free-3.ensures)

pub returns-clause-free : goal.returns-clause-free
returns-clause-free c = c.is_free-3.ensures.0
