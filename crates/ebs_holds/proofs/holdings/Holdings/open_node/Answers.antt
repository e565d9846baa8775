use Rattle.std.proofs.Common.{◌≡◌, refl, sym, ap}
use Rattle.ebs_tables.specs.Full.{full}
use Rattle.ebs_lineage.specs.Lines.{Lines}
use Rattle.ebs_holds.specs.declared.holder.Holder.{Holder}
use Rattle.ebs_holds.specs.Holds.{Holding, KeepsNode, Slots, held_in, nodes_in}
use Rattle.ebs_holds.proofs.Nodes.{keeps_same, keeps_both}
use Rattle.ebs_holds.proofs.holdings.Holdings.open_node.Goals as goal

ready_keeps : (h k : Holding) → k.lines ≡ h.lines → held_in k ≡ held_in h → (q : Holder) → KeepsNode h k q
ready_keeps h k lines held q = keeps_same h k (ap (λ (l : Lines). l.table.nodes) lines) held q

room_keeps : (h k : Holding) → nodes_in k ≡ nodes_in h → k.slots ≡ h.slots → (q : Holder) → KeepsNode h k q
room_keeps h k nodes slots q = keeps_same h k nodes (ap (λ (s : Slots). full s) slots) q

pub returns-then-is_open-clause-is_open : goal.returns-then-is_open-clause-is_open
returns-then-is_open-clause-is_open c = rw (← c.self.view_is) (c.if-is_open.ensures.is_open refl)

pub reopen-requires-clause-frozen : goal.reopen-requires-clause-frozen
reopen-requires-clause-frozen c =
    let has = rw (← c.self.view_is) at c.in-Some.ensures in
    rw (c.reserve_nodes-in-Some.ensures.nodes, ← c.self.view_is) (c.if-is_open.ensures.frozen refl (c.self.invariant.holders.there c.args.holder.now c.in-Some.node (sym has)))

pub returns-in_err-prepare-in-None-clause-others : goal.returns-in_err-prepare-in-None-clause-others
returns-in_err-prepare-in-None-clause-others c = λ q off. ready_keeps c.args.self.now c.prepare.new.self c.prepare.ensures.lines c.prepare.ensures.held q

pub returns-in_err-reserve_nodes-in-None-clause-others : goal.returns-in_err-reserve_nodes-in-None-clause-others
returns-in_err-reserve_nodes-in-None-clause-others c = λ q off.
    let first = ready_keeps c.args.self.now c.prepare.new.self c.prepare.ensures.lines c.prepare.ensures.held q in
    keeps_both c.args.self.now c.prepare.new.self c.reserve_nodes.new.self q first (room_keeps c.prepare.new.self c.reserve_nodes.new.self c.reserve_nodes.ensures.nodes c.reserve_nodes.ensures.slots q)

pub returns-in_err-reserve_nodes-in-Some-clause-others : goal.returns-in_err-reserve_nodes-in-Some-clause-others
returns-in_err-reserve_nodes-in-Some-clause-others c = λ q off.
    room_keeps c.args.self.now c.reserve_nodes-in-Some.new.self c.reserve_nodes-in-Some.ensures.nodes c.reserve_nodes-in-Some.ensures.slots q

pub returns-in_ok-reserve_nodes-in-None-clause-others : goal.returns-in_ok-reserve_nodes-in-None-clause-others
returns-in_ok-reserve_nodes-in-None-clause-others c = λ q off.
    let first = ready_keeps c.args.self.now c.prepare.new.self c.prepare.ensures.lines c.prepare.ensures.held q in
    let second = room_keeps c.prepare.new.self c.reserve_nodes.new.self c.reserve_nodes.ensures.nodes c.reserve_nodes.ensures.slots q in
    keeps_both c.args.self.now c.prepare.new.self c.begin_empty.new.self q first (keeps_both c.prepare.new.self c.reserve_nodes.new.self c.begin_empty.new.self q second (c.begin_empty.ensures.others q off))

pub returns-in_ok-reserve_nodes-in-Some-clause-others : goal.returns-in_ok-reserve_nodes-in-Some-clause-others
returns-in_ok-reserve_nodes-in-Some-clause-others c = λ q off.
    let first = room_keeps c.args.self.now c.reserve_nodes-in-Some.new.self c.reserve_nodes-in-Some.ensures.nodes c.reserve_nodes-in-Some.ensures.slots q in
    keeps_both c.args.self.now c.reserve_nodes-in-Some.new.self c.reopen.new.self q first (c.reopen.ensures.others q off)
