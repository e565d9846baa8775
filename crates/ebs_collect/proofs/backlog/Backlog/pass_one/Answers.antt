use Rattle.std.proofs.Common.{arith, ◌≡◌, ◌≤◌, ◌+◌, ◌-◌, ℕ, is_some, refl, sym, ap, subst}
use Rattle.ebs_lineage.specs.declared.place.Place.{Place}
use Rattle.ebs_lineage.specs.Lines.{Lines}
use Rattle.ebs_collect.specs.Steps.{IsPassed}
use Rattle.ebs_collect.specs.Shown.{queue_shown}
use Rattle.ebs_collect.proofs.Adding.{left-within}
use Rattle.ebs_collect.proofs.Passing.{one-passed, near}
use Rattle.ebs_collect.proofs.Sliced.{own-small}
use Rattle.ebs_collect.proofs.backlog.Backlog.pass_one.Goals as goal

not_one : (n : ℕ) → 1 ≤ n → (n ≡ 1 → ⊥) → 1 ≤ n - 1
not_one n some more = grind arith

one_less : (n : ℕ) → 1 ≤ n → n ≡ n - 1 + 1
one_less n some = omega arith

pub overflow_add-from : goal.overflow_add-from
overflow_add-from c =
    let l = c.args.lineage.now in
    let next = c.args.next.now in
    omega (arith, near c.args.self.now l c.requires.linked next c.requires.next (own-small l.table.nodes l.made next.number c.keeps_lines.ensures) c.requires.more)

pub overflow_sub-left : goal.overflow_sub-left
overflow_sub-left c = omega (arith, (c.requires.linked.each c.args.next.now.number c.args.next.now.place c.requires.next.here).some)

pub overflow_sub-waiting : goal.overflow_sub-waiting
overflow_sub-waiting c =
    let linked = rw (← c.self.view_is) at c.requires.linked in
    omega (arith, left-within (queue_shown c.self.inside) c.args.lineage.now linked c.args.next.now.number c.args.next.now.place c.requires.next.here, (c.requires.linked.each c.args.next.now.number c.args.next.now.place c.requires.next.here).some)

pub set_place-requires : goal.set_place-requires
set_place-requires c = ap is_some (c.requires.linked.each c.args.next.now.number c.args.next.now.place c.requires.next.here).free.1

pub returns : goal.returns
returns c =
    let linked = rw (← c.self.view_is) at c.requires.linked in
    let next = rw (← c.self.view_is) at c.requires.next in
    let p = c.args.next.now.place in
    let some = (c.requires.linked.each c.args.next.now.number p c.requires.next.here).some in
    let v : Place = record { from = c.args.next.now.index + 1; left = p.left - 1; next = p.next } in
    let w = c.self.inside.waiting - 1 in
    let within = left-within (queue_shown c.self.inside) c.args.lineage.now linked c.args.next.now.number p c.requires.next.here in
    let sum : c.self.inside.waiting ≡ w + 1 = omega (arith, within, some) in
    rw (← c.self.view_is) (subst (λ (m : Lines). IsPassed (queue_shown c.self.inside) c.args.lineage.now c.args.next.now (record { first = c.self.inside.first; waiting = w }) m) (sym c.set_place.ensures)
    (one-passed (queue_shown c.self.inside) c.args.lineage.now linked c.args.next.now next v refl (one_less p.left some) refl (not_one p.left some c.requires.more) w sum))
