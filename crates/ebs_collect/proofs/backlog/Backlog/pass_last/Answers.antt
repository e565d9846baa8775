use Rattle.std.proofs.Common.{arith, ◌≡◌, ◌+◌, ◌-◌, is_some, sym, ap, subst}
use Rattle.ebs_lineage.specs.Lines.{Lines}
use Rattle.ebs_collect.specs.Steps.{IsPassed}
use Rattle.ebs_collect.specs.Shown.{queue_shown}
use Rattle.ebs_collect.proofs.Adding.{left-within}
use Rattle.ebs_collect.proofs.Passing.{last-passed}
use Rattle.ebs_collect.proofs.backlog.Backlog.pass_last.Goals as goal

pub clear_place-requires : goal.clear_place-requires
clear_place-requires c = ap is_some (c.requires.linked.each c.args.next.now.number c.args.next.now.place c.requires.next.here).free.1

pub overflow_sub-waiting : goal.overflow_sub-waiting
overflow_sub-waiting c =
    let linked = rw (← c.self.view_is) at c.requires.linked in
    omega (arith, left-within (queue_shown c.self.inside) c.args.lineage.now linked c.args.next.now.number c.args.next.now.place c.requires.next.here, c.requires.last)

pub returns : goal.returns
returns c =
    let linked = rw (← c.self.view_is) at c.requires.linked in
    let next = rw (← c.self.view_is) at c.requires.next in
    let w = c.self.inside.waiting - 1 in
    let within = left-within (queue_shown c.self.inside) c.args.lineage.now linked c.args.next.now.number c.args.next.now.place c.requires.next.here in
    let sum : c.self.inside.waiting ≡ w + 1 = omega (arith, within, c.requires.last) in
    rw (← c.self.view_is) (subst (λ (m : Lines). IsPassed (queue_shown c.self.inside) c.args.lineage.now c.args.next.now (record { first = c.args.next.now.place.next; waiting = w }) m) (sym c.clear_place.ensures)
    (last-passed (queue_shown c.self.inside) c.args.lineage.now linked c.args.next.now next c.requires.last w sum))
