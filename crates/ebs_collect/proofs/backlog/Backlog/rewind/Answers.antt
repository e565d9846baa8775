use Rattle.std.proofs.Common.{arith, ◌≡◌, ◌+◌, ◌-◌, is_some, refl, sym, ap, subst}
use Rattle.ebs_lineage.specs.declared.place.Place.{Place}
use Rattle.ebs_lineage.specs.Lines.{Lines}
use Rattle.ebs_collect.specs.Steps.{IsAdded}
use Rattle.ebs_collect.specs.Shown.{queue_shown}
use Rattle.ebs_collect.proofs.Sums.{moved-waiting}
use Rattle.ebs_collect.proofs.Adding.{left-within, whole-place, few-placed, moved-added}
use Rattle.ebs_collect.proofs.backlog.Backlog.rewind.Goals as goal

pub overflow_sub-others : goal.overflow_sub-others
overflow_sub-others c =
    let linked = rw (← c.self.view_is) at c.requires.linked in
    omega (arith, left-within (queue_shown c.self.inside) c.args.lineage.now linked c.args.number c.args.place.now c.requires.place, c.from.ensures)

pub overflow_add-waiting : goal.overflow_add-waiting
overflow_add-waiting c =
    let l = c.args.lineage.now in
    let p = c.args.place.now in
    let linked = rw (← c.self.view_is) at c.requires.linked in
    let v : Place = record { from = 0; left = c.args.count; next = p.next } in
    let good = whole-place l.table.nodes c.args.number v c.requires.free refl c.requires.count c.requires.some c.ranges.count.fits in
    omega (
      arith,
      few-placed (queue_shown c.self.inside) l linked c.args.number v good c.keeps_numbers.ensures,
      moved-waiting l.places c.args.number p v c.requires.place,
      linked.count,
      left-within (queue_shown c.self.inside) l linked c.args.number p c.requires.place,
      c.from.ensures,
      c.from-2.ensures,
    )

pub set_place-requires : goal.set_place-requires
set_place-requires c = ap is_some c.requires.free.1

pub returns : goal.returns
returns c =
    let l = c.args.lineage.now in
    let p = c.args.place.now in
    let linked = rw (← c.self.view_is) at c.requires.linked in
    let v : Place = record { from = 0; left = c.args.count; next = p.next } in
    let good = whole-place l.table.nodes c.args.number v c.requires.free refl c.requires.count c.requires.some c.ranges.count.fits in
    let w = c.self.inside.waiting - c.from.result + c.from-2.result in
    let within = left-within (queue_shown c.self.inside) l linked c.args.number p c.requires.place in
    let sum : w + p.left ≡ c.self.inside.waiting + c.args.count = omega (arith, within, c.from.ensures, c.from-2.ensures) in
    rw (← c.self.view_is) (subst (λ (m : Lines). IsAdded (queue_shown c.self.inside) l c.args.number (record { first = c.self.inside.first; waiting = w }) m) (sym c.set_place.ensures)
    (moved-added (queue_shown c.self.inside) l linked c.args.number v good refl p c.requires.place refl w sum))
