use Rattle.std.proofs.Common.{arith, ◌≡◌, ◌+◌, Some, is_some, refl, sym, ap, subst}
use Rattle.ebs_lineage.specs.declared.place.Place.{Place}
use Rattle.ebs_lineage.specs.Lines.{Lines}
use Rattle.ebs_collect.specs.Steps.{IsAdded}
use Rattle.ebs_collect.specs.Shown.{queue_shown}
use Rattle.ebs_collect.proofs.Sums.{added-waiting}
use Rattle.ebs_collect.proofs.Adding.{whole-place, few-placed, pushed-added}
use Rattle.ebs_collect.proofs.backlog.Backlog.push.Goals as goal

pub overflow_add-waiting : goal.overflow_add-waiting
overflow_add-waiting c =
    let l = c.args.lineage.now in
    let linked = rw (← c.self.view_is) at c.requires.linked in
    let v : Place = record { from = 0; left = c.args.count; next = c.self.inside.first } in
    let good = whole-place l.table.nodes c.args.number v c.requires.free refl c.requires.count c.requires.some c.ranges.count.fits in
    omega (arith, few-placed (queue_shown c.self.inside) l linked c.args.number v good c.keeps_numbers.ensures, added-waiting l.places c.args.number v c.requires.new, linked.count, c.from.ensures)

pub set_place-requires : goal.set_place-requires
set_place-requires c = ap is_some c.requires.free.1

pub returns : goal.returns
returns c =
    let l = c.args.lineage.now in
    let linked = rw (← c.self.view_is) at c.requires.linked in
    let v : Place = record { from = 0; left = c.args.count; next = c.self.inside.first } in
    let good = whole-place l.table.nodes c.args.number v c.requires.free refl c.requires.count c.requires.some c.ranges.count.fits in
    let w = c.self.inside.waiting + c.from.result in
    let sum : w ≡ c.self.inside.waiting + c.args.count = ap (λ k. c.self.inside.waiting + k) c.from.ensures in
    rw (← c.self.view_is) (subst (λ (m : Lines). IsAdded (queue_shown c.self.inside) l c.args.number (record { first = Some c.args.number; waiting = w }) m) (sym c.set_place.ensures)
    (pushed-added (queue_shown c.self.inside) l linked c.args.number v good refl c.requires.new refl w sum))
