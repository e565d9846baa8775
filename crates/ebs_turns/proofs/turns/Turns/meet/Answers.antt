use Rattle.std.proofs.Common.{rules, arith, ap, sym, subst, ◌≤◌, length}
use Rattle.ebs_turns.specs.declared.seats.View.{View}
use Rattle.ebs_turns.proofs.Passes.{joins, tells, shorter_length}
use Rattle.ebs_turns.proofs.turns.Turns.meet.Goals as goal

pub join_seat-requires : goal.join_seat-requires
join_seat-requires g c = let k = c.requires.rests in let o = c.requires.other_rests in
    (c.requires.kept.table_is, c.requires.other.table_is, o.hand, omega arith, joins g.T.Subject.follows _ _ _ _ _ k.tally k.stage o.stage o.held o.refused o.lease)

pub load-requires : goal.load-requires
load-requires g c = let is = ap (λ m. m.0) c.join_seat.ensures.2 in (
  search rules,
  omega arith,
  tells g.T.Subject.follows _ _ _ _ (omega (arith, ap (λ (v : View g.row.T.Denot g.row.I.Denot). v.tally) is, c.requires.rests.tally))
      (subst (λ (v : View g.row.T.Denot g.row.I.Denot). length v.met ≤ length v.seen) (sym is) (shorter_length c.args.kept.now.seat.me.0.seen c.args.other.seat.me.0.seen)),
)
