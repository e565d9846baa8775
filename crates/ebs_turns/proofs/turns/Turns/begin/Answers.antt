use Rattle.std.proofs.Common.{rules, arith, ap, sym, ◌∙◌, ◌∷◌}
use Rattle.atomic_table.specs.Table.{rest}
use Rattle.ebs_turns.specs.declared.seats.Place.TheVariants.{Home}
use Rattle.ebs_turns.proofs.Steps.{queues, turns}
use Rattle.ebs_turns.proofs.Turning.{has_turn}
use Rattle.ebs_turns.proofs.turns.Turns.begin.Goals as goal

pub fetch_add-ticket-requires : goal.fetch_add-ticket-requires
fetch_add-ticket-requires g c = (c.requires.at.table_is, omega arith, queues g.T.Subject.follows _ _ _ _ c.requires.free.1 c.requires.free.2)

pub load-served-requires : goal.load-served-requires
load-served-requires g c = (search rules, omega arith, turns g.T.Subject.follows _ _ _ _ (ap (λ m. m.0.stage) c.loop.invariant.1))

pub exchange-requires : goal.exchange-requires
exchange-requires g c = let h = has_turn g.T.Subject.follows c.args.pass.now.seat.me.0 c.fetch_add-ticket.result _ _ _ c.loop.invariant.1 c.load-served.ensures.2 c.if-served-ticket.true in
    (search rules, (Home h.value h.left, h.hand ∙ ap (λ cs. (0, Home h.value h.left) ∷ rest cs) (sym h.hand)))
