use Rattle.std.proofs.Common.{◌≡◌, Some, sym, ap, ◌∙◌, refl, [], ◌++◌, arith}
use Rattle.std.proofs.lemmas.List.Elements.{All-pop}
use Rattle.ebs_server.specs.Hands.{IsReady, ends_in}
use Rattle.ebs_server.proofs.Rows.{ends_on}
use Rattle.ebs_server.proofs.hands.meet_all.Goals as goal

pub hand-init : goal.hand-init
hand-init g c =
    let popped = All-pop (λ hand. IsReady c.args.desk.now.turns.board.shared c.args.desk.now.turns.passes hand.pass.inner.seat) c.args.hands.items c.pop.new.self.items (Some c.in-Some.last) c.in-Some.ensures.items c.requires.ready in
    record {
      at = popped.1.at;
      tally = omega (arith, popped.1.one, c.in-Some.ensures.cases);
      ready = popped.0;
      ends = ends_on [] c.add_end.new.ends.items _ c.args.hands.items c.pop.new.self.items c.in-Some.last c.in-Some.ensures.items
          (c.add_end.ensures.items ∙ ap (λ ends. ends ++ ends_in c.in-Some.last.task c.in-Some.last.end) c.requires.none) refl;
      room = omega (arith, c.add_end.ensures.few, c.add_end.ensures.room, c.in-Some.ensures.cases, c.requires.room, c.requires.fresh);
    }

pub meet-requires-clause-other : goal.meet-requires-clause-other
meet-requires-clause-other g c =
    (All-pop (λ hand. IsReady c.args.desk.now.turns.board.shared c.args.desk.now.turns.passes hand.pass.inner.seat) c.hand.hands.items c.pop-in-hand.new.self.items (Some c.in-Some-pop.hand) c.in-Some-pop.ensures.items c.hand.invariant.ready).1.at

pub hand-preserved : goal.hand-preserved
hand-preserved g c =
    let popped = All-pop (λ hand. IsReady c.args.desk.now.turns.board.shared c.args.desk.now.turns.passes hand.pass.inner.seat) c.hand.hands.items c.pop-in-hand.new.self.items (Some c.in-Some-pop.hand) c.in-Some-pop.ensures.items c.hand.invariant.ready in
    record {
      at = c.meet.ensures.at;
      tally = omega (arith, c.meet.ensures.met.tally, popped.1.one, c.in-Some-pop.ensures.cases, c.hand.invariant.tally);
      ready = popped.0;
      ends = ends_on c.hand.ends.items c.add_end-in-Some-pop.new.ends.items _ c.hand.hands.items c.pop-in-hand.new.self.items c.in-Some-pop.hand c.in-Some-pop.ensures.items c.add_end-in-Some-pop.ensures.items c.hand.invariant.ends;
      room = omega (arith, c.add_end-in-Some-pop.ensures.few, c.add_end-in-Some-pop.ensures.room, c.in-Some-pop.ensures.cases, c.hand.invariant.room);
    }
