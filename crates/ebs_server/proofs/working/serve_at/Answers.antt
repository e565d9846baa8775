use Rattle.std.proofs.Common.{◌≡◌, ◌∙◌, [], ◌∷◌, All, map, reverse, drop, length, sym, ap, subst, arith}
use Rattle.std.proofs.lemmas.List.Elements.{All-append}
use Rattle.ebs_server.specs.declared.hand.Task.TheVariants.{Serve, Collect}
use Rattle.ebs_server.specs.Posts.{AreEnded}
use Rattle.ebs_server.specs.Hands.{IsReady, AreDone, ends_back}
use Rattle.ebs_server.proofs.Rows.{all_one, written, tasks_with, given_back}
use Rattle.ebs_server.proofs.working.serve_at.Goals as goal

pub do_all-requires-clause-ready : goal.do_all-requires-clause-ready
do_all-requires-clause-ready g c κs within =
    subst (All (λ hand. IsReady c.args.desk.now.turns.board.shared c.args.desk.now.turns.passes hand.pass.inner.seat)) (sym (c.as_mut_slice.ensures.value ∙ c.in-Ok.ensures.items))
    (All-append (λ hand. IsReady c.args.desk.now.turns.board.shared c.args.desk.now.turns.passes hand.pass.inner.seat) c.hands_for-hands.result.items (c.hand_for.result ∷ []) c.hands_for-hands.ensures.all_ready (all_one (λ hand. IsReady c.args.desk.now.turns.board.shared c.args.desk.now.turns.passes hand.pass.inner.seat) c.hand_for.result (rw c.hand_for.ensures c.hands_for-hands.ensures.ready)))

pub meet_all-requires-clause-ready : goal.meet_all-requires-clause-ready
meet_all-requires-clause-ready g c =
    subst (All (λ hand. IsReady c.args.desk.now.turns.board.shared c.args.desk.now.turns.passes hand.pass.inner.seat)) (sym (written c.do_all.new.hands (drop (length c.do_all.new.hands) c.push.new.self.items) c.push.new.self.len (c.do_all.auto.hands ∙ c.as_mut_slice.ensures.len))) c.do_all.ensures.ready

pub meet_all-requires-clause-room : goal.meet_all-requires-clause-room
meet_all-requires-clause-room g c = omega (arith, c.in-Ok.ensures.len, c.hands_for-hands.ensures.len, c.requires.end_room, c.requires.fresh.0)

pub returns-clause-tally : goal.returns-clause-tally
returns-clause-tally g c = omega (arith, c.meet_all.ensures.tally, c.in-Ok.ensures.len, c.hands_for-hands.ensures.len, c.requires.fresh.0)

pub returns-clause-ended : goal.returns-clause-ended
returns-clause-ended g c =
    let back = written c.do_all.new.hands (drop (length c.do_all.new.hands) c.push.new.self.items) c.push.new.self.len (c.do_all.auto.hands ∙ c.as_mut_slice.ensures.len) in
    let tasks = tasks_with c.hands_for-hands.result.items c.push.new.self.items c.hand_for.result (map Serve (reverse c.args.posts.items)) (Collect c.args.collector_clock) c.in-Ok.ensures.items c.hands_for-hands.ensures.tasks
    (ap (λ h. h.task) c.hand_for.ensures) in
    let done = subst (λ hands. AreDone g.L.Listener.door hands c.do_all.new.hands) c.as_mut_slice.ensures.value c.do_all.ensures.done in
    subst (λ ends. AreEnded g.L.Listener.door c.args.posts.items ends) (sym (c.meet_all.ensures.ends ∙ ap ends_back back)) (given_back g.L.Listener.door c.args.posts.items c.args.collector_clock c.push.new.self.items c.do_all.new.hands tasks done)
