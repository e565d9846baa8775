use Rattle.std.proofs.Common.{arith, sym, refl, subst, ⊎_elim, inl, inr, ◌≤◌}
use Rattle.ebs_turns.proofs.Passes.{taken, leaves_of}
use Rattle.ebs_turns.proofs.turns.Turns.close.Goals as goal

pub unreachable-requires : goal.unreachable-requires
unreachable-requires g c = let h = c.if-has_others.ensures in let r = h.rests in
    let t = taken g.T.Subject.follows c.args.self.board.shared.key _ c.args.pass.seat.me.0 _ _ _ c.take-place.result c.close_with-closed.ensures.values.2 r.tally r.stage r.lease (⊎_elim inl (λ p. inr (subst (λ n. n ≤ c.has_others.new.pass.seat.me.0.tally) c.requires.at.many p)) (h.no refl)) h.at.about
    (sym h.same.0.about) (sym h.same.1) c.take-place.ensures.value in
    cc (t.is, c.in-Out.is)

pub returns-clause-ok : goal.returns-clause-ok
returns-clause-ok g c = let h = c.if-has_others.ensures in let r = h.rests in
    let t = taken g.T.Subject.follows c.args.self.board.shared.key _ c.args.pass.seat.me.0 _ _ _ c.take-place.result c.close_with-closed.ensures.values.2 r.tally r.stage r.lease (⊎_elim inl (λ p. inr (subst (λ n. n ≤ c.has_others.new.pass.seat.me.0.tally) c.requires.at.many p)) (h.no refl)) h.at.about
    (sym h.same.0.about) (sym h.same.1) c.take-place.ensures.value in
    leaves_of g.T.Subject.follows c.args.self.board.shared.key c.args.pass.seat.me.0 c.take-place.result c.in-Home.value c.in-Home.field-1 t c.in-Home.is

pub take-place-requires : goal.take-place-requires
take-place-requires g c = let e = c.close_with-closed.ensures in (omega (arith, e.counts.1, c.requires.at.sized.1), e.values.1 0 (omega arith) (omega (arith, e.counts.1, c.requires.at.sized.1)))
