use Rattle.ebs_http.proofs.StateLemmas.{next_gives, next_wants, next_short}
use Rattle.ebs_http.proofs.framer.Framer.next.Goals as goal

pub returns-clause-gives : goal.returns-clause-gives
returns-clause-gives c =
    let moved = c.advance-next in
    next_gives c.self.inside.buffer.items c.deref.result.now c.self.inside.start moved.result.taken c.self.inside.state
    c.replace-state.result moved.result.state c.args.self.now moved.result.step c.deref.ensures.value
    c.replace-state.ensures.value c.self.view_is moved.ensures.gives

pub returns-clause-wanted : goal.returns-clause-wanted
returns-clause-wanted c = λ memory.
    next_wants c.self.inside.buffer.items c.deref.result.now c.self.inside.start c.self.inside.state c.args.self.now c.deref.ensures.value c.self.view_is
    (c.advance-next.ensures.wanted memory)

pub returns-clause-short : goal.returns-clause-short
returns-clause-short c = λ more.
    next_short c.self.inside.buffer.items c.deref.result.now c.self.inside.start c.advance-next.result.taken c.deref.ensures.value (c.advance-next.ensures.short more)
