use Rattle.ebs_http.proofs.MessageLemmas.{message_shrinks, reads_next, bad_none}
use Rattle.ebs_http.proofs.stream.drain.Goals as goal

pub loop-message-smaller : goal.loop-message-smaller
loop-message-smaller c = message_shrinks _ _ _ c.in-Message.ensures.gives.2

pub loop-message-preserved : goal.loop-message-preserved
loop-message-preserved c stream reads =
    let next = reads_next stream _ _ c.in-Message.message _ (c.loop-message.invariant stream reads) c.in-Message.ensures.gives.2 in
    rw c.in_ok-push-in-Message.ensures.items next

pub returns-in-Bad-clause-none : goal.returns-in-Bad-clause-none
returns-in-Bad-clause-none c = bad_none c.in-Bad.kind _ c.in-Bad.ensures.gives.2
