use Rattle.std.proofs.Common.{codes}
use Rattle.ebs_members.proofs.Queries.{there_given, wants_less}
use Rattle.ebs_rest.proofs.calls.list_blocks.Goals as goal

pub returns-clause-memory : goal.returns-clause-memory
returns-clause-memory c =
    let pages = rw (c.as_slice.ensures.value, c.in_ok-pairs.ensures.value) at c.page_of.ensures.memory in
    wants_less _ pages (λ there. (rw c.in_ok-key.ensures.value tt, there_given (codes "pageToken") c.args.query.now there))
