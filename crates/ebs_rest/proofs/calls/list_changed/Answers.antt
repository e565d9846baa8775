use Rattle.std.proofs.Common.{codes}
use Rattle.ebs_members.proofs.Queries.{there_given, wants_less}
use Rattle.ebs_rest.proofs.calls.list_changed.Goals as goal

pub returns-clause-memory : goal.returns-clause-memory
returns-clause-memory c =
    let pages = rw (c.as_slice.ensures.value, c.in_ok-pairs.ensures.value) at c.changed_of.ensures.memory in
    wants_less _ pages (λ there. there_given (codes "pageToken") c.args.query.now there)
