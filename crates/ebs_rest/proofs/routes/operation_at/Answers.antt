use Rattle.ebs_rest.proofs.routes.operation_at.Goals as goal

pub returns-clause-value : goal.returns-clause-value
returns-clause-value c = rw (c.call_at.ensures, c.as_slice.ensures) at c.known.ensures.value
