use Rattle.ebs_rest.proofs.routes.Routes.call_at.Goals as goal

pub returns-in-Some-clause-memory : goal.returns-in-Some-clause-memory
returns-in-Some-clause-memory c = rw (← c.in-Some.ensures.route) c.call_from.ensures.memory
