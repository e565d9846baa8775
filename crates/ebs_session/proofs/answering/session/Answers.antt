use Rattle.ebs_session.proofs.Completes.{completed}
use Rattle.ebs_session.proofs.answering.session.Goals as goal

pub returns-clause-complete : goal.returns-clause-complete
returns-clause-complete g c = λ text messages told whole few no_input no_output.
    completed c.one_split.ensures c.framing.ensures.bad _ _ _ _ _ _ _ _ _ c.answer_pieces.ensures.session text messages told whole few
    (λ e. no_input (c.answer_pieces.ensures.input e)) (λ e. no_output (c.answer_pieces.ensures.output e))
