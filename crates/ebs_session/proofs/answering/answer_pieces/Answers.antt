use Rattle.std.proofs.Common.{◌≡◌, Err, length, take, arith, ap, ◌∙◌, refl, length-take}
use Rattle.ebs_http.specs.inner.Waiting.{Waiting}
use Rattle.ebs_session.proofs.Endings.{begun, not_begun, fed, fed_from, at_done, at_cut, at_failed, at_limit, at_full, gone_on, at_stop, waits_within, none_left, none_waits, some_wait}
use Rattle.ebs_session.proofs.Counts.{rose_since, ok_is_no_err, same_end, piece_is_no_failure, end_is_no_failure, full_is_no_failure}
use Rattle.ebs_session.proofs.answering.answer_pieces.Goals as goal

pub returns-in_default-clause-session : goal.returns-in_default-clause-session
returns-in_default-clause-session g c = not_begun g.R.Responder.replies c.answers_fall.ensures _ _ _ c.args.responder.now c.args.world.now

pub piece-init : goal.piece-init
piece-init g c =
    let empty = ap (λ (w : Waiting). w.bytes) c.new-framer.ensures in
    record {
      ready = c.requires.ready;
      progress = rw empty (begun g.R.Responder.replies _ _ _ c.args.responder.now c.args.world.now);
      served = none_waits c.framing.ensures.shrinks c.new-framer.result.bytes (ap length empty);
      room = (let n = c.in-Ok.ensures.len in omega arith);
      input = refl;
      output = refl;
    }

pub returns-in-End-clause-session : goal.returns-in-End-clause-session
returns-in-End-clause-session g c =
    at_done c.answers_fall.ensures c.piece.invariant.progress c.piece.invariant.served c.in-End.ensures.took.0 c.in-End.ensures.took.1
    (let n = c.rest.ensures in let z = c.if-rest-eq0.true in none_left c.piece.framer.bytes (omega arith))

pub returns-in-End-2-clause-session : goal.returns-in-End-2-clause-session
returns-in-End-2-clause-session g c =
    at_cut c.rest-in-End-2.result c.answers_fall.ensures c.piece.invariant.progress c.piece.invariant.served c.in-End-2.ensures.took.0 c.in-End-2.ensures.took.1
    (λ none. let n = c.rest.ensures in let z = c.if-rest-eq0.false in absurd (omega (arith, ap length none))) c.rest-in-End-2.ensures

pub returns-in-Failed-clause-session : goal.returns-in-Failed-clause-session
returns-in-Failed-clause-session g c = at_failed c.answers_fall.ensures c.piece.invariant.progress c.piece.invariant.served c.in-Failed.ensures.took

pub returns-in-Failed-clause-input : goal.returns-in-Failed-clause-input
returns-in-Failed-clause-input g c = λ _. rose_since _ _ _ c.piece.invariant.input (c.in-Failed.ensures.fault refl)

pub returns-in-Limit-clause-session : goal.returns-in-Limit-clause-session
returns-in-Limit-clause-session g c = at_limit c.answers_fall.ensures c.piece.invariant.progress c.piece.invariant.served c.in-Limit.ensures.took.1 c.in-Limit.ensures.took.0

pub returns-in_default-feed-clause-session : goal.returns-in_default-feed-clause-session
returns-in_default-feed-clause-session g c =
    let took = c.in-Piece.ensures.took in
    at_full c.answers_fall.ensures
    (fed (take c.in-Piece.count c.take_piece.new.room) c.in-Piece.count c.framing.ensures.fed c.piece.invariant.progress took.3
    (omega (arith, took.2, length-take c.in-Piece.count c.take_piece.new.room)) took.1)
    (some_wait c.piece.framer.bytes (take c.in-Piece.count c.take_piece.new.room) (omega (arith, took.0, took.2, length-take c.in-Piece.count c.take_piece.new.room)))

pub answer_waiting-requires-clause-taken : goal.answer_waiting-requires-clause-taken
answer_waiting-requires-clause-taken g c =
    let full : length c.take_piece.new.room ≡ c.piece.room.len = omega (arith, c.take_piece.auto.room, c.as_mut_slice.ensures.len) in
    let progress = fed_from _ c.in-Piece.count _ _ _ _ c.framing.ensures.fed c.piece.invariant.progress c.in-Piece.ensures.took c.deref.ensures.value full
    (ap (λ (w : Waiting). w.bytes) c.in-Ok-feed.ensures.ok) in
    waits_within c.framing.ensures.shrinks progress

pub returns-in-Err-clause-session : goal.returns-in-Err-clause-session
returns-in-Err-clause-session g c =
    let full : length c.take_piece.new.room ≡ c.piece.room.len = omega (arith, c.take_piece.auto.room, c.as_mut_slice.ensures.len) in
    let progress = fed_from _ c.in-Piece.count _ _ _ _ c.framing.ensures.fed c.piece.invariant.progress c.in-Piece.ensures.took c.deref.ensures.value full
    (ap (λ (w : Waiting). w.bytes) c.in-Ok-feed.ensures.ok) in
    at_stop c.answers_fall.ensures c.in-Err.end c.bad_stays.ensures.none progress c.in-Err.ensures.served c.in-Err.ensures.rest

pub piece-preserved : goal.piece-preserved
piece-preserved g c =
    let full : length c.take_piece.new.room ≡ c.piece.room.len = omega (arith, c.take_piece.auto.room, c.as_mut_slice.ensures.len) in
    let progress = fed_from _ c.in-Piece.count _ _ _ _ c.framing.ensures.fed c.piece.invariant.progress c.in-Piece.ensures.took c.deref.ensures.value full
    (ap (λ (w : Waiting). w.bytes) c.in-Ok-feed.ensures.ok) in
    record {
      ready = c.in-Ok-answer_waiting.ensures.ready;
      progress = gone_on progress c.in-Ok-answer_waiting.ensures.served;
      served = c.in-Ok-answer_waiting.ensures.rest;
      room = (let n = c.deref.ensures.len in omega (arith, ap length c.deref.ensures.value, c.as_mut_slice.ensures.len, ap length c.as_mut_slice.ensures.value, c.piece.invariant.room));
      input = c.in-Piece.ensures.quiet (piece_is_no_failure _) ∙ c.piece.invariant.input;
      output = c.in-Ok-answer_waiting.ensures.quiet (ok_is_no_err _ _) ∙ c.piece.invariant.output;
    }

pub returns-in-End-clause-input_quiet : goal.returns-in-End-clause-input_quiet
returns-in-End-clause-input_quiet g c = λ _. c.in-End.ensures.quiet end_is_no_failure ∙ c.piece.invariant.input

pub returns-in-End-2-clause-input_quiet : goal.returns-in-End-2-clause-input_quiet
returns-in-End-2-clause-input_quiet g c = λ _. c.in-End-2.ensures.quiet end_is_no_failure ∙ c.piece.invariant.input

pub returns-in-Limit-clause-input_quiet : goal.returns-in-Limit-clause-input_quiet
returns-in-Limit-clause-input_quiet g c = λ _. c.in-Limit.ensures.quiet full_is_no_failure ∙ c.piece.invariant.input

pub returns-in_default-feed-clause-input_quiet : goal.returns-in_default-feed-clause-input_quiet
returns-in_default-feed-clause-input_quiet g c = λ _. c.in-Piece.ensures.quiet (piece_is_no_failure _) ∙ c.piece.invariant.input

pub returns-in-Err-clause-input_quiet : goal.returns-in-Err-clause-input_quiet
returns-in-Err-clause-input_quiet g c = λ _. c.in-Piece.ensures.quiet (piece_is_no_failure _) ∙ c.piece.invariant.input

pub returns-in-Failed-clause-input_quiet : goal.returns-in-Failed-clause-input_quiet
returns-in-Failed-clause-input_quiet g c = λ other. absurd (other refl)

pub returns-in-End-clause-output_quiet : goal.returns-in-End-clause-output_quiet
returns-in-End-clause-output_quiet g c = λ _. c.piece.invariant.output

pub returns-in-End-2-clause-output_quiet : goal.returns-in-End-2-clause-output_quiet
returns-in-End-2-clause-output_quiet g c = λ _. c.piece.invariant.output

pub returns-in-Failed-clause-output_quiet : goal.returns-in-Failed-clause-output_quiet
returns-in-Failed-clause-output_quiet g c = λ _. c.piece.invariant.output

pub returns-in-Limit-clause-output_quiet : goal.returns-in-Limit-clause-output_quiet
returns-in-Limit-clause-output_quiet g c = λ _. c.piece.invariant.output

pub returns-in_default-feed-clause-output_quiet : goal.returns-in_default-feed-clause-output_quiet
returns-in_default-feed-clause-output_quiet g c = λ _. c.piece.invariant.output

pub returns-in-Err-clause-output : goal.returns-in-Err-clause-output
returns-in-Err-clause-output g c = λ is. rose_since _ _ _ c.piece.invariant.output (c.in-Err.ensures.fault (ap Err is))

pub returns-in-Err-clause-output_quiet : goal.returns-in-Err-clause-output_quiet
returns-in-Err-clause-output_quiet g c = λ other. c.in-Err.ensures.quiet (λ e. other (same_end _ _ e)) ∙ c.piece.invariant.output
