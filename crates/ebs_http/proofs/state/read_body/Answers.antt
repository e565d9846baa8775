use Rattle.std.proofs.Common.{◌≤◌, length, drop, refl, arith, length-drop}
use Rattle.std.proofs.lemmas.List.{take_rest}
use Rattle.ebs_http.proofs.ReceivedLemmas.{received_within, received_takes, received_short}
use Rattle.ebs_http.proofs.StateLemmas.{received_more, received_message}
use Rattle.ebs_http.proofs.state.read_body.Goals as goal

pub returns-then-rest-received : goal.returns-then-rest-received
returns-then-rest-received c =
    let more = received_more c.args.bytes.now c.args.received c.requires (rw take_rest at c.if-rest-received.true) in
    rw c.stay.ensures (record { within = omega arith; state = c.requires; gives = (refl, refl, more.0, more.1); for_ever = λ k e. cc; wanted = λ e. cc; short = λ e. received_short c.args.bytes.now c.args.received c.requires (rw take_rest at c.if-rest-received.true) })

pub returns-in-Ok : goal.returns-in-Ok
returns-in-Ok c =
    let long : c.args.received.body_len ≤ length (drop c.args.received.head_len c.args.bytes.now) = rw take_rest at c.if-rest-received.false in
    let within = received_within c.args.bytes.now c.args.received c.requires in
    record {
      within = omega (arith, long, within, length-drop c.args.received.head_len c.args.bytes.now);
      state = tt;
      gives = (refl, refl, received_message c.args.bytes.now c.in-Ok.body c.args.received c.requires long (rw take_rest at c.in-Ok.ensures));
      for_ever = λ k e. cc;
      wanted = λ e. cc;
      short = λ e. cc;
    }

pub returns-in-Err : goal.returns-in-Err
returns-in-Err c =
    rw c.stay-in-Err.ensures (record {
      within = omega arith;
      state = c.requires;
      gives = (refl, refl);
      for_ever = λ k e. cc;
      wanted = λ e. received_takes c.args.bytes.now c.args.received c.requires;
      short = λ e. cc;
    })
