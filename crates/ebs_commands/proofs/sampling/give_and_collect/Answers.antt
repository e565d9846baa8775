use Rattle.std.proofs.Common.{◌≡◌, Err, inl, inr, rules}
use Rattle.ebs_commands.proofs.sampling.give_and_collect.Goals as goal

pub returns-in_err-accepted : goal.returns-in_err-accepted
returns-in_err-accepted g c =
    let is : c.from_residual.result ≡ Err c.in_err-accepted.field-0.0 = search rules in
    rw is record { gives = inl (record { last = c.give_each.new.store; gives = c.in_err-accepted.ensures.gives; fits = c.give_each.ensures.fits }) }

pub returns-in-Ok : goal.returns-in-Ok
returns-in-Ok g c = record {
  gives = record {
    went = record { given = c.give_each.new.disk; last = c.give_each.new.store; behind = c.collect_store.new.store; gives = c.in_ok-accepted.ensures.gives; fits = c.give_each.ensures.fits; collects = c.collect_store.ensures.collects };
    ended = c.in-Ok.ensures.end;
    usage = c.usage.ensures;
  };
}

pub returns : goal.returns
returns g c = record {
  gives = inr (record {
    accepted = c.in_ok-accepted.accepted;
    went = record { given = c.give_each.new.disk; last = c.give_each.new.store; behind = c.collect_store.new.store; gives = c.in_ok-accepted.ensures.gives; fits = c.give_each.ensures.fits; collects = c.collect_store.ensures.collects };
    why = c.in-Err.ensures.end;
  });
}
