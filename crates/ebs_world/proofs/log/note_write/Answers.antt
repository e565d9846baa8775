use Rattle.std.proofs.Common.{◌≡◌, rules}
use Rattle.ebs_world.proofs.log.note_write.Goals as goal

pub returns-clause-ok : goal.returns-clause-ok
returns-clause-ok c =
    let same : c.in_ok-to_vec.field-0.items ≡ c.args.piece.now = search rules in
    record { kept = c.in_ok-to_vec.field-0; piece_is = same; steps = c.in_ok-push.ensures.items }
