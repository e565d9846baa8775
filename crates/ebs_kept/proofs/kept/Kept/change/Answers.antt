use Rattle.std.proofs.Common.{ap, ◌∙◌}
use Rattle.ebs_model.specs.Machine.{Machine, advance}
use Rattle.ebs_model.specs.Step.{changed}
use Rattle.ebs_kept.proofs.Counted.{made_counted, idle_counted}
use Rattle.ebs_kept.proofs.kept.Kept.change.Goals as goal

pub returns-in-Ok-clause-ok : goal.returns-in-Ok-clause-ok
returns-in-Ok-clause-ok c bytes brings = c.commit.ensures.changed bytes brings ∙ ap (λ m. changed (advance m c.args.now) bytes c.args.change) c.reserve.ensures.machine

pub returns-in-Ok-clause-counted : goal.returns-in-Ok-clause-counted
returns-in-Ok-clause-counted c =
    made_counted c.blocks_stay.ensures.counted c.args.self.now c.reserve.new.self c.commit.new.self c.args.now c.args.change c.args.digest c.reserve.ensures.machine c.reserve.ensures.blocks c.reserve.ensures.replaced
    c.commit.ensures.changed c.commit.ensures.counted

pub returns-in-Err-clause-counted : goal.returns-in-Err-clause-counted
returns-in-Err-clause-counted c = idle_counted c.args.self.now c.reserve.new.self c.args.change.request (ap (λ (m : Machine). m.changes) c.reserve.ensures.machine) c.reserve.ensures.blocks
