use Rattle.std.proofs.Common.{refl, sym, subst, ◌∙◌}
use Rattle.ebs_holds.specs.Holds.{nodes_in}
use Rattle.ebs_holds.specs.Counted.{KeepsBlocks, put_place, replaced_in}
use Rattle.ebs_kept.specs.inner.Shown.{Form}
use Rattle.ebs_kept.proofs.Counted.{counted_behind}
use Rattle.ebs_kept.proofs.kept.Kept.commit.Goals as goal
use Rattle.ebs_kept.proofs.kept.Kept.commit.Goals.{in-Some, in_default}

pub returns-clause-counted : goal.returns-clause-counted
returns-clause-counted c =
    let old = nodes_in c.args.self.now.holding in
    let made = nodes_in c.make-ended.new.self.holding in
    let dropped = nodes_in c.match-deleted.self.holding in
    let ended = nodes_in c.drop_ended.new.self.holding in
    let first : KeepsBlocks made dropped = elim c.match-deleted.branch [
      | in-Some w ↦ subst (λ (f : Form). KeepsBlocks made (nodes_in f.holding)) (sym w.self-is) w.drop_hidden.ensures.blocks
      | in_default w ↦ subst (λ (f : Form). KeepsBlocks made (nodes_in f.holding)) (sym w.self-is) (λ n. refl)
    ] in
    counted_behind c.blocks_stay.ensures.counted old made ended (put_place c.args.change.request) c.args.self.now.machine.stamps (replaced_in c.args.self.now.holding c.args.change.request) c.make-ended.ensures.counted
    (λ n. c.drop_ended.ensures.blocks n ∙ first n)
