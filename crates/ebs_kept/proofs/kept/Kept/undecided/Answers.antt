use Rattle.std.proofs.Common.{true, false, sym, ◌∙◌}
use Rattle.ebs_model.specs.Machine.{advance}
use Rattle.ebs_kept.proofs.Wants.{wants-by}
use Rattle.ebs_kept.proofs.kept.Kept.undecided.Goals as goal

pub returns-then-is_copied_change : goal.returns-then-is_copied_change
returns-then-is_copied_change c =
    wants-by (advance c.args.self.now.machine c.args.now) c.args.account c.args.request.now c.requires.bare c.requires.sized c.requires.wants true true (sym c.is_spent.ensures.test ∙ c.if-not-is_spent.false) (sym c.is_copied_change.ensures ∙ c.if-is_copied_change.true)

pub returns-else-is_copied_change : goal.returns-else-is_copied_change
returns-else-is_copied_change c =
    wants-by (advance c.args.self.now.machine c.args.now) c.args.account c.args.request.now c.requires.bare c.requires.sized c.requires.wants true false (sym c.is_spent.ensures.test ∙ c.if-not-is_spent.false) (sym c.is_copied_change.ensures ∙ c.if-is_copied_change.false)
