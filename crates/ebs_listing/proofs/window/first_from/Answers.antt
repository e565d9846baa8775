use Rattle.std.proofs.Common.{sym, ◌∙◌}
use Rattle.ebs_listing.proofs.Windowed.{least-some, least-none}
use Rattle.ebs_listing.proofs.window.first_from.Goals as goal

pub returns-in-Some : goal.returns-in-Some
returns-in-Some c = least-some c.args.blocks.now c.args.index (c.in-Some.at.now, c.in-Some.block.now) _ (sym c.from.ensures.values ∙ c.in-Some.ensures.steps)

pub returns-in-None : goal.returns-in-None
returns-in-None c = least-none c.args.blocks.now c.args.index (sym c.from.ensures.values ∙ c.in-None.ensures.steps.0)
