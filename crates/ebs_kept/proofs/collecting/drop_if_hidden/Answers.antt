use Rattle.std.proofs.Common.{sym, ◌∙◌}
use Rattle.ebs_catalog.specs.Held.{rows_in}
use Rattle.ebs_kept.proofs.Ended.{keeps-same, keeps-dropped}
use Rattle.ebs_kept.proofs.collecting.drop_if_hidden.Goals as goal

pub returns-then-not-is_shown : goal.returns-then-not-is_shown
returns-then-not-is_shown c =
    keeps-dropped c.args.now.second (rows_in c.args.catalog.now) c.args.holdings.now c.drop_array.new.self c.args.holder.now (sym c.is_shown.ensures ∙ c.if-not-is_shown.true) c.drop_array.ensures.arrays c.drop_array.ensures.blocks c.drop_array.ensures.grows

pub returns-else-not-is_shown : goal.returns-else-not-is_shown
returns-else-not-is_shown c = keeps-same c.args.now.second (rows_in c.args.catalog.now) c.args.holdings.now
