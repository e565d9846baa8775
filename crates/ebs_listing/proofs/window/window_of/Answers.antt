use Rattle.std.proofs.Common.{refl}
use Rattle.ebs_lineage.specs.Lines.{array}
use Rattle.ebs_listing.proofs.Windowed.{window-none}
use Rattle.ebs_listing.proofs.window.window_of.Goals as goal

pub returns-in-None : goal.returns-in-None
returns-in-None c = window-none (array c.args.lineage.now.table.nodes c.args.node.number) c.args.start (record { blocks = c.new.result; end = 0 }) c.new.ensures refl
