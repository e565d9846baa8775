use Rattle.std.proofs.Common.{ap, ◌∙◌}
use Rattle.ebs_tables.specs.Full.{full}
use Rattle.ebs_tables.proofs.FullLaws.{full-empty}
use Rattle.ebs_tables.proofs.slots.Slots.new.Goals as goal

pub returns-clause-held : goal.returns-clause-held
returns-clause-held g c = ap full c.new.ensures ∙ full-empty g.met.K.Ord.total g.met.K.Key.exact
