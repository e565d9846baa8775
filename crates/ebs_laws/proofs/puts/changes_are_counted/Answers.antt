use Rattle.ebs_laws.proofs.Counts.{stamps_rise, changes_rise}
use Rattle.ebs_laws.proofs.puts.changes_are_counted.Goals as goal

pub returns-clause-stamps : goal.returns-clause-stamps
returns-clause-stamps c = stamps_rise

pub returns-clause-changes : goal.returns-clause-changes
returns-clause-changes c = changes_rise
