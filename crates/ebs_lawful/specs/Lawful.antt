-- What holds of every machine that calls have made.
use Rattle.ebs_model.specs.Machine.{Machine, rows_of}
use Rattle.ebs_lawful.specs.Counts.{HasCounts}
use Rattle.ebs_lawful.specs.Volumes.{AreVolRows}
use Rattle.ebs_lawful.specs.Snapshots.{AreSnapRows}
use Rattle.ebs_lawful.specs.Rules.{AreBooks}
use Rattle.ebs_lawful.specs.Policies.{ArePolicies}
use Rattle.ebs_lawful.specs.Tokens.{AreTokens}
use Rattle.ebs_lawful.specs.Owners.{AreOwn}
use Rattle.ebs_lawful.specs.Quotas.{AreInQuotas}

-- counts, rows and numbers are within their limits and quotas, and accounts have made their rows
pub record IsLawful (m : Machine) : Type 0 where
  pub counts : HasCounts m
  pub snaps : AreSnapRows (rows_of m)
  pub vols : AreVolRows (rows_of m)
  pub books : AreBooks (rows_of m)
  pub policies : ArePolicies (rows_of m)
  pub tokens : AreTokens (rows_of m)
  pub own : AreOwn (rows_of m)
  pub quotas : AreInQuotas (rows_of m) m.clock.second
