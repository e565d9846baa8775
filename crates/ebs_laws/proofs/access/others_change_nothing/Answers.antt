use Rattle.ebs_laws.proofs.Seen.{others-stay, accounts-stay}
use Rattle.ebs_laws.proofs.KeptTokens.{others-tokens}
use Rattle.ebs_laws.proofs.VolumeRows.{others-volumes}
use Rattle.ebs_laws.proofs.DiskRows.{others-disks}
use Rattle.ebs_laws.proofs.RulesKept.{others-rules}
use Rattle.ebs_laws.proofs.PoliciesKept.{others-policies}
use Rattle.ebs_laws.proofs.access.others_change_nothing.Goals as goal

pub returns-clause-rows : goal.returns-clause-rows
returns-clause-rows c = others-stay

pub returns-clause-accounts : goal.returns-clause-accounts
returns-clause-accounts c = accounts-stay

pub returns-clause-tokens : goal.returns-clause-tokens
returns-clause-tokens c = others-tokens

pub returns-clause-volumes : goal.returns-clause-volumes
returns-clause-volumes c = others-volumes

pub returns-clause-disks : goal.returns-clause-disks
returns-clause-disks c = others-disks

pub returns-clause-rules : goal.returns-clause-rules
returns-clause-rules c = others-rules

pub returns-clause-policies : goal.returns-clause-policies
returns-clause-policies c = others-policies
