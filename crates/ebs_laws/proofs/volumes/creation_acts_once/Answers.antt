use Rattle.ebs_laws.proofs.VolumeTokens.{creation-once, size-made, other-creation-conflicts, start-conflicts, creation-conflicts, creation-keeps, creation-tells}
use Rattle.ebs_laws.proofs.volumes.creation_acts_once.Goals as goal

pub returns-clause-once : goal.returns-clause-once
returns-clause-once c = creation-once

pub returns-clause-size : goal.returns-clause-size
returns-clause-size c = size-made

pub returns-clause-conflict : goal.returns-clause-conflict
returns-clause-conflict c = other-creation-conflicts

pub returns-clause-start : goal.returns-clause-start
returns-clause-start c = start-conflicts

pub returns-clause-creation : goal.returns-clause-creation
returns-clause-creation c = creation-conflicts

pub returns-clause-kept : goal.returns-clause-kept
returns-clause-kept c = creation-keeps

pub returns-clause-again : goal.returns-clause-again
returns-clause-again c = creation-tells
