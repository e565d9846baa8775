use Rattle.ebs_laws.proofs.RuleAsked.{create-asked, update-asked, delete-asked, lock-asked, unlock-asked}
use Rattle.ebs_laws.proofs.rules.rule_is_as_asked.Goals as goal

pub returns-clause-created : goal.returns-clause-created
returns-clause-created c = create-asked

pub returns-clause-updated : goal.returns-clause-updated
returns-clause-updated c = update-asked

pub returns-clause-deleted : goal.returns-clause-deleted
returns-clause-deleted c = delete-asked

pub returns-clause-locked : goal.returns-clause-locked
returns-clause-locked c = lock-asked

pub returns-clause-unlocked : goal.returns-clause-unlocked
returns-clause-unlocked c = unlock-asked
