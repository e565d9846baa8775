use Rattle.ebs_journal.proofs.Aside.{aside_on}
use Rattle.ebs_journal.proofs.Others.{journal_kept, staged_kept, turned_kept}
use Rattle.ebs_journal.proofs.laws.others_keep.Goals as goal

pub returns-clause-journal : goal.returns-clause-journal
returns-clause-journal c before after area epoch checkpoint rs kept is = journal_kept before after kept area epoch checkpoint rs is

pub returns-clause-staged : goal.returns-clause-staged
returns-clause-staged c before after area epoch checkpoint rs r kept is = staged_kept before after kept area epoch checkpoint rs r is

pub returns-clause-turned : goal.returns-clause-turned
returns-clause-turned c before after area epoch checkpoint rs next kept is = turned_kept before after kept area epoch checkpoint rs next is

pub returns-clause-aside : goal.returns-clause-aside
returns-clause-aside c before after area shut kept is = aside_on before after area kept shut is
