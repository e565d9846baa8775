use Rattle.ebs_journal.proofs.Unique.{refused_freely}
use Rattle.ebs_journal.proofs.laws.none_refused.Goals as goal

pub returns : goal.returns
returns c i a d p rs refusal is why = refused_freely i a d p rs is refusal why
