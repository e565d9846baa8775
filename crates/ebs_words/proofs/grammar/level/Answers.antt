use Rattle.std.proofs.Common.{rules}
use Rattle.ebs_words.proofs.grammar.level.Goals as goal

pub returns : goal.returns
returns c = search rules
