use Rattle.ebs_print.proofs.Splits.{answers_split, lists_split, some_text}
use Rattle.ebs_print.proofs.laws.answers_split.Goals as goal

pub returns-clause-one : goal.returns-clause-one
returns-clause-one c = answers_split

pub returns-clause-lists : goal.returns-clause-lists
returns-clause-lists c = lists_split

pub returns-clause-some : goal.returns-clause-some
returns-clause-some c = some_text
