use Rattle.ebs_words.proofs.Exact.{none_spelled}
use Rattle.ebs_words.proofs.words.read_words.Goals as goal

pub returns-then-has_end_of_options : goal.returns-then-has_end_of_options
returns-then-has_end_of_options c = none_spelled c.args.words.now c.has_end_of_options.result c.has_end_of_options.ensures c.if-has_end_of_options.true
