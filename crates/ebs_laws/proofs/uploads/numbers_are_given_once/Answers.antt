use Rattle.ebs_laws.proofs.Given.{numbers-empty, numbers-step, numbers-run, number-free}
use Rattle.ebs_laws.proofs.uploads.numbers_are_given_once.Goals as goal

pub returns-clause-start : goal.returns-clause-start
returns-clause-start c = numbers-empty

pub returns-clause-each_call : goal.returns-clause-each_call
returns-clause-each_call c = numbers-step

pub returns-clause-run : goal.returns-clause-run
returns-clause-run c = numbers-run

pub returns-clause-free : goal.returns-clause-free
returns-clause-free c = number-free
