use Rattle.ebs_http.proofs.MessageLemmas.{bad_never, bad_none, stands_append}
use Rattle.ebs_http.proofs.laws.bad_stays.Goals as goal

pub returns-clause-never : goal.returns-clause-never
returns-clause-never c = bad_never

pub returns-clause-none : goal.returns-clause-none
returns-clause-none c = bad_none

pub returns-clause-stays : goal.returns-clause-stays
returns-clause-stays c = stands_append
