use Rattle.ebs_laws.proofs.BinHidden.{binned-not-found, binned-not-compared, binned-listed, from-bin}
use Rattle.ebs_laws.proofs.OwnRows.{lists-apart}
use Rattle.ebs_laws.proofs.bin.binned_is_hidden.Goals as goal

pub returns-clause-named : goal.returns-clause-named
returns-clause-named c = binned-not-found

pub returns-clause-compared : goal.returns-clause-compared
returns-clause-compared c = binned-not-compared

pub returns-clause-listed : goal.returns-clause-listed
returns-clause-listed c = binned-listed

pub returns-clause-apart : goal.returns-clause-apart
returns-clause-apart c = lists-apart

pub returns-clause-restore : goal.returns-clause-restore
returns-clause-restore c = from-bin
