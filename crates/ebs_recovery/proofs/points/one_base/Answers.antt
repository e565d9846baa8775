use Rattle.std.proofs.Common.{refl}
use Rattle.ebs_recovery.proofs.First.{first_base}
use Rattle.ebs_recovery.proofs.Said as lemma
use Rattle.ebs_recovery.proofs.points.one_base.Goals as goal

pub returns-clause-one : goal.returns-clause-one
returns-clause-one c = lemma.one_base

pub returns-clause-first : goal.returns-clause-first
returns-clause-first c = first_base

pub returns-clause-said : goal.returns-clause-said
returns-clause-said c = lemma.state_said

pub returns-clause-alone : goal.returns-clause-alone
returns-clause-alone c = lemma.one_said

pub returns-clause-kept : goal.returns-clause-kept
returns-clause-kept c point base is x = lemma.base_kept point _ base is refl x
