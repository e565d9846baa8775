use Rattle.ebs_lineage.proofs.Counting.{kept-entries, taken-entries, put-entries}
use Rattle.ebs_lineage.proofs.laws.entries_count.Goals as goal

pub returns-clause-kept : goal.returns-clause-kept
returns-clause-kept c = kept-entries

pub returns-clause-taken : goal.returns-clause-taken
returns-clause-taken c = taken-entries

pub returns-clause-put : goal.returns-clause-put
returns-clause-put c = put-entries
