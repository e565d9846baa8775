use Rattle.ebs_session.proofs.Told as proved
use Rattle.ebs_session.proofs.laws.statuses.Goals as goal

pub returns-clause-four : goal.returns-clause-four
returns-clause-four c = proved.four

pub returns-clause-five : goal.returns-clause-five
returns-clause-five c = proved.five

pub returns-clause-eight : goal.returns-clause-eight
returns-clause-eight c = proved.eight

pub returns-clause-source_fault : goal.returns-clause-source_fault
returns-clause-source_fault c = proved.at_four

pub returns-clause-sink_fault : goal.returns-clause-sink_fault
returns-clause-sink_fault c = proved.at_five

pub returns-clause-no_fault : goal.returns-clause-no_fault
returns-clause-no_fault c = proved.at_eight

pub returns-clause-source_rose : goal.returns-clause-source_rose
returns-clause-source_rose c = proved.source_rose

pub returns-clause-sink_rose : goal.returns-clause-sink_rose
returns-clause-sink_rose c = proved.sink_rose

pub returns-clause-whole : goal.returns-clause-whole
returns-clause-whole c = proved.whole
