use Rattle.ebs_collect.proofs.Covering.{making, sealing, freezing, reopening, keeping_room, nothing_covered}
use Rattle.ebs_collect.proofs.laws.others_cover.Goals as goal

pub returns-clause-none : goal.returns-clause-none
returns-clause-none c = nothing_covered

pub returns-clause-made : goal.returns-clause-made
returns-clause-made c = making

pub returns-clause-sealed : goal.returns-clause-sealed
returns-clause-sealed c = sealing

pub returns-clause-frozen : goal.returns-clause-frozen
returns-clause-frozen c = freezing

pub returns-clause-room : goal.returns-clause-room
returns-clause-room c = keeping_room

pub returns-clause-reopened : goal.returns-clause-reopened
returns-clause-reopened c = reopening
