use Rattle.std.proofs.Common.{◌+◌}
use Rattle.ebs_holds.specs.Holds.{nodes_in}
use Rattle.ebs_holds.proofs.Backed.{blocks_both}
use Rattle.ebs_holds.proofs.holdings.Holdings.begin.Goals as goal

pub begin_empty-requires-clause-room : goal.begin_empty-requires-clause-room
begin_empty-requires-clause-room c = c.give_up.ensures.room 1 c.requires.room

pub begin_from-requires-clause-room : goal.begin_from-requires-clause-room
begin_from-requires-clause-room c = c.give_up-then-not-is_same.ensures.room 1 c.requires.room

pub returns-in-None-clause-room : goal.returns-in-None-clause-room
returns-in-None-clause-room c = λ count room. c.begin_empty.ensures.room count (c.give_up.ensures.room (count + 1) room)

pub returns-then-not-is_same-clause-room : goal.returns-then-not-is_same-clause-room
returns-then-not-is_same-clause-room c = λ count room. c.begin_from.ensures.room count (c.give_up-then-not-is_same.ensures.room (count + 1) room)

pub returns-in-None-clause-blocks : goal.returns-in-None-clause-blocks
returns-in-None-clause-blocks c = blocks_both (nodes_in c.args.self.now) (nodes_in c.give_up.new.self) (nodes_in c.begin_empty.new.self) c.give_up.ensures.blocks c.begin_empty.ensures.blocks

pub returns-then-not-is_same-clause-blocks : goal.returns-then-not-is_same-clause-blocks
returns-then-not-is_same-clause-blocks c =
    blocks_both (nodes_in c.args.self.now) (nodes_in c.give_up-then-not-is_same.new.self) (nodes_in c.begin_from.new.self) c.give_up-then-not-is_same.ensures.blocks c.begin_from.ensures.blocks
