use Rattle.std.proofs.Common.{ap, subst}
use Rattle.std.proofs.lemmas.Result.{on_ok_weaker}
use Rattle.std.specs.FinMap as map
use Rattle.ebs_holds.specs.Holds.{Slots, HasNodes}
use Rattle.ebs_holds.proofs.Ready.{still_ready}
use Rattle.ebs_holds.proofs.changes.reserve_run.Goals as goal

pub returns-clause-room : goal.returns-clause-room
returns-clause-room c = on_ok_weaker c.reserve_nodes.result (λ room. record {
  ready = still_ready c.prepare_all.new.holdings c.reserve_nodes.new.self (λ q. ap (λ (s : Slots). map.contains_key s q) c.reserve_nodes.ensures.slots) c.args.made.now c.in_ok-prepare_all.ensures.ready;
  room = subst (HasNodes c.reserve_nodes.new.self) c.in-Ok.ensures.1 room;
}) c.reserve_nodes.ensures.room
