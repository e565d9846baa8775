-- How the holdings stand.
use Rattle.ebs_tables.specs.Full.{held, slots_of}
use Rattle.ebs_lineage.specs.Lines.{Lines}
use Rattle.ebs_collect.specs.Backlogs.{Queue, IsLinked, Covers}
use Rattle.ebs_holds.specs.declared.holdings.Holdings.TheInside.{Inside}
use Rattle.ebs_holds.specs.Holders.{holder_cmp}
use Rattle.ebs_holds.specs.Holds.{HeldBy, Holding, AreHeld}

abbrev pub holding_shown : Inside → Holding
holding_shown h = record { lines = h.lineage; slots = slots_of holder_cmp h.nodes; queue = h.backlog }

-- holders have their nodes, and a block that none of these finds waits
pub record AreBacked (q : Queue) (l : Lines) (nodes : HeldBy) : Type 0 where
  pub holders : AreHeld l.table.nodes l.made nodes
  pub linked : IsLinked q l
  pub covers : Covers l

abbrev pub IsSound : Inside → Type 0
IsSound h = AreBacked h.backlog h.lineage (held holder_cmp h.nodes)
