use Rattle.std.proofs.Common.{ℕ, ap, ◌∙◌}
use Rattle.std.specs.Ordering.{nat_cmp}
use Rattle.ebs_tables.specs.Full.{full}
use Rattle.ebs_row_rules.specs.Order.{ascends}
use Rattle.ebs_pointed.specs.Snapshots.{put_set}
use Rattle.ebs_pointed.proofs.Keys.{keys-ascend, keys-set}
use Rattle.ebs_pointed.proofs.puts.indexes_of.Goals as goal

pub returns-clause-set : goal.returns-clause-set
returns-clause-set c = ap put_set c.in_ok-indexes.ensures ∙ keys-set (full c.args.put.now)

pub returns-clause-ascend : goal.returns-clause-ascend
returns-clause-ascend c = ap (ascends {X = ℕ} nat_cmp (λ n. n)) c.in_ok-indexes.ensures ∙ keys-ascend nat_cmp (full c.args.put.now)
