use Rattle.std.proofs.Common.{rules, refl, ◌-◌, length, take, drop}
use Rattle.std.specs.Prelude.{nat_lt, nat_le}
use Rattle.std.proofs.lemmas.Fn.{always_returns_same}
use Rattle.std.proofs.lemmas.List.Sorted.{IsPartitionedBy-ltb, IsPartitionedBy-leb, IsNonDecreasingBy-drop, IsNonDecreasingBy-take}
use Rattle.ebs_row_rules.proofs.Groups.{owners_rise, side_by_side}
use Rattle.ebs_row_rules.proofs.counts.rows_of.Goals as goal

pub returns : goal.returns
returns g c =
    let rest = take (length c.args.rows.now - c.partition_point-start.result) (drop c.partition_point-start.result c.args.rows.now) in
    let rise = owners_rise g.T.Key.Ord.cmp g.T.Keyed.key g.T.Owned.owner g.met.T.Owned.grouped c.args.rows.now c.requires in
    side_by_side g.T.Owned.owner c.args.account c.args.rows.now rest c.partition_point-start.result c.partition_point-count.result c.partition_point-start.ensures.bound c.partition_point-count.ensures.bound refl
    (c.partition_point-start.ensures.partitioned (λ y. nat_lt (g.T.Owned.owner y) c.args.account) (always_returns_same _ _ _ (λ a r f called. search (rules, called))) (IsPartitionedBy-ltb g.T.Owned.owner c.args.rows.now c.args.account rise))
    (c.partition_point-count.ensures.partitioned (λ y. nat_le (g.T.Owned.owner y) c.args.account) (always_returns_same _ _ _ (λ a r f called. search (rules, called))) (IsPartitionedBy-leb g.T.Owned.owner rest c.args.account (IsNonDecreasingBy-take g.T.Owned.owner (length c.args.rows.now - c.partition_point-start.result) (drop c.partition_point-start.result c.args.rows.now) (IsNonDecreasingBy-drop g.T.Owned.owner c.partition_point-start.result c.args.rows.now rise))))
