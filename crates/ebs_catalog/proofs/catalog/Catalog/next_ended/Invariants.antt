use Rattle.std.proofs.Common.{◌≡◌}
use Rattle.std.specs.List.{filter}
use Rattle.std.specs.FinMap as map
use Rattle.ebs_catalog.specs.Held.{rows_in, is_ended}
use Rattle.ebs_catalog.proofs.catalog.Catalog.next_ended.Given as goal

abbrev pub invariant-loop-key : goal.invariant-loop-key
invariant-loop-key l =
    filter (λ e. is_ended l.now.second (map.get (rows_in l.self).snaps e.0)) l.key-iterator
    ≡ filter (λ e. is_ended l.now.second (map.get (rows_in l.self).snaps e.0)) l.initial.key-iterator
