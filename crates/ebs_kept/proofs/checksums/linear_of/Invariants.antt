use Rattle.std.proofs.Common.{◌≡◌, ℕ, List, ◌++◌}
use Rattle.std.specs.Prelude.{flat_map}
use Rattle.std.specs.Map.{keys_of}
use Rattle.std.specs.FinMap as map
use Rattle.sha2.specs.Hashers.{Holds256}
use Rattle.ebs_model.specs.inner.Digests.{kept_digest}
use Rattle.ebs_lineage.specs.Lines.{array}
use Rattle.ebs_kept.proofs.checksums.linear_of.Given as goal

-- what was fed, with what is still to come, is all
abbrev pub invariant-loop-index : goal.invariant-loop-index
invariant-loop-index l = (fed : List ℕ) × Holds256 l.hasher fed
    × (fed ++ flat_map (λ index. kept_digest (map.get (array l.lineage.table.nodes l.node.number) index)) (keys_of l.index-iterator)
    ≡ flat_map (λ index. kept_digest (map.get (array l.lineage.table.nodes l.node.number) index)) (keys_of l.initial.index-iterator))
