use Rattle.std.proofs.Common.{◌≡◌, ℕ, List, ◌++◌}
use Rattle.std.specs.Prelude.{flat_map}
use Rattle.std.specs.Map.{keys_of}
use Rattle.std.specs.FinMap as map
use Rattle.ebs_tables.specs.Full.{full}
use Rattle.sha2.specs.Hashers.{Holds256}
use Rattle.ebs_model.specs.inner.Digests.{kept_digest}
use Rattle.ebs_model.proofs.array.linear_checksum.Given as goal

-- what was fed, with what is still to come, is all
abbrev pub invariant-loop-index : goal.invariant-loop-index
invariant-loop-index l = (fed : List ℕ) × Holds256 l.hasher fed
    × (fed ++ flat_map (λ index. kept_digest (map.get (full l.array) index)) (keys_of l.index-iterator)
    ≡ flat_map (λ index. kept_digest (map.get (full l.array) index)) (keys_of l.initial.index-iterator))
