use Rattle.std.proofs.Common.{◌≡◌, ◌+◌, ◌<◌, ◌^◌}
use Rattle.ebs_archive.specs.Keys.{IsFrom}
use Rattle.ebs_archive.proofs.Counts.{count}
use Rattle.ebs_archive.proofs.copies.count_of.Given as goal

-- the copies so far, with the snapshot's that are still to come, are all
abbrev pub invariant-loop-copy_key : goal.invariant-loop-copy_key
invariant-loop-copy_key l =
    (l.count + count l.key l.copy_key-iterator ≡ count l.key l.initial.copy_key-iterator)
    × (count l.key l.initial.copy_key-iterator < 2 ^ 63)
    × IsFrom l.key l.copy_key-iterator
