use Rattle.std.proofs.Common.{ℕ, List, ◌<◌, ◌≤◌, ◌+◌, ◌^◌, length}
use Rattle.std.specs.Io.KnownBytes.{Consumes}
use Rattle.sha2.specs.Hashers.{Holds256}
use Rattle.hash_bench.proofs.digest.digest_of.Given as goal

abbrev pub invariant-loop-reads : goal.invariant-loop-reads
invariant-loop-reads g l = record {
  room : 0 < length l.room;
  fed : List ℕ;
  holds : Holds256 l.hasher fed;
  taken : Consumes (g.I.Source.inlet l.initial.input).left (g.I.Source.inlet l.input).left fed;
  counted : 2 ^ 24 ≤ length fed + l.reads;
  later : (g.I.Source.inlet l.initial.input).faults ≤ (g.I.Source.inlet l.input).faults;
}

abbrev pub decreases-loop-reads : goal.decreases-loop-reads
decreases-loop-reads g l = l.reads
