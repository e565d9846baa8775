use Rattle.std.proofs.Common.{◌≡◌, ◌+◌, ℕ, cond, ltb}
use Rattle.ebs_world.specs.inner.Held.{byte_at, end_of, over}
use Rattle.ebs_world.proofs.areas.AreaBytes.put.Given as goal

abbrev pub invariant-loop-j : goal.invariant-loop-j
invariant-loop-j l = record {
  bytes : (i : ℕ) → byte_at l.self i ≡ cond (ltb i (l.at + l.j)) (over l.at l.piece (byte_at l.fn.self) i) (byte_at l.fn.self i);
  end : end_of l.self ≡ end_of l.fn.self;
}
