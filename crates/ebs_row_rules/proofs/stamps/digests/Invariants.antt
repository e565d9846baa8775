use Rattle.std.proofs.Common.{ℕ, take}
use Rattle.std.specs.FinMap as maps
use Rattle.ebs_row_rules.specs.inner.Stamps as kept
use Rattle.ebs_row_rules.proofs.stamps.digests.Given as goal

abbrev pub invariant-loop-block : goal.invariant-loop-block
invariant-loop-block l = (n : ℕ) → kept.IsDigestOf (take l.block-index l.blocks) n (maps.get l.found n)
