use Rattle.std.proofs.Common.{[], ap, ◌++◌, List, ℕ}
use Rattle.ebs_checkpoints.specs.inner.Checkpoints.{apart_checkpoint}
use Rattle.ebs_checkpoints.proofs.laws.one_checkpoint_spelling.Goals as goal

pub returns : goal.returns
returns c v w a b e = (apart_checkpoint v w [] [] a b (ap (λ (bytes : List ℕ). bytes ++ []) e)).0
