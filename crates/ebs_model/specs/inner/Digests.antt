-- The digests that rows keep of their blocks.
use Rattle.std.specs.Prelude.{ℕ, List, [], Option, None, Some}
use Rattle.ebs_model.specs.declared.array.Block.{Block}

-- nothing where there is no block
abbrev pub kept_digest : Option Block → List ℕ
kept_digest None = []
kept_digest (Some block) = block.digest
