-- Blocks with their bytes, and whole arrays of them.
use Rattle.std.specs.Prelude.{ℕ, List, [], Option, None, Some, flat_map}
use Rattle.std.specs.Ordering.{nat_cmp}
use Rattle.std.specs.FinMap as map
use Rattle.sha2.specs.Sha256.{sha256}

-- the number of the accepted write that made it, and its bytes
pub record WholeBlock : Type 0 where
  pub stamp : ℕ
  pub bytes : List ℕ

-- blocks by index
abbrev pub WholeArray : Type 0
WholeArray = map.FinMap nat_cmp WholeBlock

-- how a digest is found of what a block holds: its SHA-256 (FIPS 180-4), or the digest itself where a block holds that
-- in the place of its bytes
abbrev pub Hash : Type 0
Hash = List ℕ → List ℕ

-- a block's digest, and nothing where there is no block
abbrev pub digest_of : Hash → Option WholeBlock → List ℕ
digest_of hash None = []
digest_of hash (Some block) = hash block.bytes

-- the LINEAR checksum of the blocks at these indexes: the SHA-256 of their digests, joined in this order
-- (EBS direct APIs reference, CompleteSnapshot)
abbrev pub linear : Hash → WholeArray → List ℕ → List ℕ
linear hash array indexes = sha256 (flat_map (λ index. digest_of hash (map.get array index)) indexes)
