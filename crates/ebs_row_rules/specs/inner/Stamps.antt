-- Beside what is promised: the digests that are kept of the stamps.
use Rattle.std.specs.Prelude.{◌≡◌, ℕ, Bool, false, ◌==◌, List, nat_eq}
use Rattle.std.specs.List.{list_any, Contains}
use Rattle.std.specs.Option.{MatchOption}
use Rattle.std.specs.Ordering.{nat_cmp}
use Rattle.std.specs.FinMap as maps
use Rattle.std.specs.Cmp.Lexicographic.{pointwise}
use Rattle.std.specs.declared.option.Option.{Option}
use Rattle.std.specs.declared.option.Option.TheVariants.{None, Some}
use Rattle.ebs_model.specs.declared.array.Block.{Block}

-- the digest of one of the blocks that have the stamp
pub record HasDigest (blocks : List Block) (stamp : ℕ) (digest : List ℕ) : Type 0 where
  pub block : Block
  pub there : Contains blocks block
  pub stamped : block.stamp ≡ stamp
  pub digested : block.digest ≡ digest

abbrev pub IsDigestOf : List Block → ℕ → Option (List ℕ) → Type 0
IsDigestOf blocks stamp digest = MatchOption digest (list_any (λ (b : Block). b.stamp == stamp) blocks ≡ false) (HasDigest blocks stamp)

abbrev pub is_digest : Option (List ℕ) → List ℕ → Bool
is_digest None digest = false
is_digest (Some found) digest = pointwise nat_eq found digest

-- the block has the digest that is kept of its stamp
abbrev pub has_digest : maps.FinMap nat_cmp (List ℕ) → Block → Bool
has_digest found block = is_digest (maps.get found block.stamp) block.digest
