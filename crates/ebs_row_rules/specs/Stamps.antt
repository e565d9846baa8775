-- Blocks of one stamp have one digest.
use Rattle.std.specs.Prelude.{Bool, not, ◌||◌, ◌==◌, List, nat_eq}
use Rattle.std.specs.List.{list_all}
use Rattle.std.specs.Cmp.Lexicographic.{pointwise}
use Rattle.ebs_model.specs.declared.array.Block.{Block}

abbrev pub are_alike : Block → Block → Bool
are_alike a b = not (a.stamp == b.stamp) || pointwise nat_eq a.digest b.digest

abbrev pub have_one_digest : List Block → Bool
have_one_digest blocks = list_all (λ a. list_all (are_alike a) blocks) blocks
