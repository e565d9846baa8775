-- Bytes that are too few for a spelling.
use Rattle.std.proofs.Common.{◌≡◌, ℕ, ◌<◌, List, ◌++◌, length, ap, arith, ◌∙◌}
use Rattle.std.proofs.lemmas.List.{length-append}

pub too_short : (count : ℕ) (bytes spelling rest : List ℕ) → length spelling ≡ count → length bytes < count → bytes ≡ spelling ++ rest → ⊥
too_short count bytes spelling rest is short e = omega (arith, is, short, ap length e ∙ length-append spelling rest)
