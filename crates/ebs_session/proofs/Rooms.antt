-- A room that was filled.
use Rattle.std.proofs.Common.{◌≡◌, ℕ, List, ◌++◌, length, take, sym, ap, ◌∙◌}
use lib.Seq.{take-append_seam}

pub same_room : (size : ℕ) (now new old : List ℕ) → now ≡ take size (new ++ old) → length new ≡ size → now ≡ new
same_room size now new old is full = is ∙ ap (λ (n : ℕ). take n (new ++ old)) (sym full) ∙ take-append_seam new old
