-- Keys of two parts.
use Rattle.std.proofs.Common.{◌≡◌, Less, Equal, Greater, Ordering, refl}
use Rattle.std.specs.Ordering.{ordering_then}

-- two keys compare alike where both parts do
pub both_alike : (first second : Ordering) → ordering_then first second ≡ Equal → (first ≡ Equal) × (second ≡ Equal)
both_alike Less second e = cc
both_alike Equal second e = (refl, e)
both_alike Greater second e = cc
