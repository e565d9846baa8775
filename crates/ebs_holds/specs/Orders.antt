-- The laws of the order of holders.
use Rattle.std.proofs.Common.{Bool, true, false, ℕ, refl, ap}
use Rattle.std.specs.Ordering.{nat_cmp, bool_cmp}
use Rattle.std.specs.Cmp.{IsTotalOrder, nat_cmp_total, bool_cmp_total}
use Rattle.std.specs.FinMap.{IsAntisymmetric}
use Rattle.std.proofs.lemmas.Map.Lookups.{exact_pairs, exact_unsigned}
use Rattle.std.proofs.lemmas.Cmp.{on_total, then_total}
use Rattle.std.specs.Ordering.{ordering_then}
use Rattle.ebs_holds.specs.Holders.{holder_cmp}

exact_bools : IsAntisymmetric bool_cmp
exact_bools false false h = refl
exact_bools true true h = refl
exact_bools false true h = absurd cc
exact_bools true false h = absurd cc

exact_numbers : IsAntisymmetric (λ (a b : ℕ × ℕ). ordering_then (nat_cmp a.0 b.0) (nat_cmp a.1 b.1))
exact_numbers = exact_pairs nat_cmp nat_cmp exact_unsigned exact_unsigned

-- holders that compare alike are one
pub exact_holders : IsAntisymmetric holder_cmp
exact_holders a b h = ap (λ (p : Bool × (ℕ × ℕ)). record { is_volume = p.0; account = p.1.0; number = p.1.1 })
    (exact_pairs bool_cmp (λ (x y : ℕ × ℕ). ordering_then (nat_cmp x.0 y.0) (nat_cmp x.1 y.1)) exact_bools exact_numbers (a.is_volume, (a.account, a.number)) (b.is_volume, (b.account, b.number)) h)

pub holders_total : IsTotalOrder holder_cmp
holders_total = then_total (on_total (λ s. s.is_volume) bool_cmp_total) (then_total (on_total (λ s. s.account) nat_cmp_total) (on_total (λ s. s.number) nat_cmp_total))
