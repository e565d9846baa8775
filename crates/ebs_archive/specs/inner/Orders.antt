-- The laws of the order of keys.
use Rattle.std.proofs.Common.{ℕ, ap}
use Rattle.std.specs.Ordering.{nat_cmp}
use Rattle.std.specs.Cmp.{IsTotalOrder, nat_cmp_total}
use Rattle.std.specs.FinMap.{IsAntisymmetric}
use Rattle.std.proofs.lemmas.Map.Lookups.{exact_pairs, exact_unsigned}
use Rattle.std.proofs.lemmas.Cmp.{on_total, then_total}
use Rattle.ebs_model.specs.declared.keys.SnapKey.{SnapKey}
use Rattle.ebs_model.specs.Keys.{snap_cmp}
use Rattle.ebs_model.specs.inner.Orders.{exact_snaps, snaps_total}
use Rattle.ebs_archive.specs.Keys.{copy_key_cmp}

-- keys that compare alike are one
pub exact_copy_keys : IsAntisymmetric copy_key_cmp
exact_copy_keys a b h = ap (λ (p : SnapKey × ℕ). record { key = p.0; index = p.1 }) (exact_pairs snap_cmp nat_cmp exact_snaps exact_unsigned (a.key, a.index) (b.key, b.index) h)

pub copy_keys_total : IsTotalOrder copy_key_cmp
copy_keys_total = then_total (on_total (λ p. p.key) snaps_total) (on_total (λ p. p.index) nat_cmp_total)
