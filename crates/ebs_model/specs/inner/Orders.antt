-- The laws of the orders of keys.
use Rattle.std.proofs.Common.{ℕ, ap, List}
use Rattle.std.specs.Ordering.{nat_cmp}
use Rattle.std.specs.Cmp.{IsTotalOrder, nat_cmp_total}
use Rattle.std.specs.Cmp.Lexicographic.{slice_cmp, nat_list_cmp_total}
use Rattle.std.specs.FinMap.{IsAntisymmetric}
use Rattle.std.proofs.lemmas.Map.Lookups.{exact_pairs, exact_unsigned, exact_bytes}
use Rattle.std.proofs.lemmas.Cmp.{on_total, then_total}
use Rattle.ebs_model.specs.Keys.{snap_cmp, vol_cmp, policy_cmp, token_cmp}

-- keys that compare alike are one
pub exact_snaps : IsAntisymmetric snap_cmp
exact_snaps a b h = ap (λ (p : ℕ × ℕ). record { account = p.0; number = p.1 }) (exact_pairs nat_cmp nat_cmp exact_unsigned exact_unsigned (a.account, a.number) (b.account, b.number) h)

pub snaps_total : IsTotalOrder snap_cmp
snaps_total = then_total (on_total (λ s. s.account) nat_cmp_total) (on_total (λ s. s.number) nat_cmp_total)

pub exact_vols : IsAntisymmetric vol_cmp
exact_vols a b h = ap (λ (p : ℕ × ℕ). record { account = p.0; number = p.1 }) (exact_pairs nat_cmp nat_cmp exact_unsigned exact_unsigned (a.account, a.number) (b.account, b.number) h)

pub vols_total : IsTotalOrder vol_cmp
vols_total = then_total (on_total (λ s. s.account) nat_cmp_total) (on_total (λ s. s.number) nat_cmp_total)

pub exact_policies : IsAntisymmetric policy_cmp
exact_policies a b h = ap (λ (p : ℕ × ℕ). record { account = p.0; number = p.1 }) (exact_pairs nat_cmp nat_cmp exact_unsigned exact_unsigned (a.account, a.number) (b.account, b.number) h)

pub policies_total : IsTotalOrder policy_cmp
policies_total = then_total (on_total (λ s. s.account) nat_cmp_total) (on_total (λ s. s.number) nat_cmp_total)

pub exact_tokens : IsAntisymmetric token_cmp
exact_tokens a b h = ap (λ (p : ℕ × List ℕ). record { account = p.0; text = p.1 }) (exact_pairs nat_cmp (slice_cmp nat_cmp) exact_unsigned exact_bytes (a.account, a.text) (b.account, b.text) h)

pub tokens_total : IsTotalOrder token_cmp
tokens_total = then_total (on_total (λ s. s.account) nat_cmp_total) (on_total (λ s. s.text) nat_list_cmp_total)
