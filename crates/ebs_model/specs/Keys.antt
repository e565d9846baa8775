-- The orders of keys: by account, then by number, or by the bytes of a client token.
use Rattle.std.specs.declared.cmp.Ordering.{Ordering}
use Rattle.std.specs.Ordering.{nat_cmp, ordering_then}
use Rattle.std.specs.Cmp.Lexicographic.{slice_cmp}
use Rattle.ebs_model.specs.declared.keys.SnapKey.{SnapKey}
use Rattle.ebs_model.specs.declared.keys.VolKey.{VolKey}
use Rattle.ebs_model.specs.declared.keys.TokenKey.{TokenKey}
use Rattle.ebs_model.specs.declared.keys.PolicyKey.{PolicyKey}

abbrev pub snap_cmp : SnapKey → SnapKey → Ordering
snap_cmp a b = ordering_then (nat_cmp a.account b.account) (nat_cmp a.number b.number)

abbrev pub vol_cmp : VolKey → VolKey → Ordering
vol_cmp a b = ordering_then (nat_cmp a.account b.account) (nat_cmp a.number b.number)

abbrev pub policy_cmp : PolicyKey → PolicyKey → Ordering
policy_cmp a b = ordering_then (nat_cmp a.account b.account) (nat_cmp a.number b.number)

abbrev pub token_cmp : TokenKey → TokenKey → Ordering
token_cmp a b = ordering_then (nat_cmp a.account b.account) (slice_cmp nat_cmp a.text b.text)
