-- Policies: when they are due, and what they are for.
use Rattle.std.specs.Prelude.{ℕ, ◌*◌, ◌+◌, ◌-◌, ◌/◌, Bool, ◌&&◌, nat_le, nat_lt, List, ◌==◌, false, Option, None, Some, not, is_some, true, map}
use Rattle.std.specs.List.{list_any, filter}
use Rattle.std.specs.FinMap as fin
use Rattle.ebs_model.specs.declared.policy.Policy.{Policy}
use Rattle.ebs_model.specs.declared.keys.SnapKey.{SnapKey}
use Rattle.ebs_model.specs.declared.keys.VolKey.{VolKey}
use Rattle.ebs_model.specs.declared.keys.PolicyKey.{PolicyKey}
use Rattle.ebs_model.specs.declared.tags.Tag.{Tag}
use Rattle.ebs_model.specs.declared.rows.SnapRow.{SnapRow}
use Rattle.ebs_model.specs.declared.rows.VolRow.{VolRow}
use Rattle.ebs_model.specs.declared.rows.Tier.{Tier}
use Rattle.ebs_model.specs.declared.rows.Tier.TheVariants.{Standard, Archived, Temporary}
use Rattle.ebs_model.specs.declared.policy.Made.{Made}
use Rattle.ebs_model.specs.Time.{is_ahead}
use Rattle.ebs_model.specs.Access.{owns}
use Rattle.ebs_model.specs.Views.{lock_until}
use Rattle.ebs_model.specs.Rows.{Rows}
use Rattle.ebs_model.specs.Retention.{is_released, is_ended}
use Rattle.ebs_model.specs.Calls.Start.{is_same_tag}

-- the seconds from one due moment to the next
abbrev pub interval : Policy → ℕ
interval p = 3600 * p.hours

-- the latest due moment up to now: as many whole intervals after the time of day as have passed
abbrev pub latest_due : Policy → ℕ → ℕ
latest_due p now = p.at + (now - p.at) / interval p * interval p

-- a due moment has come since
abbrev pub is_due : Policy → ℕ → ℕ → Bool
is_due p since now = nat_le p.at now && nat_lt since (latest_due p now)

-- ---- volumes

abbrev pub has_tag : List Tag → Tag → Bool
has_tag tags target = list_any (λ tag. is_same_tag tag target) tags

-- it has at least one of the target tags
abbrev pub is_target : Policy → VolRow → Bool
is_target p row = list_any (λ target. has_tag row.tags target) p.targets

-- the account's volumes that are targets, in ascending id
abbrev pub targets : Rows → ℕ → Policy → List (VolKey × VolRow)
targets rows account p = filter (λ e. (account == e.0.account) && is_target p e.1) (fin.entries rows.vols)

-- ---- snapshots

abbrev pub is_policy : PolicyKey → Option PolicyKey → Bool
is_policy key None = false
is_policy key (Some own) = (key.account == own.account) && (key.number == own.number)

-- the policy made it of a volume, and it isn't in the bin
abbrev pub is_managed : PolicyKey → ℕ → SnapKey × SnapRow → Bool
is_managed key now e = owns key.account e.0 && (is_policy key e.1.policy && (is_some e.1.volume && not (is_ahead e.1.bin_end now)))

-- the snapshots of a policy, in ascending id
abbrev pub managed : Rows → PolicyKey → ℕ → List (SnapKey × SnapRow)
managed rows key now = filter (is_managed key now) (fin.entries rows.snaps)

abbrev pub is_archived : Tier → Bool
is_archived Standard = false
is_archived Archived = true
is_archived (Temporary until) = true

-- what its retention rule sees of a snapshot
abbrev pub made_of : ℕ → SnapKey × SnapRow → Made
made_of now e = record { key = e.0; start = e.1.start; locked = is_ahead (lock_until e.1.lock) now; archived = is_archived e.1.tier }

abbrev pub is_same_volume : Option VolKey → Option VolKey → Bool
is_same_volume None None = true
is_same_volume None (Some b) = false
is_same_volume (Some a) None = false
is_same_volume (Some a) (Some b) = (a.account == b.account) && (a.number == b.number)

-- those of one volume, whether or not it is still there
abbrev pub of_volume : ℕ → Option VolKey → List (SnapKey × SnapRow) → List Made
of_volume now volume snaps = map (made_of now) (filter (λ e. is_same_volume volume e.1.volume) snaps)

-- those that are released, and those that are deleted: each is judged among those of its volume
abbrev pub released : Policy → ℕ → List (SnapKey × SnapRow) → List SnapKey
released p now snaps = map (λ e. e.0) (filter (λ e. is_released p.retain (of_volume now e.1.volume snaps) now (made_of now e)) snaps)

abbrev pub ended : Policy → ℕ → List (SnapKey × SnapRow) → List SnapKey
ended p now snaps = map (λ e. e.0) (filter (λ e. is_ended p.retain (of_volume now e.1.volume snaps) now (made_of now e)) snaps)
