-- The steps of a run of a policy.
use Rattle.std.specs.Prelude.{◌≡◌, ℕ, ◌+◌, ◌≤◌, ◌^◌, Bool, true, false, ◌&&◌, ◌==◌, List, [], ◌∷◌, ◌++◌, map as list_map, nat_le, nat_lt, unwrap_or, if◌then◌else◌}
use Rattle.std.specs.List.{filter, flat_map}
use Rattle.std.specs.FinMap as map
use Rattle.std.specs.declared.option.Option.{Option}
use Rattle.std.specs.declared.option.Option.TheVariants.{None, Some}
use Rattle.std.specs.declared.result.Result.{Result}
use Rattle.ebs_model.specs.declared.keys.SnapKey.{SnapKey}
use Rattle.ebs_model.specs.declared.keys.VolKey.{VolKey}
use Rattle.ebs_model.specs.declared.keys.Moment.{Moment}
use Rattle.ebs_model.specs.declared.keys.AnyKey.{AnyKey}
use Rattle.ebs_model.specs.declared.keys.AnyKey.TheVariants.{Snap, Vol}
use Rattle.ebs_model.specs.declared.keys.PolicyKey.{PolicyKey}
use Rattle.ebs_model.specs.declared.policy.Policy.{Policy}
use Rattle.ebs_model.specs.declared.policy.Made.{Made}
use Rattle.ebs_model.specs.declared.policy.Retain.{Retain}
use Rattle.ebs_model.specs.declared.rows.SnapRow.{SnapRow}
use Rattle.ebs_model.specs.declared.rows.VolRow.{VolRow}
use Rattle.ebs_model.specs.declared.answer.Refusal.{Refusal}
use Rattle.ebs_model.specs.declared.answer.Refusal.TheVariants.{Quota}
use Rattle.ebs_model.specs.declared.answer.QuotaName.TheVariants.{Snapshots, Ids}
use Rattle.ebs_model.specs.Keys.{vol_cmp}
use Rattle.ebs_model.specs.Quotas.{most_kept, most_ids}
use Rattle.ebs_model.specs.Refuse.{◌>>◌, refuse_if}
use Rattle.ebs_model.specs.Rows.{Rows, kept_count, is_key}
use Rattle.ebs_model.specs.Policies.{is_target, is_managed, is_same_volume, made_of}
use Rattle.ebs_model.specs.Retention.{is_released, is_ended}
use Rattle.ebs_model.specs.Limits.{is_size}
use Rattle.ebs_model.specs.Time.{stays}
use Rattle.ebs_model.specs.Calls.Start.{next_key, with_upload}
use Rattle.ebs_model.specs.Calls.Run.{with_freed, with_deleted}
use Rattle.ebs_lifecycle.specs.Retention.{keys_of}
use Rattle.ebs_catalog.specs.declared.rows.KeptRow.{KeptRow}
use Rattle.ebs_catalog.specs.Held.{Held, CoversSnap}
use Rattle.ebs_catalog.specs.Decided.{IsThere}

-- a volume of the account that is a target
abbrev pub is_own_target : ℕ → Policy → VolKey × VolRow → Bool
is_own_target account p e = (account == e.0.account) && is_target p e.1

-- all that a run makes fits into its account's quotas
abbrev pub check_quotas : Rows → ℕ → ℕ → Result (Unit {0}) Refusal
check_quotas rows account more = do
  refuse_if (nat_lt most_kept (kept_count rows account + more)) (Quota Snapshots most_kept)
  refuse_if (nat_lt most_ids ((next_key rows account).number + more)) (Quota Ids most_ids)

-- ---- what is given up

-- a volume's group of snapshots
abbrev pub group : map.FinMap vol_cmp (List Made) → VolKey → List Made
group groups volume = unwrap_or (map.get groups volume) []

-- one more in its volume's group, and the other groups as before
abbrev pub IsAdded : map.FinMap vol_cmp (List Made) → map.FinMap vol_cmp (List Made) → VolKey → Made → Type 0
IsAdded old new volume made = (v : VolKey) → group new v ≡ (if is_same_volume (Some v) (Some volume) then group old v ++ made ∷ [] else group old v)

-- ---- what becomes of rows

-- the snapshots among ids
abbrev pub snap_of : AnyKey → List SnapKey
snap_of (Snap key) = key ∷ []
snap_of id = []

abbrev pub snaps_of : List AnyKey → List SnapKey
snaps_of [] = []
snaps_of (id ∷ ids) = snap_of id ++ snaps_of ids

-- each is there
abbrev pub AreThere : Rows → List SnapKey → Type 0
AreThere rows [] = Unit {0}
AreThere rows (key ∷ keys) = IsThere rows key × AreThere rows keys

-- all fail a test, and no key stands twice
abbrev pub NonePasses : (SnapKey → Bool) → List SnapKey → Type 0
NonePasses p [] = Unit {0}
NonePasses p (key ∷ keys) = (p key ≡ false) × NonePasses p keys

abbrev pub AreDistinct : List SnapKey → Type 0
AreDistinct [] = Unit {0}
AreDistinct (key ∷ keys) = NonePasses (λ other. is_key other key) keys × AreDistinct keys

-- rows that are added one after another
abbrev pub with_rows : Rows → List SnapRow → Rows
with_rows rows [] = rows
with_rows rows (row ∷ more) = with_rows (with_upload rows row.key row) more

-- the rows are added, then what is given up loses its policy, and the ended ones are deleted
abbrev pub ran : Rows → Moment → List SnapRow → List SnapKey → List SnapKey → Rows
ran rows at new ended released = with_deleted (with_freed (with_rows rows new) (released ++ ended)) at ended

-- ---- groups

-- the row is the policy's, of a volume, and time leaves it out of the bin
abbrev pub is_left : PolicyKey → ℕ → SnapKey × KeptRow → Bool
is_left policy now e = stays now e.1.row && is_managed policy now (e.0, e.1.row)

-- below a number, where there is one
abbrev pub is_until : Option ℕ → ℕ → Bool
is_until None number = true
is_until (Some until) number = nat_lt number until

-- and its number is one of these
abbrev pub is_counted : PolicyKey → ℕ → Option ℕ → ℕ → SnapKey × KeptRow → Bool
is_counted policy from until now e = nat_le from e.0.number && (is_until until e.0.number && is_left policy now e)

abbrev pub kept_made : ℕ → SnapKey × KeptRow → Made
kept_made now e = made_of now (e.0, e.1.row)

-- and the volume's
abbrev pub counts_for : PolicyKey → ℕ → Option ℕ → ℕ → VolKey → SnapKey × KeptRow → Bool
counts_for policy from until now v e = is_counted policy from until now e && is_same_volume (Some v) e.1.row.volume

-- a volume's group with a row, where it counts
abbrev pub added_row : PolicyKey → ℕ → Option ℕ → ℕ → VolKey → SnapKey × KeptRow → List Made → List Made
added_row policy from until now v e old = if counts_for policy from until now v e then old ++ kept_made now e ∷ [] else old

-- with all that count
abbrev pub added_rows : PolicyKey → ℕ → Option ℕ → ℕ → VolKey → List (SnapKey × KeptRow) → List Made → List Made
added_rows policy from until now v rows old = old ++ list_map (kept_made now) (filter (counts_for policy from until now v) rows)

abbrev pub new_made : Moment → SnapKey → Made
new_made at key = record { key = key; start = at; locked = false; archived = false }

-- what is made of the volume
abbrev pub new_of : Moment → VolKey → AnyKey → AnyKey → List Made
new_of at v (Snap key) (Vol volume) = if is_same_volume (Some v) (Some volume) then new_made at key ∷ [] else []
new_of at v made source = []

abbrev pub new_by : Moment → VolKey → List AnyKey → List AnyKey → List Made
new_by at v made [] = []
new_by at v [] (source ∷ sources) = []
new_by at v (id ∷ made) (source ∷ sources) = new_of at v id source ++ new_by at v made sources

-- a volume's group with what a run makes
abbrev pub added_new : Moment → VolKey → List AnyKey → List AnyKey → List Made → List Made
added_new at v made sources old = old ++ new_by at v made sources

-- what is given up of all groups
abbrev pub ended_in : Retain → ℕ → map.FinMap vol_cmp (List Made) → List SnapKey
ended_in retain now groups = flat_map (λ e. keys_of (is_ended retain e.1 now) e.1) (map.entries groups)

abbrev pub released_in : Retain → ℕ → map.FinMap vol_cmp (List Made) → List SnapKey
released_in retain now groups = flat_map (λ e. keys_of (is_released retain e.1 now) e.1) (map.entries groups)

-- ---- new rows

-- completed, with no put set, out of the bin, of a size that an image can have, and started at a moment of the store
pub record IsNew (row : SnapRow) : Type 0 where
  pub size : is_size row.size ≡ true
  pub start : row.start.second ≤ 2 ^ 36
  pub completed : row.completed ≡ true
  pub put : row.put ≡ map.empty
  pub out : row.bin_end ≡ None

abbrev pub AreNew : List SnapRow → Type 0
AreNew [] = Unit {0}
AreNew (row ∷ rows) = IsNew row × AreNew rows

-- room for each row
abbrev pub CoversRows : Held → List SnapRow → Type 0
CoversRows h [] = Unit {0}
CoversRows h (row ∷ rows) = CoversSnap h (Some row.key) × CoversRows h rows
