-- What a catalog is seen as: its rows, volumes, client tokens, rules and policies, and the keys that are ready for one.
use Rattle.std.specs.Prelude.{◌≡◌, ℕ, ◌<◌, ◌^◌, Bool, true, false, not, ◌&&◌, ◌||◌, List, map as list_map, refl}
use Rattle.std.specs.List.{filter}
use Rattle.std.specs.Coded.{Coded, code_by, coded×, coded_ℕ, coded_option}
use base.Stored.{coded_unit}
use Rattle.std.specs.Ordering.{nat_cmp}
use Rattle.std.specs.FinMap as map
use Rattle.std.specs.declared.option.Option.{Option}
use Rattle.std.specs.declared.option.Option.TheVariants.{None, Some}
use Rattle.std.specs.declared.result.Result.TheVariants.{Ok}
use Rattle.ebs_tables.specs.Full.{full}
use Rattle.ebs_model.specs.declared.keys.SnapKey.{SnapKey}
use Rattle.ebs_model.specs.declared.keys.VolKey.{VolKey}
use Rattle.ebs_model.specs.declared.rows.SnapRow.{SnapRow}
use Rattle.ebs_model.specs.declared.rows.VolRow.{VolRow}
use Rattle.ebs_model.specs.declared.rows.Own.{Own}
use Rattle.ebs_model.specs.declared.rows.TokenRow.{TokenRow}
use Rattle.ebs_model.specs.declared.request.Request.{Request}
use Rattle.ebs_model.specs.declared.request.Request.TheVariants.{StartSnapshot, PutSnapshotBlock, CompleteSnapshot, DeleteSnapshot, CreateVolume, CreateSnapshot, CreateRule, UpdateRule, RestoreFromBin, CreatePolicy}
use Rattle.ebs_model.specs.declared.answer.Answer.{Answer}
use Rattle.ebs_model.specs.declared.change.Change.{Change}
use Rattle.ebs_model.specs.declared.change.Decision.TheVariants as decision
use Rattle.ebs_model.specs.contracts.keys.SnapKey as key
use Rattle.ebs_model.specs.contracts.keys.VolKey as vol_key
use Rattle.ebs_model.specs.contracts.keys.TokenKey as token_key
use Rattle.ebs_model.specs.contracts.rows.VolRow as vol_row
use Rattle.ebs_model.specs.contracts.rows.TokenRow as token_row
use Rattle.ebs_model.specs.Keys.{snap_cmp, vol_cmp, token_cmp}
use Rattle.ebs_model.specs.inner.MapValues.{map_values}
use Rattle.ebs_model.specs.Limits.{is_size, is_size_given, is_sized, is_timeout, is_retention, is_retention_given, is_schedule, is_retain}
use Rattle.ebs_model.specs.Time.{stays, status_at, is_failed}
use Rattle.ebs_model.specs.Rows.{Rows, is_key}
use Rattle.ebs_model.specs.Decisions.{made_snap, made_vol}
use Rattle.ebs_model.specs.Decide.{decide}
use Rattle.ebs_model.specs.Step.{is_made}
use Rattle.ebs_bin.specs.Books.{Shelf, shelf_code, book}
use Rattle.ebs_policies.specs.Table.{Places, places_code}
use Rattle.ebs_catalog.specs.PolicyCalls.{is_run, is_among}
use Rattle.ebs_catalog.specs.declared.rows.KeptRow.{KeptRow}
use Rattle.ebs_catalog.specs.declared.rows.AccountRow.{AccountRow}
use Rattle.ebs_catalog.specs.declared.rows.NewToken.{NewToken}
use Rattle.ebs_catalog.specs.contracts.rows.KeptRow as kept
use Rattle.ebs_catalog.specs.contracts.rows.AccountRow as account

-- rows of snapshots and volumes, what each account has, what client tokens were used for, the rules of each account that made
-- one and policies, by key, with keys that are ready for one; the snapshots that time can still end; and the second of the latest moment of a
-- change or of a row that was given up
pub record Held : Type 0 where
  pub snaps : map.FinMap snap_cmp (Option KeptRow)
  pub owns : map.FinMap nat_cmp (Option AccountRow)
  pub tokens : map.FinMap token_cmp (Option TokenRow)
  pub vols : map.FinMap vol_cmp (Option VolRow)
  pub books : map.FinMap nat_cmp (Option Shelf)
  pub policies : Places
  pub waits : map.FinMap snap_cmp (Option (Unit {0}))
  pub latest : ℕ

abbrev pub held_code : Coded Held
held_code = code_by ((map.FinMap snap_cmp (Option KeptRow) × (map.FinMap token_cmp (Option TokenRow) × (map.FinMap vol_cmp (Option VolRow) × (map.FinMap nat_cmp (Option Shelf) × Places)))) × (map.FinMap nat_cmp (Option AccountRow) × (map.FinMap snap_cmp (Option (Unit {0})) × ℕ)))
    (coded× (coded× (map.code key.the_row.coded (coded_option kept.the_row.coded)) (coded× (map.code token_key.the_row.coded (coded_option token_row.the_row.coded)) (coded× (map.code vol_key.the_row.coded (coded_option vol_row.the_row.coded)) (coded× (map.code coded_ℕ (coded_option shelf_code)) places_code))))
    (coded× (map.code coded_ℕ (coded_option account.the_row.coded)) (coded× (map.code key.the_row.coded (coded_option coded_unit)) coded_ℕ)))
    (λ h. ((h.snaps, (h.tokens, (h.vols, (h.books, h.policies)))), (h.owns, (h.waits, h.latest)))) (λ p. record { snaps = p.0.0; tokens = p.0.1.0; vols = p.0.1.1.0; books = p.0.1.1.1.0; policies = p.0.1.1.1.1; owns = p.1.0; waits = p.1.1.0; latest = p.1.1.1 }) (λ _. refl)

-- a row with its put set
abbrev pub whole : KeptRow → SnapRow
whole k = record k.row { put = full k.put }

abbrev pub own_in : AccountRow → Own
own_in a = a.own

-- the rows, without what is only ready
abbrev pub rows_in : Held → Rows
rows_in h = record { snaps = map_values whole (full h.snaps); own = map_values own_in (full h.owns); tokens = full h.tokens; vols = full h.vols; books = map_values book (full h.books); policies = full h.policies }

-- time has ended the row, or failed its upload
abbrev pub is_ended : ℕ → Option SnapRow → Bool
is_ended now None = false
is_ended now (Some row) = not (stays now row) || is_failed (status_at row now)

-- the keys that time has ended at a moment, or whose upload it failed, and that aren't given up, in ascending order
abbrev pub stale : Held → ℕ → List SnapKey
stale h now = list_map (λ e. e.0) (filter (λ e. is_ended now (map.get (rows_in h).snaps e.0)) (map.entries (full h.waits)))

-- nothing of a row, or a row without a put set
abbrev pub HasNoPut : Option SnapRow → Type 0
HasNoPut None = Unit {0}
HasNoPut (Some row) = row.put ≡ map.empty

-- the snapshot that a change makes, puts a block into, completes, deletes or takes from the bin
abbrev pub is_about_by : Option SnapKey → Request → SnapKey → Bool
is_about_by made (StartSnapshot size parent description tags token timeout) other = is_made other made
is_about_by made (PutSnapshotBlock key index digest bytes) other = is_key other key
is_about_by made (CompleteSnapshot key count checksum) other = is_key other key
is_about_by made (DeleteSnapshot key) other = is_key other key
is_about_by made (RestoreFromBin key) other = is_key other key
is_about_by made (CreateSnapshot volume description tags) other = is_made other made
is_about_by made request other = false

-- one that a run makes, deletes or puts into the bin
abbrev pub is_about_run : Change → SnapKey → Bool
is_about_run change key = is_run change.request && (is_among key change.made || is_among key change.ended)

abbrev pub is_about : Change → SnapKey → Bool
is_about change key = is_about_run change key || is_about_by (made_snap change.made) change.request key

-- room for a new upload
abbrev pub CoversStart : Held → Option SnapKey → Type 0
CoversStart h None = Unit {0}
CoversStart h (Some key) = (map.contains_key h.snaps key ≡ true) × ((map.contains_key h.owns key.account ≡ true) × (map.contains_key h.waits key ≡ true))

-- room for a new snapshot of a volume: time never ends it, so it doesn't wait
abbrev pub CoversSnap : Held → Option SnapKey → Type 0
CoversSnap h None = Unit {0}
CoversSnap h (Some key) = (map.contains_key h.snaps key ≡ true) × (map.contains_key h.owns key.account ≡ true)

-- room for a new volume
abbrev pub CoversVolume : Held → Option VolKey → Type 0
CoversVolume h None = Unit {0}
CoversVolume h (Some key) = (map.contains_key h.vols key ≡ true) × (map.contains_key h.owns key.account ≡ true)

-- the client token that an account's change keeps, with the call that it was used for
abbrev pub new_token_of : ℕ → Request → Option (List ℕ) → Option NewToken
new_token_of account request None = None
new_token_of account request (Some token) = Some (record { key = record { account = account; text = token }; first = request })

abbrev pub new_token_by : Option SnapKey → Request → Option (List ℕ) → Option NewToken
new_token_by None request token = None
new_token_by (Some key) request token = new_token_of key.account request token

abbrev pub volume_token_by : Option VolKey → Request → Option (List ℕ) → Option NewToken
volume_token_by None request token = None
volume_token_by (Some key) request token = new_token_of key.account request token

abbrev pub new_token_in : Option SnapKey → Option VolKey → Request → Option NewToken
new_token_in made volume (StartSnapshot size parent description tags token timeout) = new_token_by made (StartSnapshot size parent description tags token timeout) token
new_token_in made volume (CreateVolume origin size tags token) = volume_token_by volume (CreateVolume origin size tags token) token
new_token_in made volume request = None

abbrev pub new_token : Change → Option NewToken
new_token change = new_token_in (made_snap change.made) (made_vol change.made) change.request

abbrev pub CoversToken : map.FinMap token_cmp (Option TokenRow) → Option NewToken → Type 0
CoversToken tokens None = Unit {0}
CoversToken tokens (Some token) = map.contains_key tokens token.key ≡ true

abbrev pub HasIndex : Option KeptRow → ℕ → Type 0
HasIndex None index = Unit {0}
HasIndex (Some k) index = map.contains_key k.put index ≡ true

-- room for an index in a row's put set; a row has none of 2^32 or above
abbrev pub CoversIndex : Option KeptRow → ℕ → Type 0
CoversIndex found index = index < 2 ^ 32 → HasIndex found index

abbrev pub CoversRows : Held → Option SnapKey → Option VolKey → Request → Type 0
CoversRows h made volume (StartSnapshot size parent description tags token timeout) = CoversStart h made
CoversRows h made volume (PutSnapshotBlock key index digest bytes) = CoversIndex (map.get (full h.snaps) key) index
CoversRows h made volume (CreateVolume origin size tags token) = CoversVolume h volume
CoversRows h made volume (CreateSnapshot source description tags) = CoversSnap h made
CoversRows h made volume (DeleteSnapshot key) = map.contains_key h.waits key ≡ true
CoversRows h made volume request = Unit {0}

abbrev pub CoversBy : Held → Option SnapKey → Option VolKey → Request → Type 0
CoversBy h made volume request = CoversRows h made volume request × CoversToken h.tokens (new_token_in made volume request)

-- the room that a change takes, but for rules
abbrev pub Covers : Held → Change → Type 0
Covers h change = CoversBy h (made_snap change.made) (made_vol change.made) change.request

-- nothing at the change's keys is only ready
abbrev pub FreeStart : Held → Option SnapKey → Type 0
FreeStart h None = Unit {0}
FreeStart h (Some key) =
    (map.contains_key h.snaps key ≡ map.contains_key (full h.snaps) key)
    × ((map.contains_key h.owns key.account ≡ map.contains_key (full h.owns) key.account) × (map.contains_key h.waits key ≡ map.contains_key (full h.waits) key))

abbrev pub FreeSnap : Held → Option SnapKey → Type 0
FreeSnap h None = Unit {0}
FreeSnap h (Some key) = (map.contains_key h.snaps key ≡ map.contains_key (full h.snaps) key) × (map.contains_key h.owns key.account ≡ map.contains_key (full h.owns) key.account)

abbrev pub FreeVolume : Held → Option VolKey → Type 0
FreeVolume h None = Unit {0}
FreeVolume h (Some key) = (map.contains_key h.vols key ≡ map.contains_key (full h.vols) key) × (map.contains_key h.owns key.account ≡ map.contains_key (full h.owns) key.account)

abbrev pub FreeToken : map.FinMap token_cmp (Option TokenRow) → Option NewToken → Type 0
FreeToken tokens None = Unit {0}
FreeToken tokens (Some token) = map.contains_key tokens token.key ≡ map.contains_key (full tokens) token.key

abbrev pub FreeIndex : Option KeptRow → ℕ → Type 0
FreeIndex None index = Unit {0}
FreeIndex (Some k) index = index < 2 ^ 32 → map.contains_key k.put index ≡ map.contains_key (full k.put) index

abbrev pub FreeBy : Held → Option SnapKey → Option VolKey → Request → Type 0
FreeBy h made volume (StartSnapshot size parent description tags token timeout) = FreeStart h made
FreeBy h made volume (PutSnapshotBlock key index digest bytes) = FreeIndex (map.get (full h.snaps) key) index
FreeBy h made volume (CreateVolume origin size tags token) = FreeVolume h volume
FreeBy h made volume (CreateSnapshot source description tags) = FreeSnap h made
FreeBy h made volume (DeleteSnapshot key) = map.contains_key h.waits key ≡ map.contains_key (full h.waits) key
FreeBy h made volume request = Unit {0}

-- what the tests on a request by itself leave of the size in GiB of an upload or a volume, of an upload's timeout, of a rule's
-- days and of a policy's schedule and retention; a volume without a size has an origin
abbrev pub IsFit : Request → Type 0
IsFit (StartSnapshot size parent description tags token timeout) = (is_size size ≡ true) × (is_timeout timeout ≡ true)
IsFit (CreateVolume origin size tags token) = (is_size_given size ≡ true) × (is_sized origin size ≡ true)
IsFit (CreateRule days tags description delay) = is_retention days ≡ true
IsFit (UpdateRule key days tags description) = is_retention_given days ≡ true
IsFit (CreatePolicy targets hours at retain add) = (is_schedule hours at ≡ true) × (is_retain retain ≡ true)
IsFit request = Unit {0}

-- a change that rows decided of a request that passed its own tests
pub record IsDecided (rows : Rows) (change : Change) : Type 0 where
  pub request : Request
  pub answer : Answer
  pub fits : IsFit request
  pub gives : decide rows change.at change.account request ≡ Ok (decision.Change change answer)
