-- Each shape of path: its bytes, its route, and its members.
use Rattle.std.proofs.Common.{◌≡◌, ℕ, ◌<◌, ◌^◌, true, false, ◌==◌, List, [], ◌∷◌, ◌++◌, length, refl, ap, ◌∙◌, arith, codes, inl, inr}
use Rattle.std.specs.Prelude.{find}
use Rattle.std.specs.declared.option.Option.{Option}
use Rattle.std.specs.declared.option.Option.TheVariants.{Some}
use Rattle.std.specs.Option.{option_map}
use Rattle.std.specs.List.{list_all, slice_split, zip}
use Rattle.std.specs.Fmt.{decimal}
use Rattle.std.proofs.lemmas.Bool.{cases_Bool, ne_eqb}
use Rattle.std.proofs.lemmas.Bool.Decides.{nat_tests}
use Rattle.std.proofs.lemmas.Fmt.{decimal_nonempty}
use Rattle.std.proofs.lemmas.List.Folds.{list_all-append}
use Rattle.std.proofs.lemmas.List.Splits.{slice_split_none, slice_split_at}
use Rattle.ebs_model.specs.declared.keys.SnapKey.{SnapKey}
use Rattle.ebs_model.specs.declared.keys.VolKey.{VolKey}
use Rattle.ebs_model.specs.declared.keys.RuleKey.{RuleKey}
use Rattle.ebs_model.specs.declared.keys.PolicyKey.{PolicyKey}
use Rattle.ebs_model.specs.Ids.{snap_id, vol_id, rule_id, policy_id}
use Rattle.ebs_rest.specs.CallOf.{route_of}
use Rattle.ebs_members.specs.Sources.{Given, given_text, is_place, parts, in_path}
use Rattle.ebs_client.specs.Messages.{snapshot, volume, rule, policy, block}
use Rattle.ebs_client.specs.Reach.{IsSnapshot, IsVolume, IsRule, IsPolicy}
use Rattle.ebs_client.proofs.Pieces.{is_path_byte, is_piece_byte, snap_tail, vol_tail, rule_tail, policy_tail, snap_letters, vol_letters, rule_letters, policy_letters, snap_piece, vol_piece, rule_piece, policy_piece, without_slash, all_in_piece, piece_in_path, number_piece}
use Rattle.ebs_client.proofs.Routes as route

pub snap_id_piece : (key : SnapKey) → IsSnapshot key → list_all is_piece_byte (snap_id key) ≡ true
snap_id_piece key is = ap (list_all is_piece_byte) (snap_letters key) ∙ snap_piece key is.0 is.1

pub vol_id_piece : (key : VolKey) → IsVolume key → list_all is_piece_byte (vol_id key) ≡ true
vol_id_piece key is = ap (list_all is_piece_byte) (vol_letters key) ∙ vol_piece key is.0 is.1

pub rule_id_piece : (key : RuleKey) → IsRule key → list_all is_piece_byte (rule_id key) ≡ true
rule_id_piece key is = ap (list_all is_piece_byte) (rule_letters key) ∙ rule_piece key is.0 is.1

pub policy_id_piece : (key : PolicyKey) → IsPolicy key → list_all is_piece_byte (policy_id key) ≡ true
policy_id_piece key is = ap (list_all is_piece_byte) (policy_letters key) ∙ policy_piece key is.0 is.1

-- the route is found by the bytes
abbrev Routed : List ℕ → List ℕ → Type 0
Routed path found = route_of path ≡ Some found

routed : (path found : List ℕ) → list_all is_path_byte path ≡ true → route.routed path ≡ Some found → Routed path found
routed path found plain h = h

-- `/snapshots/{snapshotId}` and what may follow
pub snapshot_bytes : (key : SnapKey) → IsSnapshot key → list_all is_path_byte (snapshot key) ≡ true
snapshot_bytes key is = piece_in_path (snap_id key) (snap_id_piece key is)

pub volume_bytes : (key : VolKey) → IsVolume key → list_all is_path_byte (volume key) ≡ true
volume_bytes key is = piece_in_path (vol_id key) (vol_id_piece key is)

pub rule_bytes : (key : RuleKey) → IsRule key → list_all is_path_byte (rule key) ≡ true
rule_bytes key is = piece_in_path (rule_id key) (rule_id_piece key is)

pub policy_bytes : (key : PolicyKey) → IsPolicy key → list_all is_path_byte (policy key) ≡ true
policy_bytes key is = piece_in_path (policy_id key) (policy_id_piece key is)

pub longer_bytes : (path rest : List ℕ) → list_all is_path_byte path ≡ true → list_all is_path_byte rest ≡ true → list_all is_path_byte (path ++ rest) ≡ true
longer_bytes path rest h k = list_all-append is_path_byte path rest ∙ rw (h, k) refl

pub block_bytes : (path : List ℕ) (index : ℕ) → list_all is_path_byte path ≡ true → index < 10 ^ 10 → list_all is_path_byte (block path index) ≡ true
block_bytes path index h small = longer_bytes path (codes "/blocks/" ++ decimal index) h (piece_in_path (decimal index) (number_piece index small))

pub snapshot_route : (key : SnapKey) → IsSnapshot key → Routed (snapshot key) (codes "/snapshots/{snapshotId}")
snapshot_route key is =
    routed (snapshot key) _ (snapshot_bytes key is)
    (ap (λ id. route.routed (codes "/snapshots/" ++ id)) (snap_letters key) ∙ route.at_snapshot (snap_tail key) (without_slash (115 ∷ snap_tail key) (snap_piece key is.0 is.1)))

pub volume_route : (key : VolKey) → IsVolume key → Routed (volume key) (codes "/volumes/{volumeId}")
volume_route key is =
    routed (volume key) _ (volume_bytes key is)
    (ap (λ id. route.routed (codes "/volumes/" ++ id)) (vol_letters key) ∙ route.at_volume (vol_tail key) (without_slash (118 ∷ vol_tail key) (vol_piece key is.0 is.1)))

pub lock_route : (key : SnapKey) → IsSnapshot key → Routed (snapshot key ++ codes "/lock") (codes "/snapshots/{snapshotId}/lock")
lock_route key is =
    routed (snapshot key ++ codes "/lock") _ (longer_bytes (snapshot key) (codes "/lock") (snapshot_bytes key is) refl)
    (ap (λ id. route.routed (codes "/snapshots/" ++ (id ++ codes "/lock"))) (snap_letters key) ∙ route.at_lock (snap_tail key) (without_slash (115 ∷ snap_tail key) (snap_piece key is.0 is.1)))

pub blocks_route : (key : SnapKey) → IsSnapshot key → Routed (snapshot key ++ codes "/blocks") (codes "/snapshots/{snapshotId}/blocks")
blocks_route key is =
    routed (snapshot key ++ codes "/blocks") _ (longer_bytes (snapshot key) (codes "/blocks") (snapshot_bytes key is) refl)
    (ap (λ id. route.routed (codes "/snapshots/" ++ (id ++ codes "/blocks"))) (snap_letters key) ∙ route.at_blocks (snap_tail key) (without_slash (115 ∷ snap_tail key) (snap_piece key is.0 is.1)))

pub changes_route : (key : SnapKey) → IsSnapshot key → Routed (snapshot key ++ codes "/changedblocks") (codes "/snapshots/{secondSnapshotId}/changedblocks")
changes_route key is =
    routed (snapshot key ++ codes "/changedblocks") _ (longer_bytes (snapshot key) (codes "/changedblocks") (snapshot_bytes key is) refl)
    (ap (λ id. route.routed (codes "/snapshots/" ++ (id ++ codes "/changedblocks"))) (snap_letters key) ∙ route.at_changes (snap_tail key) (without_slash (115 ∷ snap_tail key) (snap_piece key is.0 is.1)))

pub tier_route : (key : SnapKey) → IsSnapshot key → Routed (snapshot key ++ codes "/tier") (codes "/snapshots/{snapshotId}/tier")
tier_route key is =
    routed (snapshot key ++ codes "/tier") _ (longer_bytes (snapshot key) (codes "/tier") (snapshot_bytes key is) refl)
    (ap (λ id. route.routed (codes "/snapshots/" ++ (id ++ codes "/tier"))) (snap_letters key) ∙ route.at_tier (snap_tail key) (without_slash (115 ∷ snap_tail key) (snap_piece key is.0 is.1)))

pub permission_route : (key : SnapKey) → IsSnapshot key → Routed (snapshot key ++ codes "/permission") (codes "/snapshots/{snapshotId}/permission")
permission_route key is =
    routed (snapshot key ++ codes "/permission") _ (longer_bytes (snapshot key) (codes "/permission") (snapshot_bytes key is) refl)
    (ap (λ id. route.routed (codes "/snapshots/" ++ (id ++ codes "/permission"))) (snap_letters key) ∙ route.at_permission (snap_tail key) (without_slash (115 ∷ snap_tail key) (snap_piece key is.0 is.1)))

pub restore_route : (key : SnapKey) → IsSnapshot key → Routed (snapshot key ++ codes "/restore-tier") (codes "/snapshots/{snapshotId}/restore-tier")
restore_route key is =
    routed (snapshot key ++ codes "/restore-tier") _ (longer_bytes (snapshot key) (codes "/restore-tier") (snapshot_bytes key is) refl)
    (ap (λ id. route.routed (codes "/snapshots/" ++ (id ++ codes "/restore-tier"))) (snap_letters key) ∙ route.at_restore (snap_tail key) (without_slash (115 ∷ snap_tail key) (snap_piece key is.0 is.1)))

pub volume_snapshots_route : (key : VolKey) → IsVolume key → Routed (volume key ++ codes "/snapshots") (codes "/volumes/{volumeId}/snapshots")
volume_snapshots_route key is =
    routed (volume key ++ codes "/snapshots") _ (longer_bytes (volume key) (codes "/snapshots") (volume_bytes key is) refl)
    (ap (λ id. route.routed (codes "/volumes/" ++ (id ++ codes "/snapshots"))) (vol_letters key) ∙ route.at_volume_snapshots (vol_tail key) (without_slash (118 ∷ vol_tail key) (vol_piece key is.0 is.1)))

pub completion_route : (key : SnapKey) → IsSnapshot key → Routed (codes "/snapshots/completion/" ++ snap_id key) (codes "/snapshots/completion/{snapshotId}")
completion_route key is =
    routed (codes "/snapshots/completion/" ++ snap_id key) _ (piece_in_path (snap_id key) (snap_id_piece key is))
    (ap (λ id. route.routed (codes "/snapshots/completion/" ++ id)) (snap_letters key) ∙ route.at_completion (snap_tail key) (without_slash (115 ∷ snap_tail key) (snap_piece key is.0 is.1)))

pub rows_route : Routed (codes "/snapshots") (codes "/snapshots")
rows_route = routed (codes "/snapshots") (codes "/snapshots") refl route.at_snapshots

pub volumes_route : Routed (codes "/volumes") (codes "/volumes")
volumes_route = routed (codes "/volumes") (codes "/volumes") refl route.at_volumes

pub rules_route : Routed (codes "/rules") (codes "/rules")
rules_route = routed (codes "/rules") (codes "/rules") refl route.at_rules

pub rule_list_route : Routed (codes "/list-rules") (codes "/list-rules")
rule_list_route = routed (codes "/list-rules") (codes "/list-rules") refl route.at_rule_list

pub policies_route : Routed (codes "/policies") (codes "/policies")
policies_route = routed (codes "/policies") (codes "/policies") refl route.at_policies

pub bin_route : Routed (codes "/recycle-bin") (codes "/recycle-bin")
bin_route = routed (codes "/recycle-bin") (codes "/recycle-bin") refl route.at_bin

-- `/rules/{identifier}` and what may follow
pub rule_route : (key : RuleKey) → IsRule key → Routed (rule key) (codes "/rules/{identifier}")
rule_route key is =
    routed (rule key) _ (rule_bytes key is)
    (ap (λ id. route.routed (codes "/rules/" ++ id)) (rule_letters key) ∙ route.at_rule (rule_tail key) (without_slash (114 ∷ rule_tail key) (rule_piece key is.0 is.1)))

pub rule_lock_route : (key : RuleKey) → IsRule key → Routed (rule key ++ codes "/lock") (codes "/rules/{identifier}/lock")
rule_lock_route key is =
    routed (rule key ++ codes "/lock") _ (longer_bytes (rule key) (codes "/lock") (rule_bytes key is) refl)
    (ap (λ id. route.routed (codes "/rules/" ++ (id ++ codes "/lock"))) (rule_letters key) ∙ route.at_rule_lock (rule_tail key) (without_slash (114 ∷ rule_tail key) (rule_piece key is.0 is.1)))

pub rule_unlock_route : (key : RuleKey) → IsRule key → Routed (rule key ++ codes "/unlock") (codes "/rules/{identifier}/unlock")
rule_unlock_route key is =
    routed (rule key ++ codes "/unlock") _ (longer_bytes (rule key) (codes "/unlock") (rule_bytes key is) refl)
    (ap (λ id. route.routed (codes "/rules/" ++ (id ++ codes "/unlock"))) (rule_letters key) ∙ route.at_rule_unlock (rule_tail key) (without_slash (114 ∷ rule_tail key) (rule_piece key is.0 is.1)))

pub policy_route : (key : PolicyKey) → IsPolicy key → Routed (policy key) (codes "/policies/{policyId}")
policy_route key is =
    routed (policy key) _ (policy_bytes key is)
    (ap (λ id. route.routed (codes "/policies/" ++ id)) (policy_letters key) ∙ route.at_policy (policy_tail key) (without_slash (112 ∷ policy_tail key) (policy_piece key is.0 is.1)))

pub policy_run_route : (key : PolicyKey) → IsPolicy key → Routed (policy key ++ codes "/run") (codes "/policies/{policyId}/run")
policy_run_route key is =
    routed (policy key ++ codes "/run") _ (longer_bytes (policy key) (codes "/run") (policy_bytes key is) refl)
    (ap (λ id. route.routed (codes "/policies/" ++ (id ++ codes "/run"))) (policy_letters key) ∙ route.at_policy_run (policy_tail key) (without_slash (112 ∷ policy_tail key) (policy_piece key is.0 is.1)))

pub binned_route : (key : SnapKey) → IsSnapshot key → Routed (codes "/recycle-bin/" ++ snap_id key) (codes "/recycle-bin/{snapshotId}")
binned_route key is =
    routed (codes "/recycle-bin/" ++ snap_id key) _ (piece_in_path (snap_id key) (snap_id_piece key is))
    (ap (λ id. route.routed (codes "/recycle-bin/" ++ id)) (snap_letters key) ∙ route.at_binned (snap_tail key) (without_slash (115 ∷ snap_tail key) (snap_piece key is.0 is.1)))

-- the digits of an index
not_token : (d : ℕ) (ds : List ℕ) → list_all is_piece_byte (d ∷ ds) ≡ true → (256 == d) ≡ false
not_token d ds h = elim (cases_Bool (is_piece_byte d)) [
  | inl passes ↦ let low : d < 128 = grind (arith, nat_tests) in ne_eqb 256 d (λ e. omega arith)
  | inr fails ↦ let no : false ≡ true = rw fails at h in cc
]

snapshot_block_digits : (key : SnapKey) (digits : List ℕ) → IsSnapshot key → 0 < length digits → list_all is_piece_byte digits ≡ true
    → route.routed (snapshot key ++ (codes "/blocks/" ++ digits)) ≡ Some (codes "/snapshots/{snapshotId}/blocks/{blockIndex}")
snapshot_block_digits key [] is some h = absurd (omega arith)
snapshot_block_digits key (d ∷ ds) is some h =
    ap (λ id. route.routed (codes "/snapshots/" ++ (id ++ (codes "/blocks/" ++ d ∷ ds)))) (snap_letters key)
    ∙ route.at_block (snap_tail key) d ds (without_slash (115 ∷ snap_tail key) (snap_piece key is.0 is.1)) (without_slash (d ∷ ds) h) (not_token d ds h)

volume_block_digits : (key : VolKey) (digits : List ℕ) → IsVolume key → 0 < length digits → list_all is_piece_byte digits ≡ true
    → route.routed (volume key ++ (codes "/blocks/" ++ digits)) ≡ Some (codes "/volumes/{volumeId}/blocks/{blockIndex}")
volume_block_digits key [] is some h = absurd (omega arith)
volume_block_digits key (d ∷ ds) is some h =
    ap (λ id. route.routed (codes "/volumes/" ++ (id ++ (codes "/blocks/" ++ d ∷ ds)))) (vol_letters key)
    ∙ route.at_volume_block (vol_tail key) d ds (without_slash (118 ∷ vol_tail key) (vol_piece key is.0 is.1)) (without_slash (d ∷ ds) h) (not_token d ds h)

pub block_route : (key : SnapKey) (index : ℕ) → IsSnapshot key → index < 10 ^ 10 → Routed (block (snapshot key) index) (codes "/snapshots/{snapshotId}/blocks/{blockIndex}")
block_route key index is small =
    routed (block (snapshot key) index) _ (block_bytes (snapshot key) index (snapshot_bytes key is) small)
    (snapshot_block_digits key (decimal index) is (decimal_nonempty index (omega arith)) (number_piece index small))

pub volume_block_route : (key : VolKey) (index : ℕ) → IsVolume key → index < 10 ^ 10 → Routed (block (volume key) index) (codes "/volumes/{volumeId}/blocks/{blockIndex}")
volume_block_route key index is small =
    routed (block (volume key) index) _ (block_bytes (volume key) index (volume_bytes key is) small)
    (volume_block_digits key (decimal index) is (decimal_nonempty index (omega arith)) (number_piece index small))

-- the members of a path: what stands where the route has their names
abbrev split : List ℕ → List (List ℕ)
split path = slice_split (λ b. b == 47) path

last_piece : (piece : List ℕ) → list_all is_piece_byte piece ≡ true → split piece ≡ piece ∷ []
last_piece piece h = slice_split_none (λ b. b == 47) piece (all_in_piece piece h)

first_piece : (piece rest : List ℕ) → list_all is_piece_byte piece ≡ true → split (piece ++ 47 ∷ rest) ≡ piece ∷ split rest
first_piece piece rest h = slice_split_at (λ b. b == 47) piece 47 rest (all_in_piece piece h) refl

abbrev taken : List ℕ → List ℕ → List (List ℕ) → Option Given
taken name path pieces = option_map given_text (option_map (λ p. p.1) (find (λ p. is_place name p.0) (zip (parts path) pieces)))

snapshot_parts : (key : SnapKey) → IsSnapshot key → parts (snapshot key) ≡ [] ∷ codes "snapshots" ∷ snap_id key ∷ []
snapshot_parts key is = ap (λ pieces. [] ∷ codes "snapshots" ∷ pieces) (last_piece (snap_id key) (snap_id_piece key is))

volume_parts : (key : VolKey) → IsVolume key → parts (volume key) ≡ [] ∷ codes "volumes" ∷ vol_id key ∷ []
volume_parts key is = ap (λ pieces. [] ∷ codes "volumes" ∷ pieces) (last_piece (vol_id key) (vol_id_piece key is))

completion_parts : (key : SnapKey) → IsSnapshot key → parts (codes "/snapshots/completion/" ++ snap_id key) ≡ [] ∷ codes "snapshots" ∷ codes "completion" ∷ snap_id key ∷ []
completion_parts key is = ap (λ pieces. [] ∷ codes "snapshots" ∷ codes "completion" ∷ pieces) (last_piece (snap_id key) (snap_id_piece key is))

lock_parts : (key : SnapKey) → IsSnapshot key → parts (snapshot key ++ codes "/lock") ≡ [] ∷ codes "snapshots" ∷ snap_id key ∷ codes "lock" ∷ []
lock_parts key is = ap (λ pieces. [] ∷ codes "snapshots" ∷ pieces) (first_piece (snap_id key) (codes "lock") (snap_id_piece key is))

blocks_parts : (key : SnapKey) → IsSnapshot key → parts (snapshot key ++ codes "/blocks") ≡ [] ∷ codes "snapshots" ∷ snap_id key ∷ codes "blocks" ∷ []
blocks_parts key is = ap (λ pieces. [] ∷ codes "snapshots" ∷ pieces) (first_piece (snap_id key) (codes "blocks") (snap_id_piece key is))

changes_parts : (key : SnapKey) → IsSnapshot key → parts (snapshot key ++ codes "/changedblocks") ≡ [] ∷ codes "snapshots" ∷ snap_id key ∷ codes "changedblocks" ∷ []
changes_parts key is = ap (λ pieces. [] ∷ codes "snapshots" ∷ pieces) (first_piece (snap_id key) (codes "changedblocks") (snap_id_piece key is))

block_parts : (id : List ℕ) (index : ℕ) → list_all is_piece_byte id ≡ true → index < 10 ^ 10 → split (id ++ (codes "/blocks/" ++ decimal index)) ≡ id ∷ codes "blocks" ∷ decimal index ∷ []
block_parts id index h small =
    first_piece id (codes "blocks/" ++ decimal index) h ∙ ap (λ pieces. id ∷ codes "blocks" ∷ pieces) (last_piece (decimal index) (number_piece index small))

-- the same, found by name
abbrev Finds : List ℕ → List ℕ → List ℕ → List ℕ → Type 0
Finds path found name text = in_path found path name ≡ Some (given_text text)

pub snapshot_key : (key : SnapKey) → IsSnapshot key → Finds (snapshot key) (codes "/snapshots/{snapshotId}") (codes "snapshotId") (snap_id key)
snapshot_key key is = ap (taken (codes "snapshotId") (codes "/snapshots/{snapshotId}")) (snapshot_parts key is)

pub volume_key : (key : VolKey) → IsVolume key → Finds (volume key) (codes "/volumes/{volumeId}") (codes "volumeId") (vol_id key)
volume_key key is = ap (taken (codes "volumeId") (codes "/volumes/{volumeId}")) (volume_parts key is)

pub completion_key : (key : SnapKey) → IsSnapshot key → Finds (codes "/snapshots/completion/" ++ snap_id key) (codes "/snapshots/completion/{snapshotId}") (codes "snapshotId") (snap_id key)
completion_key key is = ap (taken (codes "snapshotId") (codes "/snapshots/completion/{snapshotId}")) (completion_parts key is)

pub lock_key : (key : SnapKey) → IsSnapshot key → Finds (snapshot key ++ codes "/lock") (codes "/snapshots/{snapshotId}/lock") (codes "snapshotId") (snap_id key)
lock_key key is = ap (taken (codes "snapshotId") (codes "/snapshots/{snapshotId}/lock")) (lock_parts key is)

pub blocks_key : (key : SnapKey) → IsSnapshot key → Finds (snapshot key ++ codes "/blocks") (codes "/snapshots/{snapshotId}/blocks") (codes "snapshotId") (snap_id key)
blocks_key key is = ap (taken (codes "snapshotId") (codes "/snapshots/{snapshotId}/blocks")) (blocks_parts key is)

pub changes_key : (key : SnapKey) → IsSnapshot key → Finds (snapshot key ++ codes "/changedblocks") (codes "/snapshots/{secondSnapshotId}/changedblocks") (codes "secondSnapshotId") (snap_id key)
changes_key key is = ap (taken (codes "secondSnapshotId") (codes "/snapshots/{secondSnapshotId}/changedblocks")) (changes_parts key is)

tier_parts : (key : SnapKey) → IsSnapshot key → parts (snapshot key ++ codes "/tier") ≡ [] ∷ codes "snapshots" ∷ snap_id key ∷ codes "tier" ∷ []
tier_parts key is = ap (λ pieces. [] ∷ codes "snapshots" ∷ pieces) (first_piece (snap_id key) (codes "tier") (snap_id_piece key is))

restore_parts : (key : SnapKey) → IsSnapshot key → parts (snapshot key ++ codes "/restore-tier") ≡ [] ∷ codes "snapshots" ∷ snap_id key ∷ codes "restore-tier" ∷ []
restore_parts key is = ap (λ pieces. [] ∷ codes "snapshots" ∷ pieces) (first_piece (snap_id key) (codes "restore-tier") (snap_id_piece key is))

pub tier_key : (key : SnapKey) → IsSnapshot key → Finds (snapshot key ++ codes "/tier") (codes "/snapshots/{snapshotId}/tier") (codes "snapshotId") (snap_id key)
tier_key key is = ap (taken (codes "snapshotId") (codes "/snapshots/{snapshotId}/tier")) (tier_parts key is)

pub restore_key : (key : SnapKey) → IsSnapshot key → Finds (snapshot key ++ codes "/restore-tier") (codes "/snapshots/{snapshotId}/restore-tier") (codes "snapshotId") (snap_id key)
restore_key key is = ap (taken (codes "snapshotId") (codes "/snapshots/{snapshotId}/restore-tier")) (restore_parts key is)

permission_parts : (key : SnapKey) → IsSnapshot key → parts (snapshot key ++ codes "/permission") ≡ [] ∷ codes "snapshots" ∷ snap_id key ∷ codes "permission" ∷ []
permission_parts key is = ap (λ pieces. [] ∷ codes "snapshots" ∷ pieces) (first_piece (snap_id key) (codes "permission") (snap_id_piece key is))

pub permission_key : (key : SnapKey) → IsSnapshot key → Finds (snapshot key ++ codes "/permission") (codes "/snapshots/{snapshotId}/permission") (codes "snapshotId") (snap_id key)
permission_key key is = ap (taken (codes "snapshotId") (codes "/snapshots/{snapshotId}/permission")) (permission_parts key is)

volume_snapshots_parts : (key : VolKey) → IsVolume key → parts (volume key ++ codes "/snapshots") ≡ [] ∷ codes "volumes" ∷ vol_id key ∷ codes "snapshots" ∷ []
volume_snapshots_parts key is = ap (λ pieces. [] ∷ codes "volumes" ∷ pieces) (first_piece (vol_id key) (codes "snapshots") (vol_id_piece key is))

pub volume_snapshots_key : (key : VolKey) → IsVolume key → Finds (volume key ++ codes "/snapshots") (codes "/volumes/{volumeId}/snapshots") (codes "volumeId") (vol_id key)
volume_snapshots_key key is = ap (taken (codes "volumeId") (codes "/volumes/{volumeId}/snapshots")) (volume_snapshots_parts key is)

pub block_key : (key : SnapKey) (index : ℕ) → IsSnapshot key → index < 10 ^ 10
    → Finds (block (snapshot key) index) (codes "/snapshots/{snapshotId}/blocks/{blockIndex}") (codes "snapshotId") (snap_id key)
block_key key index is small =
    ap (λ pieces. taken (codes "snapshotId") (codes "/snapshots/{snapshotId}/blocks/{blockIndex}") ([] ∷ codes "snapshots" ∷ pieces)) (block_parts (snap_id key) index (snap_id_piece key is) small)

pub block_index : (key : SnapKey) (index : ℕ) → IsSnapshot key → index < 10 ^ 10
    → Finds (block (snapshot key) index) (codes "/snapshots/{snapshotId}/blocks/{blockIndex}") (codes "blockIndex") (decimal index)
block_index key index is small =
    ap (λ pieces. taken (codes "blockIndex") (codes "/snapshots/{snapshotId}/blocks/{blockIndex}") ([] ∷ codes "snapshots" ∷ pieces)) (block_parts (snap_id key) index (snap_id_piece key is) small)

pub volume_block_key : (key : VolKey) (index : ℕ) → IsVolume key → index < 10 ^ 10
    → Finds (block (volume key) index) (codes "/volumes/{volumeId}/blocks/{blockIndex}") (codes "volumeId") (vol_id key)
volume_block_key key index is small =
    ap (λ pieces. taken (codes "volumeId") (codes "/volumes/{volumeId}/blocks/{blockIndex}") ([] ∷ codes "volumes" ∷ pieces)) (block_parts (vol_id key) index (vol_id_piece key is) small)

pub volume_block_index : (key : VolKey) (index : ℕ) → IsVolume key → index < 10 ^ 10
    → Finds (block (volume key) index) (codes "/volumes/{volumeId}/blocks/{blockIndex}") (codes "blockIndex") (decimal index)
volume_block_index key index is small =
    ap (λ pieces. taken (codes "blockIndex") (codes "/volumes/{volumeId}/blocks/{blockIndex}") ([] ∷ codes "volumes" ∷ pieces)) (block_parts (vol_id key) index (vol_id_piece key is) small)

rule_parts : (key : RuleKey) → IsRule key → parts (rule key) ≡ [] ∷ codes "rules" ∷ rule_id key ∷ []
rule_parts key is = ap (λ pieces. [] ∷ codes "rules" ∷ pieces) (last_piece (rule_id key) (rule_id_piece key is))

rule_lock_parts : (key : RuleKey) → IsRule key → parts (rule key ++ codes "/lock") ≡ [] ∷ codes "rules" ∷ rule_id key ∷ codes "lock" ∷ []
rule_lock_parts key is = ap (λ pieces. [] ∷ codes "rules" ∷ pieces) (first_piece (rule_id key) (codes "lock") (rule_id_piece key is))

rule_unlock_parts : (key : RuleKey) → IsRule key → parts (rule key ++ codes "/unlock") ≡ [] ∷ codes "rules" ∷ rule_id key ∷ codes "unlock" ∷ []
rule_unlock_parts key is = ap (λ pieces. [] ∷ codes "rules" ∷ pieces) (first_piece (rule_id key) (codes "unlock") (rule_id_piece key is))

policy_parts : (key : PolicyKey) → IsPolicy key → parts (policy key) ≡ [] ∷ codes "policies" ∷ policy_id key ∷ []
policy_parts key is = ap (λ pieces. [] ∷ codes "policies" ∷ pieces) (last_piece (policy_id key) (policy_id_piece key is))

policy_run_parts : (key : PolicyKey) → IsPolicy key → parts (policy key ++ codes "/run") ≡ [] ∷ codes "policies" ∷ policy_id key ∷ codes "run" ∷ []
policy_run_parts key is = ap (λ pieces. [] ∷ codes "policies" ∷ pieces) (first_piece (policy_id key) (codes "run") (policy_id_piece key is))

binned_parts : (key : SnapKey) → IsSnapshot key → parts (codes "/recycle-bin/" ++ snap_id key) ≡ [] ∷ codes "recycle-bin" ∷ snap_id key ∷ []
binned_parts key is = ap (λ pieces. [] ∷ codes "recycle-bin" ∷ pieces) (last_piece (snap_id key) (snap_id_piece key is))

pub rule_key : (key : RuleKey) → IsRule key → Finds (rule key) (codes "/rules/{identifier}") (codes "identifier") (rule_id key)
rule_key key is = ap (taken (codes "identifier") (codes "/rules/{identifier}")) (rule_parts key is)

pub rule_lock_key : (key : RuleKey) → IsRule key → Finds (rule key ++ codes "/lock") (codes "/rules/{identifier}/lock") (codes "identifier") (rule_id key)
rule_lock_key key is = ap (taken (codes "identifier") (codes "/rules/{identifier}/lock")) (rule_lock_parts key is)

pub rule_unlock_key : (key : RuleKey) → IsRule key → Finds (rule key ++ codes "/unlock") (codes "/rules/{identifier}/unlock") (codes "identifier") (rule_id key)
rule_unlock_key key is = ap (taken (codes "identifier") (codes "/rules/{identifier}/unlock")) (rule_unlock_parts key is)

pub policy_key : (key : PolicyKey) → IsPolicy key → Finds (policy key) (codes "/policies/{policyId}") (codes "policyId") (policy_id key)
policy_key key is = ap (taken (codes "policyId") (codes "/policies/{policyId}")) (policy_parts key is)

pub policy_run_key : (key : PolicyKey) → IsPolicy key → Finds (policy key ++ codes "/run") (codes "/policies/{policyId}/run") (codes "policyId") (policy_id key)
policy_run_key key is = ap (taken (codes "policyId") (codes "/policies/{policyId}/run")) (policy_run_parts key is)

pub binned_key : (key : SnapKey) → IsSnapshot key → Finds (codes "/recycle-bin/" ++ snap_id key) (codes "/recycle-bin/{snapshotId}") (codes "snapshotId") (snap_id key)
binned_key key is = ap (taken (codes "snapshotId") (codes "/recycle-bin/{snapshotId}")) (binned_parts key is)
