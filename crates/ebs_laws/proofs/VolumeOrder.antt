-- In which order the tests of calls on volumes refuse them.
use Rattle.std.proofs.Common.{◌≡◌, ℕ, ◌^◌, Bool, true, false, not, ◌&&◌, ◌||◌, ◌==◌, is_some, unwrap_or, nat_le, nat_lt, List, [], ◌∷◌, ◌++◌, codes, Option, Some, None, Result, Ok, sym, ap, ◌∙◌, refl, ◌*◌, length, nat_eq}
use Rattle.std.specs.FinMap as fin
use Rattle.ebs_model.specs.declared.keys.SnapKey.{SnapKey}
use Rattle.ebs_model.specs.declared.keys.VolKey.{VolKey}
use Rattle.ebs_model.specs.declared.tags.Tag.{Tag}
use Rattle.ebs_model.specs.declared.rows.Own.{Own}
use Rattle.ebs_model.specs.declared.rows.VolRow.{VolRow}
use Rattle.ebs_model.specs.declared.rows.TokenRow.{TokenRow}
use Rattle.ebs_model.specs.declared.request.Request.TheVariants.{CreateVolume, DescribeVolume, DeleteVolume, CreateSnapshot, ReadVolumeBlock, WriteVolumeBlock}
use Rattle.ebs_model.specs.declared.answer.Answer.TheVariants.{VolumeShown, Done, BlockWritten}
use Rattle.ebs_model.specs.declared.answer.Kind.TheVariants.{Snapshot as snapshot, Volume as volume}
use Rattle.ebs_model.specs.declared.answer.StateName.TheVariants as state
use Rattle.ebs_model.specs.declared.answer.QuotaName.TheVariants.{Volumes, ClientTokens, Ids, Snapshots}
use Rattle.ebs_model.specs.declared.answer.Spent.TheVariants.{Changes}
use Rattle.ebs_model.specs.declared.answer.Refusal.{Refusal}
use Rattle.ebs_model.specs.declared.answer.Refusal.TheVariants.{BadParameter, BadSize, TokenConflict, WrongState, NotFound, Quota, Exhausted, BadIndex, Checksum}
use Rattle.ebs_model.specs.Quotas.{most_volumes, most_tokens, most_ids, most_kept}
use Rattle.ebs_model.specs.Refuse.{◌>>=◌, ◌>>◌, refuse_if, some_or}
use Rattle.ebs_model.specs.Limits.{unless, are_tags, is_token_given, is_size_given, is_sized, is_description}
use Rattle.ebs_model.specs.Time.{Snapshot}
use Rattle.ebs_model.specs.Access.{ready, base, is_temporary}
use Rattle.ebs_model.specs.Rows.{no_own, volume_count, token_count, kept_count, the_volume}
use Rattle.ebs_model.specs.Machine.{Machine, advance, is_spent, rows_of, disk_of}
use Rattle.ebs_model.specs.Calls.Start.{has_token, first_key}
use Rattle.ebs_model.specs.Calls.Volume.{is_same_create}
use Rattle.ebs_laws.specs.Words.{moment_at, use_of, volume_number_in}
use Rattle.ebs_laws.specs.OrderLaws.{Tests, first_of, reader_tests, is_restored}
use Rattle.ebs_laws.specs.VolumeOrders.{volume_room_tests, origin_tests, begun_tests, creation_tests, is_sized_within, create_tests, CreateIsRefusedInOrder, volume_tests, DescribeVolumeIsRefusedInOrder, DeleteVolumeIsRefusedInOrder, CreateSnapshotIsRefusedInOrder, ReadIsRefusedInOrder, WriteIsRefusedInOrder, snapshot_room_tests, index_tests, snapshot_tests, write_tests}
use Rattle.ebs_laws.proofs.Cases.{Outcome}
use Rattle.ebs_laws.proofs.Ordered.{refusal_in, one, bad, more, reader-order, change_test, spent, refused-so}
use Rattle.ebs_laws.proofs.StartOrder.{restored-same, last, moved, never_below_nothing}
use Rattle.ebs_laws.proofs.Whole as whole
use Rattle.ebs_laws.proofs.Whole.{Origin, of_snapshot, of_no_origin, volume_origin, next_volume, volume_row, created, dropped, by_use, own_of, written, snapped, says_snapped}
use Rattle.ebs_model.specs.Calls.Disk.{block_or_zeros}
use Rattle.sha2.specs.Sha256.{sha256}
use Rattle.std.specs.Cmp.Lexicographic.{pointwise}
use Rattle.ebs_laws.proofs.Rooms.{kept-own}
use Rattle.ebs_laws.proofs.Begun.{numbered}

-- the next number, as the machine says it
pub volume-numbered : (o : Option Own) → volume_number_in o ≡ (unwrap_or o no_own).next_vol
volume-numbered None = refl
volume-numbered (Some own) = refl

reaches_nothing : (size : Option ℕ) → nat_lt (unwrap_or size 0) 0 ≡ false
reaches_nothing size = never_below_nothing (unwrap_or size 0)

size-within : (size : Option ℕ) → is_size_given size ≡ is_sized_within size
size-within None = refl
size-within (Some size) = refl

either-given : (from : Option SnapKey) (size : Option ℕ) → is_sized from size ≡ (is_some from || is_some size)
either-given None None = refl
either-given None (Some size) = refl
either-given (Some from) size = refl

module _ (at : Machine) (account : ℕ) (from : Option SnapKey) (size : Option ℕ) (tags : List Tag) (token : Option (List ℕ)) where
  abbrev given : VolKey
  given = next_volume at account

  abbrev done : Origin → Outcome
  done begun = (created at given (volume_row given (unwrap_or size begun.size) begun.line from tags) begun.array token, VolumeShown true (unwrap_or size begun.size) from tags given)

  abbrev numbers : Origin → Result Outcome Refusal
  numbers begun = refuse_if (nat_le most_ids given.number) (Quota Ids most_ids) >> (refuse_if (is_spent at) (Exhausted Changes) >> Ok (done begun))

  abbrev is_full : Option (List ℕ) → Bool
  is_full token = has_token token && nat_le most_tokens (token_count (rows_of at) account)

  full-is : (token : Option (List ℕ)) → is_full token ≡ (is_some token && nat_le most_tokens (token_count (rows_of at) account))
  full-is None = refl
  full-is (Some text) = refl

  abbrev uses : Origin → Result Outcome Refusal
  uses begun = refuse_if (is_full token) (Quota ClientTokens most_tokens) >> numbers begun

  abbrev rooms : Origin → Result Outcome Refusal
  rooms begun = refuse_if (nat_le most_volumes (volume_count (rows_of at) account)) (Quota Volumes most_volumes) >> uses begun

  abbrev rest : Origin → Result Outcome Refusal
  rest begun = refuse_if (nat_lt (unwrap_or size begun.size) begun.size) BadSize >> rooms begun

  room-order : (begun : Origin) → refusal_in (rooms begun) ≡ first_of (volume_room_tests at account token)
  room-order begun =
      one (nat_le most_volumes (volume_count (rows_of at) account)) (Quota Volumes most_volumes) (uses begun) ((is_full token, Quota ClientTokens most_tokens) ∷ (nat_le most_ids given.number, Quota Ids most_ids) ∷ change_test at account)
      (one (is_full token) (Quota ClientTokens most_tokens) (numbers begun) ((nat_le most_ids given.number, Quota Ids most_ids) ∷ change_test at account)
      (one (nat_le most_ids given.number) (Quota Ids most_ids) (refuse_if (is_spent at) (Exhausted Changes) >> Ok (done begun)) (change_test at account) (spent at account (done begun))))
      ∙ (λ i. first_of (
      (nat_le most_volumes (volume_count (rows_of at) account), Quota Volumes most_volumes)
      ∷ (full-is token i, Quota ClientTokens most_tokens)
      ∷ (nat_le most_ids (sym (volume-numbered (fin.get at.own account)) i), Quota Ids most_ids)
      ∷ change_test at account))

  base-order : (key : SnapKey) (s : Snapshot) → refusal_in (base account key at.clock.second s.row) ≡ first_of (reader_tests account key at.clock.second s.row ++ ((is_restored s.row.tier, WrongState state.Temporary) ∷ []))
  base-order key s = more (ready account key at.clock.second s.row) (refuse_if (is_temporary s.row.tier) (WrongState state.Temporary)) (reader_tests account key at.clock.second s.row) ((is_restored s.row.tier, WrongState state.Temporary) ∷ [])
      (reader-order account key at.clock.second s.row)
      (last (is_temporary s.row.tier) (WrongState state.Temporary) ∙ ap (λ b. first_of ((b, WrongState state.Temporary) ∷ [])) (restored-same s.row.tier))

  found-order : (key : SnapKey) (o : Option Snapshot) → refusal_in (((some_or o (NotFound snapshot) >>= λ s. base account key at.clock.second s.row >> Ok s) >>= λ s. Ok (of_snapshot s)) >>= rest) ≡ first_of (origin_tests at account token size key o)
  found-order key None = refl
  found-order key (Some s) =
      ap refusal_in (moved (base account key at.clock.second s.row) s rest)
      ∙ more (base account key at.clock.second s.row) (rest (of_snapshot s)) (reader_tests account key at.clock.second s.row ++ ((is_restored s.row.tier, WrongState state.Temporary) ∷ [])) ((nat_lt (unwrap_or size s.row.size) s.row.size, BadSize) ∷ volume_room_tests at account token)
      (base-order key s)
      (one (nat_lt (unwrap_or size s.row.size) s.row.size) BadSize (rooms (of_snapshot s)) (volume_room_tests at account token) (room-order (of_snapshot s)))

  begun-order : (origin : Option SnapKey) → refusal_in (volume_origin at account given origin >>= rest) ≡ first_of (begun_tests at account token size origin)
  begun-order None = ap (λ b. refusal_in (refuse_if b BadSize >> rooms (of_no_origin given))) (reaches_nothing size) ∙ room-order (of_no_origin given)
  begun-order (Some key) = found-order key (fin.get at.snaps key)

  conflict : (row : TokenRow) → refusal_in (whole.create_again at account from size tags row) ≡ first_of ((not (is_same_create row.first from size tags), TokenConflict (first_key account row)) ∷ [])
  conflict row = one (not (is_same_create row.first from size tags)) (TokenConflict (first_key account row)) _ [] refl

  use-order : (o : Option TokenRow) → refusal_in (by_use o (whole.create_again at account from size tags) (whole.create_fresh at account from size tags token)) ≡ first_of (creation_tests at account from size tags token o)
  use-order None = begun-order from
  use-order (Some row) = conflict row

  create-order : refusal_in (whole.call at account (CreateVolume from size tags token)) ≡ first_of (create_tests at account from size tags token)
  create-order =
      let all = whole.create at account from size tags token in
      let used : Tests = creation_tests at account from size tags token (use_of at account token) in
      let sized : Tests = (not (is_size_given size), BadSize) ∷ used in
      let named : Tests = (not (is_token_given token), BadParameter (codes "ClientToken")) ∷ sized in
      let tagged : Tests = (not (are_tags tags), BadParameter (codes "Tags")) ∷ named in
      let bad_token : Option (List ℕ) = unless (is_token_given token) (codes "ClientToken") None in
      bad (is_sized from size) (codes "Size") (unless (are_tags tags) (codes "Tags") bad_token) all tagged
      (bad (are_tags tags) (codes "Tags") bad_token all named
      (bad (is_token_given token) (codes "ClientToken") None all sized
      (one (not (is_size_given size)) BadSize (by_use (use_of at account token) (whole.create_again at account from size tags) (whole.create_fresh at account from size tags token)) used (use-order (use_of at account token)))))
      ∙ (λ i. first_of (
      (not (either-given from size i), BadParameter (codes "Size"))
      ∷ (not (are_tags tags), BadParameter (codes "Tags"))
      ∷ (not (is_token_given token), BadParameter (codes "ClientToken"))
      ∷ (not (size-within size i), BadSize)
      ∷ used))

pub create-refused : CreateIsRefusedInOrder
create-refused m account reading from size tags token =
    let at = advance m (moment_at m reading) in
    refused-so at account (CreateVolume from size tags token) (create_tests at account from size tags token) (create-order at account from size tags token)

module _ (at : Machine) (account : ℕ) (key : VolKey) where
  -- the account's volume, and what follows
  volume-order : (b : Bool) (o : Option VolRow) (next : VolRow → Result Outcome Refusal) (tests : Tests) → ((row : VolRow) → refusal_in (next row) ≡ first_of tests)
      → refusal_in ((refuse_if (not b) (NotFound volume) >> some_or o (NotFound volume)) >>= next) ≡ first_of (((not b, NotFound volume) ∷ (not (is_some o), NotFound volume) ∷ []) ++ tests)
  volume-order true None next tests h = refl
  volume-order true (Some row) next tests h = h row
  volume-order false o next tests h = refl

  describe-order : refusal_in (whole.call at account (DescribeVolume key)) ≡ first_of (volume_tests account key (fin.get at.vols key))
  describe-order = volume-order (account == key.account) (fin.get at.vols key) (λ row. Ok (at, VolumeShown false row.size row.origin row.tags key)) [] (λ row. refl)

  drop-order : refusal_in (whole.call at account (DeleteVolume key)) ≡ first_of (volume_tests account key (fin.get at.vols key) ++ ((nat_le (2 ^ 40) at.changes, Exhausted Changes) ∷ []))
  drop-order = volume-order (account == key.account) (fin.get at.vols key) (λ row. refuse_if (is_spent at) (Exhausted Changes) >> Ok (dropped at key, Done)) ((nat_le (2 ^ 40) at.changes, Exhausted Changes) ∷ []) (λ row. spent at account (dropped at key, Done))

  -- the volume, an index within its size, and what follows
  index-order : (o : Option VolRow) (index : ℕ) (next : Result Outcome Refusal) (tests : Tests) → refusal_in next ≡ first_of tests
      → refusal_in ((refuse_if (not (account == key.account)) (NotFound volume) >> some_or o (NotFound volume)) >>= λ row. refuse_if (nat_le (2048 * row.size) index) BadIndex >> next) ≡ first_of (index_tests account key index o ++ tests)
  index-order None index next tests h = at_none (account == key.account)
    where
      at_none : (b : Bool) → refusal_in ((refuse_if (not b) (NotFound volume) >> some_or None (NotFound volume)) >>= λ (row : VolRow). refuse_if (nat_le (2048 * row.size) index) BadIndex >> next) ≡ first_of ((not b, NotFound volume) ∷ (true, NotFound volume) ∷ tests)
      at_none true = refl
      at_none false = refl
  index-order (Some row) index next tests h = at_some (account == key.account)
    where
      at_some : (b : Bool) → refusal_in ((refuse_if (not b) (NotFound volume) >> some_or (Some row) (NotFound volume)) >>= λ (row : VolRow). refuse_if (nat_le (2048 * row.size) index) BadIndex >> next) ≡ first_of ((not b, NotFound volume) ∷ (false, NotFound volume) ∷ (nat_le (2048 * row.size) index, BadIndex) ∷ tests)
      at_some true = one (nat_le (2048 * row.size) index) BadIndex next tests h
      at_some false = refl

  fetch-order : (index : ℕ) → refusal_in (whole.call at account (ReadVolumeBlock key index)) ≡ first_of ((not (nat_lt index (10 ^ 10)), BadParameter (codes "blockIndex")) ∷ index_tests account key index (fin.get at.vols key))
  fetch-order index = bad (nat_lt index (10 ^ 10)) (codes "blockIndex") None (whole.fetch sha256 at account key index) (index_tests account key index (fin.get at.vols key)) (by (fin.get at.vols key))
    where
      by : (o : Option VolRow) → refusal_in {A = Outcome} ((refuse_if (not (account == key.account)) (NotFound volume) >> some_or o (NotFound volume)) >>= λ row. refuse_if (nat_le (2048 * row.size) index) BadIndex >> Ok (at, block_or_zeros sha256 (fin.get (disk_of at key) index))) ≡ first_of (index_tests account key index o)
      by None = index-order None index (Ok (at, block_or_zeros sha256 (fin.get (disk_of at key) index))) [] refl
      by (Some row) = index-order (Some row) index (Ok (at, block_or_zeros sha256 (fin.get (disk_of at key) index))) [] refl

  write-order : (index : ℕ) (digest bytes : List ℕ) → refusal_in (whole.call at account (WriteVolumeBlock key index digest bytes)) ≡ first_of (write_tests at account key index digest bytes)
  write-order index digest bytes =
      let tests : Tests = index_tests account key index (fin.get at.vols key) ++ change_test at account in
      let rest : Result Outcome Refusal = refuse_if (is_spent at) (Exhausted Changes) >> Ok (written at key index bytes, BlockWritten digest) in
      let found = the_volume (rows_of at) account key >>= λ row. refuse_if (nat_le (2048 * row.size) index) BadIndex >> rest in
      let digest_tests : Tests = (not (pointwise nat_eq digest (sha256 bytes)), Checksum digest (sha256 bytes)) ∷ tests in
      let all = refuse_if (not (pointwise nat_eq digest (sha256 bytes))) (Checksum digest (sha256 bytes)) >> found in
      bad (nat_lt index (10 ^ 10)) (codes "blockIndex") (unless (length bytes == 524288) (codes "body") None) all ((not (length bytes == 524288), BadParameter (codes "body")) ∷ digest_tests)
      (bad (length bytes == 524288) (codes "body") None all digest_tests
      (one (not (pointwise nat_eq digest (sha256 bytes))) (Checksum digest (sha256 bytes)) found tests
      (index-order (fin.get at.vols key) index rest (change_test at account) (spent at account (written at key index bytes, BlockWritten digest)))))

  abbrev snap_ids : VolRow → Option (List ℕ) → List Tag → Result Outcome Refusal
  snap_ids row text tags = refuse_if (nat_le most_ids (own_of at account).next_snap) (Quota Ids most_ids) >> (refuse_if (is_spent at) (Exhausted Changes) >> Ok (snapped at account key row text tags, says_snapped at account key row text tags))

  abbrev snap_rest : VolRow → Option (List ℕ) → List Tag → Result Outcome Refusal
  snap_rest row text tags = refuse_if (nat_le most_kept (kept_count (rows_of at) account)) (Quota Snapshots most_kept) >> snap_ids row text tags

  snap-room : (row : VolRow) (text : Option (List ℕ)) (tags : List Tag) → refusal_in (snap_rest row text tags) ≡ first_of (snapshot_room_tests at account)
  snap-room row text tags =
      one (nat_le most_kept (kept_count (rows_of at) account)) (Quota Snapshots most_kept) (snap_ids row text tags) ((nat_le most_ids (own_of at account).next_snap, Quota Ids most_ids) ∷ change_test at account)
      (one (nat_le most_ids (own_of at account).next_snap) (Quota Ids most_ids) (refuse_if (is_spent at) (Exhausted Changes) >> Ok (snapped at account key row text tags, says_snapped at account key row text tags)) (change_test at account)
      (spent at account (snapped at account key row text tags, says_snapped at account key row text tags)))
      ∙ (λ i. first_of (
      (nat_le most_kept (kept-own at account i), Quota Snapshots most_kept)
      ∷ (nat_le most_ids (sym (numbered (fin.get at.own account)) i), Quota Ids most_ids)
      ∷ change_test at account))

  snap-order : (text : Option (List ℕ)) (tags : List Tag) → refusal_in (whole.call at account (CreateSnapshot key text tags)) ≡ first_of (snapshot_tests at account key text tags)
  snap-order text tags =
      let tests : Tests = volume_tests account key (fin.get at.vols key) ++ snapshot_room_tests at account in
      let tagged : Tests = (not (are_tags tags), BadParameter (codes "Tags")) ∷ tests in
      let all = whole.snap at account key text tags in
      bad (is_description text) (codes "Description") (unless (are_tags tags) (codes "Tags") None) all tagged
      (bad (are_tags tags) (codes "Tags") None all tests
      (volume-order (account == key.account) (fin.get at.vols key) (λ row. snap_rest row text tags) (snapshot_room_tests at account) (λ row. snap-room row text tags)))

pub snapshot-refused : CreateSnapshotIsRefusedInOrder
snapshot-refused m account reading key text tags =
    let at = advance m (moment_at m reading) in refused-so at account (CreateSnapshot key text tags) (snapshot_tests at account key text tags) (snap-order at account key text tags)

pub write-refused : WriteIsRefusedInOrder
write-refused m account reading key index digest bytes =
    let at = advance m (moment_at m reading) in refused-so at account (WriteVolumeBlock key index digest bytes) (write_tests at account key index digest bytes) (write-order at account key index digest bytes)

pub read-refused : ReadIsRefusedInOrder
read-refused m account reading key index =
    let at = advance m (moment_at m reading) in
    refused-so at account (ReadVolumeBlock key index) ((not (nat_lt index (10 ^ 10)), BadParameter (codes "blockIndex")) ∷ index_tests account key index (fin.get at.vols key)) (fetch-order at account key index)

pub describe-volume-refused : DescribeVolumeIsRefusedInOrder
describe-volume-refused m account reading key =
    let at = advance m (moment_at m reading) in refused-so at account (DescribeVolume key) (volume_tests account key (fin.get at.vols key)) (describe-order at account key)

pub drop-refused : DeleteVolumeIsRefusedInOrder
drop-refused m account reading key =
    let at = advance m (moment_at m reading) in refused-so at account (DeleteVolume key) (volume_tests account key (fin.get at.vols key) ++ ((nat_le (2 ^ 40) at.changes, Exhausted Changes) ∷ [])) (drop-order at account key)
