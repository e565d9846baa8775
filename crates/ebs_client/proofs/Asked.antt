-- Each message's call is the request that it was made of.
use Rattle.std.proofs.Common.{◌≡◌, ℕ, ◌<◌, ◌≤◌, ◌^◌, Bool, true, false, not, ◌&&◌, ◌==◌, List, [], ◌∷◌, ◌++◌, length, refl, ap, ◌∙◌, arith, codes, IfSome, IsUtf8, nat_lt, nat_le, All}
use Rattle.std.specs.declared.option.Option.{Option}
use Rattle.std.specs.declared.option.Option.TheVariants.{None, Some}
use Rattle.std.specs.declared.result.Result.TheVariants.{Ok}
use Rattle.std.specs.List.{list_all}
use Rattle.std.proofs.lemmas.Bool.{and_parts}
use Rattle.std.specs.Fmt.{decimal}
use Rattle.std.proofs.lemmas.Bool.Decides.{nat_tests}
use Rattle.std.proofs.lemmas.List.Elements.{All-nil, All-cons}
use Rattle.form_urlencoded.specs.Form.{extend_pairs}
use Rattle.ebs_http.specs.declared.headers.Header.{Header}
use Rattle.ebs_http.specs.declared.message.Message.{Message}
use Rattle.ebs_model.specs.declared.keys.SnapKey.{SnapKey}
use Rattle.ebs_model.specs.declared.keys.VolKey.{VolKey}
use Rattle.ebs_model.specs.declared.request.Request.{Request}
use Rattle.ebs_model.specs.declared.answer.Refusal.TheVariants.{NoSuchCall}
use Rattle.ebs_model.specs.Ids.{decimal_of_width, snap_id}
use Rattle.ebs_model.specs.Limits.{unless, has_ten_digits, is_page_size, bad_list, bad_rows, bad_member, are_accounts, are_apart, is_term, is_cool_off, is_restore, is_description, are_tags, is_sized, is_token_given, is_timeout}
use Rattle.ebs_model.specs.declared.lock.LockMode.{LockMode}
use Rattle.ebs_model.specs.declared.lock.LockMode.TheVariants.{Governance, Compliance}
use Rattle.ebs_model.specs.declared.lock.Term.{Term}
use Rattle.ebs_model.specs.declared.lock.Term.TheVariants.{Days, Date}
use Rattle.serde_json.specs.Data.{Data, object}
use Rattle.ebs_model.specs.Quotas.{block_size}
use Rattle.std.specs.Str.{bytes_eq}
use Rattle.ebs_members.specs.Sources.{required, optional, path_of, query_of, pairs_of, in_path, in_query, in_fields, in_body, body_of}
use Rattle.ebs_model.specs.Refuse.{◌>>=◌, some_or}
use Rattle.ebs_model.proofs.ReaderLaws.{account_whole}
use Rattle.ebs_rest.specs.declared.table.Operation.{Operation}
use Rattle.ebs_rest.specs.declared.table.Operation.TheVariants as operation
use Rattle.ebs_rest.specs.CallOf.{route_of, operation_at, caller, request_of, call_from, call_of}
use Rattle.ebs_members.specs.Kinds as kind
use Rattle.ebs_rest.specs.Calls as call
use Rattle.ebs_model.specs.declared.request.Request.TheVariants.{StartSnapshot, CreateVolume, PutSnapshotBlock, CompleteSnapshot, ListSnapshotBlocks, ListChangedBlocks, GetSnapshotBlock, DescribeSnapshot, DescribeSnapshots, DeleteSnapshot, ModifyPermission, LockSnapshot, UnlockSnapshot, ArchiveSnapshot, RestoreTier, CreateSnapshot, WriteVolumeBlock, ReadVolumeBlock, DescribeVolume, DeleteVolume}
use Rattle.ebs_client.specs.Messages.{field, asking, snapshot, volume, block, with_query, rows, page, of_block, counted}
use Rattle.ebs_client.proofs.Pieces.{is_path_byte, piece_in_path, number_piece}
use Rattle.ebs_client.specs.Bodies.{text_of, archived, restored, locked, shared, described, created, started}
use Rattle.ebs_client.proofs.Bodies.{archived_body, for_good_body, days_body, lock_data, HasWidth, locked_body, lock_read, restore_read}
use Rattle.std.specs.List.{AllByRecursion}
use Rattle.ebs_model.specs.declared.tags.Tag.{Tag}
use Rattle.ebs_client.proofs.Tags.{tags_data, tags_said, described_data, described_body}
use Rattle.ebs_client.proofs.Creations.{created_data, created_body, created_read, started_data, started_body, started_read}
use Rattle.ebs_client.proofs.Choices.{shared_data, shared_body, shared_read}
use Rattle.ebs_client.specs.Reach.{IsSnapshot, IsVolume, IsDigest, IsTerm, IsChoice, HasTexts}
use Rattle.ebs_client.proofs.Texts.{Pairs, IsTextPair, plain_text, path_alone, path_before, query_behind, pairs_read}
use Rattle.ebs_client.proofs.Lines as line
use Rattle.ebs_client.proofs.Paths as path

-- the call that is read where each part is
called : (message : Message) (route : List ℕ) (of : Operation) (account : ℕ) (request : Request) → route_of (path_of message.target) ≡ Some route
    → operation_at message.method route ≡ Ok of → caller message ≡ Ok account → request_of of route message ≡ Ok request
    → call_of message ≡ Ok (record { account = account; request = request })
unfolding call_of
called message route of account request at is from asks =
    ap (λ found. some_or found NoSuchCall >>= (λ route. call_from route message)) at
    ∙ ap (λ found. found >>= (λ of. caller message >>= (λ account. request_of of route message >>= (λ request. Ok (record { account = account; request = request }))))) is
    ∙ ap (λ asked. asked >>= (λ account. request_of of route message >>= (λ request. Ok (record { account = account; request = request })))) from
    ∙ ap (λ read. read >>= (λ request. Ok (record { account = account; request = request }))) asks

named : (account : ℕ) (method target : List ℕ) (fields : List Header) (body : List ℕ) → account < 10 ^ 12 → caller (asking account method target fields body) ≡ Ok account
named account method target fields body small = rw (account_whole (decimal_of_width 12 account) account small refl) refl

abbrev pub Answers : Message → ℕ → Request → Type 0
Answers message account request = call_of message ≡ Ok (record { account = account; request = request })

-- a message whose target is a path
pub by_path : (account : ℕ) (method target route : List ℕ) (fields : List Header) (body : List ℕ) (of : Operation) (request : Request) → account < 10 ^ 12 → list_all is_path_byte target ≡ true
    → route_of target ≡ Some route → operation_at method route ≡ Ok of → request_of of route (asking account method target fields body) ≡ Ok request
    → Answers (asking account method target fields body) account request
by_path account method target route fields body of request small plain at is asks =
    called (asking account method target fields body) route of account request (ap route_of (path_alone target plain) ∙ at) is (named account method target fields body small) asks

-- and one whose target has a query
pub by_query : (account : ℕ) (method target route : List ℕ) (pairs : Pairs) (of : Operation) (request : Request) → account < 10 ^ 12 → list_all is_path_byte target ≡ true
    → route_of target ≡ Some route → operation_at method route ≡ Ok of → request_of of route (asking account method (with_query target pairs) [] []) ≡ Ok request
    → Answers (asking account method (with_query target pairs) [] []) account request
by_query account method target route pairs of request small plain at is asks =
    called (asking account method (with_query target pairs) [] []) route of account request (ap route_of (path_before target (extend_pairs [] pairs) plain) ∙ at) is
    (named account method (with_query target pairs) [] [] small) asks

pub asked_pairs : (target : List ℕ) (pairs : Pairs) → list_all is_path_byte target ≡ true → All IsTextPair pairs → pairs_of (query_of (with_query target pairs)) ≡ pairs
asked_pairs target pairs plain texts = ap pairs_of (query_behind target (extend_pairs [] pairs) plain) ∙ pairs_read pairs texts

pub describes : (account : ℕ) (key : SnapKey) → account < 10 ^ 12 → IsSnapshot key → Answers (asking account (codes "GET") (snapshot key) [] []) account (DescribeSnapshot key)
describes account key small is =
    let plain = path.snapshot_bytes key is in
    let source = in_path (codes "/snapshots/{snapshotId}") (snapshot key) in
    by_path account (codes "GET") (snapshot key) (codes "/snapshots/{snapshotId}") [] [] operation.DescribeSnapshot (DescribeSnapshot key) small plain (path.snapshot_route key is) refl
    (ap (λ p. call.describe (in_path (codes "/snapshots/{snapshotId}") p)) (path_alone (snapshot key) plain)
    ∙ line.describe_read source key (line.snapshot_there source (codes "snapshotId") key is (path.snapshot_key key is)))

pub deletes : (account : ℕ) (key : SnapKey) → account < 10 ^ 12 → IsSnapshot key → Answers (asking account (codes "DELETE") (snapshot key) [] []) account (DeleteSnapshot key)
deletes account key small is =
    let plain = path.snapshot_bytes key is in
    let source = in_path (codes "/snapshots/{snapshotId}") (snapshot key) in
    by_path account (codes "DELETE") (snapshot key) (codes "/snapshots/{snapshotId}") [] [] operation.DeleteSnapshot (DeleteSnapshot key) small plain (path.snapshot_route key is) refl
    (ap (λ p. call.delete (in_path (codes "/snapshots/{snapshotId}") p)) (path_alone (snapshot key) plain)
    ∙ line.delete_read source key (line.snapshot_there source (codes "snapshotId") key is (path.snapshot_key key is)))

pub unlocks : (account : ℕ) (key : SnapKey) → account < 10 ^ 12 → IsSnapshot key → Answers (asking account (codes "DELETE") (snapshot key ++ codes "/lock") [] []) account (UnlockSnapshot key)
unlocks account key small is =
    let plain = path.longer_bytes (snapshot key) (codes "/lock") (path.snapshot_bytes key is) refl in
    let source = in_path (codes "/snapshots/{snapshotId}/lock") (snapshot key ++ codes "/lock") in
    by_path account (codes "DELETE") (snapshot key ++ codes "/lock") (codes "/snapshots/{snapshotId}/lock") [] [] operation.UnlockSnapshot (UnlockSnapshot key) small plain (path.lock_route key is) refl
    (ap (λ p. call.unlock (in_path (codes "/snapshots/{snapshotId}/lock") p)) (path_alone (snapshot key ++ codes "/lock") plain)
    ∙ line.unlock_read source key (line.snapshot_there source (codes "snapshotId") key is (path.lock_key key is)))

pub describes_volume : (account : ℕ) (key : VolKey) → account < 10 ^ 12 → IsVolume key → Answers (asking account (codes "GET") (volume key) [] []) account (DescribeVolume key)
describes_volume account key small is =
    let plain = path.volume_bytes key is in
    let source = in_path (codes "/volumes/{volumeId}") (volume key) in
    by_path account (codes "GET") (volume key) (codes "/volumes/{volumeId}") [] [] operation.DescribeVolume (DescribeVolume key) small plain (path.volume_route key is) refl
    (ap (λ p. call.describe_volume (in_path (codes "/volumes/{volumeId}") p)) (path_alone (volume key) plain)
    ∙ line.describe_volume_read source key (line.volume_there source (codes "volumeId") key is (path.volume_key key is)))

pub deletes_volume : (account : ℕ) (key : VolKey) → account < 10 ^ 12 → IsVolume key → Answers (asking account (codes "DELETE") (volume key) [] []) account (DeleteVolume key)
deletes_volume account key small is =
    let plain = path.volume_bytes key is in
    let source = in_path (codes "/volumes/{volumeId}") (volume key) in
    by_path account (codes "DELETE") (volume key) (codes "/volumes/{volumeId}") [] [] operation.DeleteVolume (DeleteVolume key) small plain (path.volume_route key is) refl
    (ap (λ p. call.delete_volume (in_path (codes "/volumes/{volumeId}") p)) (path_alone (volume key) plain)
    ∙ line.delete_volume_read source key (line.volume_there source (codes "volumeId") key is (path.volume_key key is)))

-- limits that a request passes
pub unless_passes : (test : Bool) (name : List ℕ) (next : Option (List ℕ)) → unless test name next ≡ None → (test ≡ true) × (next ≡ None)
unless_passes true name next h = (refl, h)
unless_passes false name next h = cc

ten_digits : (n : ℕ) → has_ten_digits n ≡ true → n < 10 ^ 10
ten_digits n h = grind (arith, nat_tests)

pub reads_block : (account : ℕ) (key : VolKey) (index : ℕ) → account < 10 ^ 12 → bad_member (ReadVolumeBlock key index) ≡ None → IsVolume key
    → Answers (asking account (codes "GET") (block (volume key) index) [] []) account (ReadVolumeBlock key index)
reads_block account key index small good is =
    let fits = ten_digits index (unless_passes (has_ten_digits index) (codes "blockIndex") None good).0 in
    let plain = path.block_bytes (volume key) index (path.volume_bytes key is) fits in
    let source = in_path (codes "/volumes/{volumeId}/blocks/{blockIndex}") (block (volume key) index) in
    by_path account (codes "GET") (block (volume key) index) (codes "/volumes/{volumeId}/blocks/{blockIndex}") [] [] operation.ReadVolumeBlock (ReadVolumeBlock key index) small plain (path.volume_block_route key index is fits) refl
    (ap (λ p. call.read_block (in_path (codes "/volumes/{volumeId}/blocks/{blockIndex}") p)) (path_alone (block (volume key) index) plain)
    ∙ line.read_block_read source key index (line.volume_there source (codes "volumeId") key is (path.volume_block_key key index is fits)) (line.index_there source (codes "blockIndex") index fits (path.volume_block_index key index is fits)))

-- the members of a query are texts
one_text : (name value : List ℕ) (pairs : Pairs) → list_all is_path_byte name ≡ true → IsUtf8 value → All IsTextPair pairs → All IsTextPair ((name, value) ∷ pairs)
one_text name value pairs plain text others = All-cons IsTextPair (name, value) pairs (plain_text name plain, text) others

digits_text : (n : ℕ) → n < 10 ^ 10 → IsUtf8 (decimal n)
digits_text n small = plain_text (decimal n) (piece_in_path (decimal n) (number_piece n small))

no_text : All IsTextPair []
no_text = All-nil IsTextPair

pub gets : (account : ℕ) (key : SnapKey) (index : ℕ) (token : List ℕ) → account < 10 ^ 12 → bad_member (GetSnapshotBlock key index token) ≡ None → IsSnapshot key → IsUtf8 token
    → Answers (asking account (codes "GET") (with_query (block (snapshot key) index) ((codes "blockToken", token) ∷ [])) [] []) account (GetSnapshotBlock key index token)
gets account key index token small good is text =
    let fits = ten_digits index (unless_passes (has_ten_digits index) (codes "blockIndex") None good).0 in
    let target = block (snapshot key) index in
    let route = codes "/snapshots/{snapshotId}/blocks/{blockIndex}" in
    let pairs : Pairs = (codes "blockToken", token) ∷ [] in
    let plain = path.block_bytes (snapshot key) index (path.snapshot_bytes key is) fits in
    let front = path_before target (extend_pairs [] pairs) plain in
    let query = asked_pairs target pairs plain (one_text (codes "blockToken") token [] refl text no_text) in
    let source = in_path route target in
    by_query account (codes "GET") target route pairs operation.GetSnapshotBlock (GetSnapshotBlock key index token) small plain (path.block_route key index is fits) refl
    ((λ i. call.get_block (in_path route (front i)) (in_query (query i)))
    ∙ line.get_block_read source (in_query pairs) key index token (line.snapshot_there source (codes "snapshotId") key is (path.block_key key index is fits))
    (line.index_there source (codes "blockIndex") index fits (path.block_index key index is fits)) (line.text_there (in_query pairs) (codes "blockToken") token text refl))

-- the rows that are asked for
abbrev pub HaveRows : ℕ → ℕ → Type 0
HaveRows from most = (from < 10 ^ 10) × (most < 10 ^ 10) × (kind.is_within 0 268435455 from ≡ true) × (kind.is_within 1 1000 most ≡ true)

some_rows : (from most : ℕ) → (nat_lt from (2 ^ 28) ≡ true) → (nat_le 1 most && nat_le most 1000) ≡ true → HaveRows from most
some_rows from most low high =
    let below : from < 2 ^ 28 = grind (arith, nat_tests) in
    let few : most ≤ 1000 = grind (arith, nat_tests) in
    (omega arith, omega arith, grind (arith, nat_tests), high)

pub have_rows : (from most : ℕ) → bad_rows from most ≡ None → HaveRows from most
have_rows from most good =
    let first = unless_passes (nat_lt from (2 ^ 28)) (codes "from") _ good in
    let second = unless_passes (nat_le 1 most && nat_le most 1000) (codes "max") None first.1 in
    some_rows from most first.0 second.0

pub rows_texts : (from most : ℕ) → HaveRows from most → All IsTextPair (rows from most)
rows_texts from most fits =
    one_text (codes "from") (decimal from) ((codes "max", decimal most) ∷ []) refl (digits_text from fits.0) (one_text (codes "max") (decimal most) [] refl (digits_text most fits.1) no_text)

pub rows_from : (from most : ℕ) → HaveRows from most → optional (in_query (rows from most)) (codes "from") (kind.number_within 0 268435455) ≡ Ok (Some from)
rows_from from most fits = line.number_given (in_query (rows from most)) (codes "from") 0 268435455 from fits.0 fits.2 refl

pub rows_most : (from most : ℕ) → HaveRows from most → optional (in_query (rows from most)) (codes "max") (kind.number_within 1 1000) ≡ Ok (Some most)
rows_most from most fits = line.number_given (in_query (rows from most)) (codes "max") 1 1000 most fits.1 fits.3 refl

pub describes_all : (account from most : ℕ) → account < 10 ^ 12 → bad_member (DescribeSnapshots from most) ≡ None → Answers (asking account (codes "GET") (with_query (codes "/snapshots") (rows from most)) [] []) account (DescribeSnapshots from most)
describes_all account from most small good =
    let fits = have_rows from most good in
    by_query account (codes "GET") (codes "/snapshots") (codes "/snapshots") (rows from most) operation.DescribeSnapshots (DescribeSnapshots from most) small refl path.rows_route refl
    (ap (λ p. call.describe_all (in_query p)) (asked_pairs (codes "/snapshots") (rows from most) refl (rows_texts from most fits))
    ∙ line.describe_all_read (in_query (rows from most)) from most (rows_from from most fits) (rows_most from most fits))

abbrev some_page : ℕ → ℕ → Pairs
some_page most start = (codes "maxResults", decimal most) ∷ (codes "startingBlockIndex", decimal start) ∷ []

page_size : (most : ℕ) → is_page_size most ≡ true → most < 10 ^ 10
page_size most h = let few : most ≤ 10000 = grind (arith, nat_tests) in omega arith

abbrev HasPage : ℕ → ℕ → Type 0
HasPage most start = (most < 10 ^ 10) × (start < 10 ^ 10) × (is_page_size most ≡ true)

has_page : (most start : ℕ) → bad_list most start ≡ None → HasPage most start
has_page most start good =
    let first = unless_passes (is_page_size most) (codes "maxResults") _ good in
    let second = unless_passes (has_ten_digits start) (codes "startingBlockIndex") None first.1 in
    (page_size most first.0, ten_digits start second.0, first.0)

some_page_texts : (most start : ℕ) → HasPage most start → All IsTextPair (some_page most start)
some_page_texts most start has =
    one_text (codes "maxResults") (decimal most) ((codes "startingBlockIndex", decimal start) ∷ []) refl (digits_text most has.0)
    (one_text (codes "startingBlockIndex") (decimal start) [] refl (digits_text start has.1) no_text)

page_texts : (token : Option (List ℕ)) (most start : ℕ) → HasPage most start → IfSome token IsUtf8 → All IsTextPair (page token most start)
page_texts None most start has text = some_page_texts most start has
page_texts (Some token) most start has text = one_text (codes "pageToken") token (some_page most start) refl text (some_page_texts most start has)

-- what a page says of its list, wherever it stands in a query
page_token : (token : Option (List ℕ)) (most start : ℕ) → IfSome token IsUtf8 → optional (in_query (page token most start)) (codes "pageToken") kind.any_text ≡ Ok token
page_token None most start text = line.absent (in_query (some_page most start)) (codes "pageToken") kind.any_text refl
page_token (Some token) most start text = line.text_given (in_query ((codes "pageToken", token) ∷ some_page most start)) (codes "pageToken") token text refl

page_most : (token : Option (List ℕ)) (most start : ℕ) → HasPage most start → optional (in_query (page token most start)) (codes "maxResults") (kind.number_within 100 10000) ≡ Ok (Some most)
page_most None most start has = line.number_given (in_query (some_page most start)) (codes "maxResults") 100 10000 most has.0 has.2 refl
page_most (Some token) most start has = line.number_given (in_query ((codes "pageToken", token) ∷ some_page most start)) (codes "maxResults") 100 10000 most has.0 has.2 refl

page_start : (token : Option (List ℕ)) (most start : ℕ) → HasPage most start → optional (in_query (page token most start)) (codes "startingBlockIndex") kind.index ≡ Ok (Some start)
page_start None most start has = line.index_given (in_query (some_page most start)) (codes "startingBlockIndex") start has.1 refl
page_start (Some token) most start has = line.index_given (in_query ((codes "pageToken", token) ∷ some_page most start)) (codes "startingBlockIndex") start has.1 refl

pub lists : (account : ℕ) (key : SnapKey) (token : Option (List ℕ)) (most start : ℕ) → account < 10 ^ 12 → bad_member (ListSnapshotBlocks key token most start) ≡ None → IsSnapshot key → IfSome token IsUtf8
    → Answers (asking account (codes "GET") (with_query (snapshot key ++ codes "/blocks") (page token most start)) [] []) account (ListSnapshotBlocks key token most start)
lists account key token most start small good is text =
    let has = has_page most start good in
    let target = snapshot key ++ codes "/blocks" in
    let route = codes "/snapshots/{snapshotId}/blocks" in
    let pairs = page token most start in
    let plain = path.longer_bytes (snapshot key) (codes "/blocks") (path.snapshot_bytes key is) refl in
    let front = path_before target (extend_pairs [] pairs) plain in
    let query = asked_pairs target pairs plain (page_texts token most start has text) in
    let source = in_path route target in
    by_query account (codes "GET") target route pairs operation.ListSnapshotBlocks (ListSnapshotBlocks key token most start) small plain (path.blocks_route key is) refl
    ((λ i. call.list_blocks (in_path route (front i)) (in_query (query i)))
    ∙ line.list_read source (in_query pairs) key token most start (line.snapshot_there source (codes "snapshotId") key is (path.blocks_key key is))
    (page_token token most start text) (page_most token most start has) (page_start token most start has))

-- behind another member the page says the same
past_first : (first : List ℕ) (pairs : Pairs) (name : List ℕ) → bytes_eq (codes "firstSnapshotId") name ≡ false → in_query ((codes "firstSnapshotId", first) ∷ pairs) name ≡ in_query pairs name
past_first first pairs name other = rw other refl

pub lists_changes : (account : ℕ) (first second : SnapKey) (token : Option (List ℕ)) (most start : ℕ) → account < 10 ^ 12 → bad_member (ListChangedBlocks first second token most start) ≡ None
    → IsSnapshot first → IsSnapshot second → IfSome token IsUtf8
    → Answers (asking account (codes "GET") (with_query (snapshot second ++ codes "/changedblocks") ((codes "firstSnapshotId", snap_id first) ∷ page token most start)) [] []) account (ListChangedBlocks first second token most start)
lists_changes account first second token most start small good is_first is text =
    let has = has_page most start good in
    let target = snapshot second ++ codes "/changedblocks" in
    let route = codes "/snapshots/{secondSnapshotId}/changedblocks" in
    let rest = page token most start in
    let pairs : Pairs = (codes "firstSnapshotId", snap_id first) ∷ rest in
    let plain = path.longer_bytes (snapshot second) (codes "/changedblocks") (path.snapshot_bytes second is) refl in
    let front = path_before target (extend_pairs [] pairs) plain in
    let query = asked_pairs target pairs plain
    (one_text (codes "firstSnapshotId") (snap_id first) rest refl (plain_text (snap_id first) (piece_in_path (snap_id first) (path.snap_id_piece first is_first))) (page_texts token most start has text)) in
    let source = in_path route target in
    by_query account (codes "GET") target route pairs operation.ListChangedBlocks (ListChangedBlocks first second token most start) small plain (path.changes_route second is) refl
    ((λ i. call.list_changed (in_path route (front i)) (in_query (query i)))
    ∙ line.changed_read source (in_query pairs) first second token most start (line.snapshot_there (in_query pairs) (codes "firstSnapshotId") first is_first refl)
    (line.snapshot_there source (codes "secondSnapshotId") second is (path.changes_key second is))
    (line.same_optional (in_query pairs) (in_query rest) (codes "pageToken") kind.any_text (past_first (snap_id first) rest (codes "pageToken") refl) ∙ page_token token most start text)
    (line.same_optional (in_query pairs) (in_query rest) (codes "maxResults") (kind.number_within 100 10000) (past_first (snap_id first) rest (codes "maxResults") refl) ∙ page_most token most start has)
    (line.same_optional (in_query pairs) (in_query rest) (codes "startingBlockIndex") kind.index (past_first (snap_id first) rest (codes "startingBlockIndex") refl) ∙ page_start token most start has))

-- the fields of a block
abbrev with_caller : ℕ → List Header → List Header
with_caller account fields = field (codes "x-ebs-account") (decimal_of_width 12 account) ∷ fields

block_fields : (account : ℕ) (digest body : List ℕ) → IsDigest digest → (length body == block_size) ≡ true → call.block_digest (in_fields (with_caller account (of_block digest))) body ≡ Ok digest
block_fields account digest body is whole =
    let fields = in_fields (with_caller account (of_block digest)) in
    line.block_digest_read fields digest body (line.word_there fields (codes "x-amz-Data-Length") (codes "524288") refl refl) (line.digest_there fields (codes "x-amz-Checksum") digest is refl)
    (line.word_there fields (codes "x-amz-Checksum-Algorithm") (codes "SHA256") refl refl) (line.absent fields (codes "x-amz-Progress") (kind.number_within 0 100) refl)
    (line.passes (length body == block_size) (codes "body") whole)

pub puts : (account : ℕ) (key : SnapKey) (index : ℕ) (digest bytes : List ℕ) → account < 10 ^ 12 → bad_member (PutSnapshotBlock key index digest bytes) ≡ None → IsSnapshot key → IsDigest digest
    → Answers (asking account (codes "PUT") (block (snapshot key) index) (of_block digest) bytes) account (PutSnapshotBlock key index digest bytes)
puts account key index digest bytes small good is whole =
    let first = unless_passes (has_ten_digits index) (codes "blockIndex") _ good in
    let second = unless_passes (length bytes == block_size) (codes "body") None first.1 in
    let fits = ten_digits index first.0 in
    let target = block (snapshot key) index in
    let route = codes "/snapshots/{snapshotId}/blocks/{blockIndex}" in
    let plain = path.block_bytes (snapshot key) index (path.snapshot_bytes key is) fits in
    let source = in_path route target in
    let fields = in_fields (with_caller account (of_block digest)) in
    by_path account (codes "PUT") target route (of_block digest) bytes operation.PutSnapshotBlock (PutSnapshotBlock key index digest bytes) small plain (path.block_route key index is fits) refl
    (ap (λ p. call.put_block (in_path route p) fields bytes) (path_alone target plain)
    ∙ line.put_read source fields bytes key index digest (line.snapshot_there source (codes "snapshotId") key is (path.block_key key index is fits))
    (line.index_there source (codes "blockIndex") index fits (path.block_index key index is fits)) (block_fields account digest bytes whole second.0))

pub writes : (account : ℕ) (key : VolKey) (index : ℕ) (digest bytes : List ℕ) → account < 10 ^ 12 → bad_member (WriteVolumeBlock key index digest bytes) ≡ None → IsVolume key → IsDigest digest
    → Answers (asking account (codes "PUT") (block (volume key) index) (of_block digest) bytes) account (WriteVolumeBlock key index digest bytes)
writes account key index digest bytes small good is whole =
    let first = unless_passes (has_ten_digits index) (codes "blockIndex") _ good in
    let second = unless_passes (length bytes == block_size) (codes "body") None first.1 in
    let fits = ten_digits index first.0 in
    let target = block (volume key) index in
    let route = codes "/volumes/{volumeId}/blocks/{blockIndex}" in
    let plain = path.block_bytes (volume key) index (path.volume_bytes key is) fits in
    let source = in_path route target in
    let fields = in_fields (with_caller account (of_block digest)) in
    by_path account (codes "PUT") target route (of_block digest) bytes operation.WriteVolumeBlock (WriteVolumeBlock key index digest bytes) small plain (path.volume_block_route key index is fits) refl
    (ap (λ p. call.write_block (in_path route p) fields bytes) (path_alone target plain)
    ∙ line.write_read source fields bytes key index digest (line.volume_there source (codes "volumeId") key is (path.volume_block_key key index is fits))
    (line.index_there source (codes "blockIndex") index fits (path.volume_block_index key index is fits)) (block_fields account digest bytes whole second.0))

-- the fields of a completion
count_field : (account count : ℕ) (checksum : Option (List ℕ)) → count < 10 ^ 10 → required (in_fields (with_caller account (counted count checksum))) (codes "x-amz-ChangedBlocksCount") kind.index ≡ Ok count
count_field account count checksum small = line.index_there (in_fields (with_caller account (counted count checksum))) (codes "x-amz-ChangedBlocksCount") count small refl

checksum_field : (account count : ℕ) (checksum : Option (List ℕ)) → IfSome checksum IsDigest → optional (in_fields (with_caller account (counted count checksum))) (codes "x-amz-Checksum") kind.digest ≡ Ok checksum
checksum_field account count None is = line.absent (in_fields (with_caller account (counted count None))) (codes "x-amz-Checksum") kind.digest refl
checksum_field account count (Some checksum) is = line.digest_given (in_fields (with_caller account (counted count (Some checksum)))) (codes "x-amz-Checksum") checksum is refl

checksum_stated : (account count : ℕ) (checksum : Option (List ℕ)) → call.stated (in_fields (with_caller account (counted count checksum))) checksum ≡ Ok tt
checksum_stated account count None = refl
checksum_stated account count (Some checksum) =
    let fields = in_fields (with_caller account (counted count (Some checksum))) in
    line.checksum_read fields (line.word_given fields (codes "x-amz-Checksum-Algorithm") (codes "SHA256") refl refl) (line.word_given fields (codes "x-amz-Checksum-Aggregation-Method") (codes "LINEAR") refl refl)

pub completes : (account : ℕ) (key : SnapKey) (count : ℕ) (checksum : Option (List ℕ)) → account < 10 ^ 12 → bad_member (CompleteSnapshot key count checksum) ≡ None → IsSnapshot key → IfSome checksum IsDigest
    → Answers (asking account (codes "POST") (codes "/snapshots/completion/" ++ snap_id key) (counted count checksum) []) account (CompleteSnapshot key count checksum)
completes account key count checksum small good is whole =
    let fits = ten_digits count (unless_passes (has_ten_digits count) (codes "x-amz-ChangedBlocksCount") None good).0 in
    let target = codes "/snapshots/completion/" ++ snap_id key in
    let route = codes "/snapshots/completion/{snapshotId}" in
    let plain = piece_in_path (snap_id key) (path.snap_id_piece key is) in
    let source = in_path route target in
    let fields = in_fields (with_caller account (counted count checksum)) in
    by_path account (codes "POST") target route (counted count checksum) [] operation.CompleteSnapshot (CompleteSnapshot key count checksum) small plain (path.completion_route key is) refl
    (ap (λ p. call.complete (in_path route p) fields) (path_alone target plain)
    ∙ line.complete_read source fields key count checksum (line.snapshot_there source (codes "snapshotId") key is (path.completion_key key is))
    (count_field account count checksum fits) (checksum_field account count checksum whole) (checksum_stated account count checksum))

pub archives : (account : ℕ) (key : SnapKey) → account < 10 ^ 12 → IsSnapshot key → Answers (asking account (codes "PUT") (snapshot key ++ codes "/tier") [] (text_of archived)) account (ArchiveSnapshot key)
archives account key small is =
    let target = snapshot key ++ codes "/tier" in
    let route = codes "/snapshots/{snapshotId}/tier" in
    let plain = path.longer_bytes (snapshot key) (codes "/tier") (path.snapshot_bytes key is) refl in
    let source = in_path route target in
    by_path account (codes "PUT") target route [] (text_of archived) operation.ArchiveSnapshot (ArchiveSnapshot key) small plain (path.tier_route key is) refl
    (ap (λ p. call.archive (in_path route p) (text_of archived)) (path_alone target plain)
    ∙ line.object_read (required source (codes "snapshotId") kind.snapshot) (text_of archived) call.archive_of key _ (ArchiveSnapshot key)
    (line.snapshot_there source (codes "snapshotId") key is (path.tier_key key is)) archived_body refl)

restore_days : (days : ℕ) → is_restore (Some days) ≡ true → days < 2 ^ 64
restore_days days h = let few : days ≤ 180 = grind (arith, nat_tests) in omega arith

restored_read : (key : SnapKey) (days : Option ℕ) → is_restore days ≡ true → (body : Data) × (body_of (text_of (restored days)) ≡ Some body) × (call.restore_of key (in_body body) ≡ Ok (RestoreTier key days))
restored_read key None h = (_, for_good_body, refl)
restored_read key (Some days) h = (_, days_body days (restore_days days h), restore_read key days h)

pub restores : (account : ℕ) (key : SnapKey) (days : Option ℕ) → account < 10 ^ 12 → bad_member (RestoreTier key days) ≡ None → IsSnapshot key
    → Answers (asking account (codes "POST") (snapshot key ++ codes "/restore-tier") [] (text_of (restored days))) account (RestoreTier key days)
restores account key days small good is =
    let target = snapshot key ++ codes "/restore-tier" in
    let route = codes "/snapshots/{snapshotId}/restore-tier" in
    let plain = path.longer_bytes (snapshot key) (codes "/restore-tier") (path.snapshot_bytes key is) refl in
    let source = in_path route target in
    let read = restored_read key days (unless_passes (is_restore days) (codes "TemporaryRestoreDays") None good).0 in
    by_path account (codes "POST") target route [] (text_of (restored days)) operation.RestoreTier (RestoreTier key days) small plain (path.restore_route key is) refl
    (ap (λ p. call.restore (in_path route p) (text_of (restored days))) (path_alone target plain)
    ∙ line.object_read (required source (codes "snapshotId") kind.snapshot) (text_of (restored days)) call.restore_of key read.0 (RestoreTier key days)
    (line.snapshot_there source (codes "snapshotId") key is (path.restore_key key is)) read.1 read.2)

term_width : (lasts : Term) → is_term lasts ≡ true → IsTerm lasts → HasWidth lasts
term_width (Days days) h is = let few : days ≤ 36500 = grind (arith, nat_tests) in omega arith
term_width (Date date) h is = is

cool_width : (mode : LockMode) (cool_hours : Option ℕ) → is_cool_off mode cool_hours ≡ true → IfSome cool_hours (λ hours. hours < 2 ^ 64)
cool_width mode None h = tt
cool_width Governance (Some hours) h = cc
cool_width Compliance (Some hours) h = let few : hours ≤ 72 = grind (arith, nat_tests) in omega arith

pub locks : (account : ℕ) (key : SnapKey) (mode : LockMode) (lasts : Term) (cool_hours : Option ℕ) → account < 10 ^ 12 → bad_member (LockSnapshot key mode lasts cool_hours) ≡ None → IsSnapshot key → IsTerm lasts
    → Answers (asking account (codes "PUT") (snapshot key ++ codes "/lock") [] (text_of (locked mode lasts cool_hours))) account (LockSnapshot key mode lasts cool_hours)
locks account key mode lasts cool_hours small good is wide =
    let first = unless_passes (is_term lasts) (codes "LockDuration") _ good in
    let second = unless_passes (is_cool_off mode cool_hours) (codes "CoolOffPeriod") None first.1 in
    let target = snapshot key ++ codes "/lock" in
    let route = codes "/snapshots/{snapshotId}/lock" in
    let plain = path.longer_bytes (snapshot key) (codes "/lock") (path.snapshot_bytes key is) refl in
    let source = in_path route target in
    let bytes = text_of (locked mode lasts cool_hours) in
    by_path account (codes "PUT") target route [] bytes operation.LockSnapshot (LockSnapshot key mode lasts cool_hours) small plain (path.lock_route key is) refl
    (ap (λ p. call.lock (in_path route p) bytes) (path_alone target plain)
    ∙ line.object_read (required source (codes "snapshotId") kind.snapshot) bytes call.lock_of key (object (lock_data mode lasts cool_hours)) (LockSnapshot key mode lasts cool_hours)
    (line.snapshot_there source (codes "snapshotId") key is (path.lock_key key is))
    (locked_body mode lasts cool_hours (term_width lasts first.0 wide) (cool_width mode cool_hours second.0)) (lock_read key mode lasts cool_hours first.0 second.0))

pub shares : (account : ℕ) (key : SnapKey) (add : List ℕ) (add_all : Bool) (remove : List ℕ) (remove_all : Bool) → account < 10 ^ 12 → bad_member (ModifyPermission key add add_all remove remove_all) ≡ None → IsSnapshot key
    → IsChoice add add_all → IsChoice remove remove_all
    → Answers (asking account (codes "PATCH") (snapshot key ++ codes "/permission") [] (text_of (shared add add_all remove remove_all))) account (ModifyPermission key add add_all remove remove_all)
shares account key add add_all remove remove_all small good is adds removes =
    let first = unless_passes (are_accounts add) (codes "Add") _ good in
    let second = unless_passes (are_accounts remove && (are_apart add remove && not (add_all && remove_all))) (codes "Remove") None first.1 in
    let target = snapshot key ++ codes "/permission" in
    let route = codes "/snapshots/{snapshotId}/permission" in
    let plain = path.longer_bytes (snapshot key) (codes "/permission") (path.snapshot_bytes key is) refl in
    let source = in_path route target in
    let bytes = text_of (shared add add_all remove remove_all) in
    let request = ModifyPermission key add add_all remove remove_all in
    by_path account (codes "PATCH") target route [] bytes operation.ModifyPermission request small plain (path.permission_route key is) refl
    (ap (λ p. call.modify_permission (in_path route p) bytes) (path_alone target plain)
    ∙ line.object_read (required source (codes "snapshotId") kind.snapshot) bytes call.permission_of key (object (shared_data add add_all remove remove_all)) request
    (line.snapshot_there source (codes "snapshotId") key is (path.permission_key key is)) (shared_body add add_all remove remove_all adds removes)
    (shared_read key add add_all remove remove_all adds removes first.0 (and_parts _ _ second.0).0 good))

description_member : (description : Option (List ℕ)) (ts : List Tag) → IfSome description IsUtf8 → is_description description ≡ true
    → optional (in_body (object (described_data description ts))) (codes "Description") kind.description ≡ Ok description
unfolding described_data
description_member None ts text short = line.absent (in_body (object (described_data None ts))) (codes "Description") kind.description refl
description_member (Some description) ts text short = line.description_given (in_body (object (described_data (Some description) ts))) (codes "Description") description text short refl

tags_member : (description : Option (List ℕ)) (ts : List Tag) → are_tags ts ≡ true → optional (in_body (object (described_data description ts))) (codes "Tags") kind.tags ≡ Ok (Some ts)
unfolding described_data
tags_member None ts h = line.tags_given (in_body (object (described_data None ts))) (codes "Tags") (tags_data ts) ts (tags_said ts) h refl
tags_member (Some description) ts h = line.tags_given (in_body (object (described_data (Some description) ts))) (codes "Tags") (tags_data ts) ts (tags_said ts) h refl

pub creates_snapshot : (account : ℕ) (key : VolKey) (description : Option (List ℕ)) (ts : List Tag) → account < 10 ^ 12 → bad_member (CreateSnapshot key description ts) ≡ None → IsVolume key → IfSome description IsUtf8
    → AllByRecursion HasTexts ts → Answers (asking account (codes "POST") (volume key ++ codes "/snapshots") [] (text_of (described description ts))) account (CreateSnapshot key description ts)
creates_snapshot account key description ts small good is text texts =
    let first = unless_passes (is_description description) (codes "Description") _ good in
    let second = unless_passes (are_tags ts) (codes "Tags") None first.1 in
    let target = volume key ++ codes "/snapshots" in
    let route = codes "/volumes/{volumeId}/snapshots" in
    let plain = path.longer_bytes (volume key) (codes "/snapshots") (path.volume_bytes key is) refl in
    let source = in_path route target in
    let bytes = text_of (described description ts) in
    let body = object (described_data description ts) in
    by_path account (codes "POST") target route [] bytes operation.CreateSnapshot (CreateSnapshot key description ts) small plain (path.volume_snapshots_route key is) refl
    (ap (λ p. call.create_snapshot (in_path route p) bytes) (path_alone target plain)
    ∙ line.object_read (required source (codes "volumeId") kind.volume) bytes call.snapshot_of key body (CreateSnapshot key description ts)
    (line.volume_there source (codes "volumeId") key is (path.volume_snapshots_key key is)) (described_body description ts text texts)
    (line.snapshot_of_read (in_body body) key description ts (description_member description ts text first.0) (tags_member description ts second.0)))

pub creates_volume : (account : ℕ) (origin : Option SnapKey) (size : Option ℕ) (ts : List Tag) (token : Option (List ℕ)) → account < 10 ^ 12 → bad_member (CreateVolume origin size ts token) ≡ None → IfSome origin IsSnapshot
    → IfSome size (λ n. n < 2 ^ 64) → AllByRecursion HasTexts ts → IfSome token IsUtf8 → Answers (asking account (codes "POST") (codes "/volumes") [] (text_of (created origin size ts token))) account (CreateVolume origin size ts token)
creates_volume account origin size ts token small good is width texts utf8 =
    let first = unless_passes (is_sized origin size) (codes "Size") _ good in
    let second = unless_passes (are_tags ts) (codes "Tags") _ first.1 in
    let third = unless_passes (is_token_given token) (codes "ClientToken") None second.1 in
    by_path account (codes "POST") (codes "/volumes") (codes "/volumes") [] (text_of (created origin size ts token)) operation.CreateVolume (CreateVolume origin size ts token) small refl path.volumes_route refl
    (line.body_alone (text_of (created origin size ts token)) (λ body. call.create_of (in_body body)) (object (created_data origin size ts token)) (CreateVolume origin size ts token)
    (created_body origin size ts token is width texts utf8) (created_read origin size ts token is utf8 first.0 second.0 third.0))

timeout_width : (timeout : ℕ) → is_timeout timeout ≡ true → timeout < 2 ^ 64
timeout_width timeout h = let few : timeout ≤ 4320 = grind (arith, nat_tests) in omega arith

pub starts : (account size : ℕ) (parent : Option SnapKey) (description : Option (List ℕ)) (ts : List Tag) (token : Option (List ℕ)) (timeout : ℕ) → account < 10 ^ 12 → bad_member (StartSnapshot size parent description ts token timeout) ≡ None
    → size < 2 ^ 64 → IfSome parent IsSnapshot → IfSome description IsUtf8 → AllByRecursion HasTexts ts → IfSome token IsUtf8
    → Answers (asking account (codes "POST") (codes "/snapshots") [] (text_of (started size parent description ts token timeout))) account (StartSnapshot size parent description ts token timeout)
starts account size parent description ts token timeout small good width is text texts utf8 =
    let first = unless_passes (is_description description) (codes "Description") _ good in
    let second = unless_passes (are_tags ts) (codes "Tags") _ first.1 in
    let third = unless_passes (is_token_given token) (codes "ClientToken") _ second.1 in
    let fourth = unless_passes (is_timeout timeout) (codes "Timeout") None third.1 in
    by_path account (codes "POST") (codes "/snapshots") (codes "/snapshots") [] (text_of (started size parent description ts token timeout)) operation.StartSnapshot (StartSnapshot size parent description ts token timeout) small refl path.rows_route refl
    (line.body_alone (text_of (started size parent description ts token timeout)) (λ body. call.start_of (in_body body)) (object (started_data size parent description ts token timeout)) (StartSnapshot size parent description ts token timeout)
    (started_body size parent description ts token timeout width (timeout_width timeout fourth.0) is text texts utf8) (started_read size parent description ts token timeout is text utf8 first.0 second.0 third.0 fourth.0))
