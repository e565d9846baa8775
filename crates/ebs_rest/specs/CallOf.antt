-- The routes of all calls, how a path is found in them, and the call that a message makes.
use Rattle.std.specs.Prelude.{ℕ, List, Option, Some, None, Result, Ok, Err, [], ◌∷◌, codes, fold, ◌&&◌, find}
use Rattle.std.specs.Option.{option_map}
use Rattle.std.specs.Str.{bytes_eq}
use Rattle.matchit.specs.Rows.{RowsOf}
use Rattle.matchit.specs.Route.{Scan, parse_route}
use Rattle.matchit.specs.Order.{placed}
use Rattle.matchit.specs.Router.{RouteOf, route_from, nearest}
use Rattle.matchit.specs.Seek.{first}
use Rattle.matchit.specs.declared.error.InsertError.{InsertError}
use Rattle.ebs_rest.specs.declared.table.Operation.{Operation}
use Rattle.ebs_rest.specs.declared.table.Operation.TheVariants.{StartSnapshot, PutSnapshotBlock, CompleteSnapshot, ListSnapshotBlocks, ListChangedBlocks, GetSnapshotBlock, DescribeSnapshot, DescribeSnapshots, DeleteSnapshot, ModifyPermission, LockSnapshot, UnlockSnapshot, ArchiveSnapshot, RestoreTier, CreateVolume, CreateSnapshot, WriteVolumeBlock, ReadVolumeBlock, DescribeVolume, DeleteVolume, CreateRule, GetRule, UpdateRule, DeleteRule, ListRules, LockRule, UnlockRule, ListBin, RestoreFromBin, CreatePolicy, GetPolicy, DeletePolicy, RunPolicy}
use Rattle.ebs_http.specs.declared.headers.Header.{Header}
use Rattle.ebs_http.specs.declared.message.Message.{Message}
use Rattle.ebs_model.specs.declared.request.Request.{Request}
use Rattle.ebs_model.specs.declared.request.Call.{Call}
use Rattle.ebs_model.specs.declared.answer.Refusal.{Refusal}
use Rattle.ebs_model.specs.declared.answer.Refusal.TheVariants.{NoSuchCall}
use Rattle.ebs_model.specs.Refuse.{some_or, ◌>>=◌}
use Rattle.ebs_members.specs.Sources.{in_fields, required, Members, pairs_of, in_query, path_of, query_of, in_path}
use Rattle.ebs_members.specs.Kinds as kind
use Rattle.ebs_rest.specs.Calls as call

abbrev pub Routed : Type 0
Routed = RowsOf (RouteOf (List ℕ))

-- a path that stands already isn't placed again
abbrev pub beside : Routed → List ℕ → Scan → Option (RouteOf (List ℕ)) → Routed
beside rows path scan None = placed (scan.pattern, route_from scan path) rows
beside rows path scan (Some route) = rows

abbrev pub with_parsed : Routed → List ℕ → Result Scan InsertError → Routed
with_parsed rows path (Ok scan) = beside rows path scan (nearest scan.pattern rows)
with_parsed rows path (Err e) = rows

-- a method, a path and the call that they make
abbrev pub Row : Type 0
Row = List ℕ × List ℕ × Operation

abbrev pub with_path : Routed → Row → Routed
with_path rows row = with_parsed rows row.1 (parse_route row.1)

abbrev pub table : List Row
table =
    (codes "POST", codes "/snapshots", StartSnapshot)
    ∷ (codes "PUT", codes "/snapshots/{snapshotId}/blocks/{blockIndex}", PutSnapshotBlock)
    ∷ (codes "POST", codes "/snapshots/completion/{snapshotId}", CompleteSnapshot)
    ∷ (codes "GET", codes "/snapshots/{snapshotId}/blocks", ListSnapshotBlocks)
    ∷ (codes "GET", codes "/snapshots/{secondSnapshotId}/changedblocks", ListChangedBlocks)
    ∷ (codes "GET", codes "/snapshots/{snapshotId}/blocks/{blockIndex}", GetSnapshotBlock)
    ∷ (codes "GET", codes "/snapshots/{snapshotId}", DescribeSnapshot)
    ∷ (codes "GET", codes "/snapshots", DescribeSnapshots)
    ∷ (codes "DELETE", codes "/snapshots/{snapshotId}", DeleteSnapshot)
    ∷ (codes "PATCH", codes "/snapshots/{snapshotId}/permission", ModifyPermission)
    ∷ (codes "PUT", codes "/snapshots/{snapshotId}/lock", LockSnapshot)
    ∷ (codes "DELETE", codes "/snapshots/{snapshotId}/lock", UnlockSnapshot)
    ∷ (codes "PUT", codes "/snapshots/{snapshotId}/tier", ArchiveSnapshot)
    ∷ (codes "POST", codes "/snapshots/{snapshotId}/restore-tier", RestoreTier)
    ∷ (codes "POST", codes "/volumes", CreateVolume)
    ∷ (codes "POST", codes "/volumes/{volumeId}/snapshots", CreateSnapshot)
    ∷ (codes "PUT", codes "/volumes/{volumeId}/blocks/{blockIndex}", WriteVolumeBlock)
    ∷ (codes "GET", codes "/volumes/{volumeId}/blocks/{blockIndex}", ReadVolumeBlock)
    ∷ (codes "GET", codes "/volumes/{volumeId}", DescribeVolume)
    ∷ (codes "DELETE", codes "/volumes/{volumeId}", DeleteVolume)
    ∷ (codes "POST", codes "/rules", CreateRule)
    ∷ (codes "GET", codes "/rules/{identifier}", GetRule)
    ∷ (codes "PATCH", codes "/rules/{identifier}", UpdateRule)
    ∷ (codes "DELETE", codes "/rules/{identifier}", DeleteRule)
    ∷ (codes "POST", codes "/list-rules", ListRules)
    ∷ (codes "PATCH", codes "/rules/{identifier}/lock", LockRule)
    ∷ (codes "PATCH", codes "/rules/{identifier}/unlock", UnlockRule)
    ∷ (codes "GET", codes "/recycle-bin", ListBin)
    ∷ (codes "POST", codes "/recycle-bin/{snapshotId}", RestoreFromBin)
    ∷ (codes "POST", codes "/policies", CreatePolicy)
    ∷ (codes "GET", codes "/policies/{policyId}", GetPolicy)
    ∷ (codes "DELETE", codes "/policies/{policyId}", DeletePolicy)
    ∷ (codes "POST", codes "/policies/{policyId}/run", RunPolicy)
    ∷ []

-- the rows of the router
unfoldable pub rows : Routed
rows = fold with_path [] table

-- the path of the table that a path fits; it isn't decoded
abbrev pub route_of : List ℕ → Option (List ℕ)
route_of path = option_map (λ route. route.value) (first rows path)

abbrev pub call_at : List ℕ → List ℕ → List Row → Option Operation
call_at method route rows = option_map (λ r. r.2) (find (λ r. bytes_eq r.0 method && bytes_eq r.1 route) rows)

-- methods are told apart by their bytes
abbrev pub operation_at : List ℕ → List ℕ → Result Operation Refusal
operation_at method route = some_or (call_at method route table) NoSuchCall

abbrev pub caller_in : List Header → Result ℕ Refusal
caller_in fields = required (in_fields fields) (codes "x-ebs-account") kind.account

abbrev pub caller : Message → Result ℕ Refusal
caller message = caller_in message.headers

-- the request of a path's members, a query, the members of the fields, and a body
abbrev pub request_from : Operation → Members → List ℕ → Members → List ℕ → Result Request Refusal
request_from StartSnapshot path query fields body = call.start body
request_from PutSnapshotBlock path query fields body = call.put_block path fields body
request_from CompleteSnapshot path query fields body = call.complete path fields
request_from ListSnapshotBlocks path query fields body = call.list_blocks path (in_query (pairs_of query))
request_from ListChangedBlocks path query fields body = call.list_changed path (in_query (pairs_of query))
request_from GetSnapshotBlock path query fields body = call.get_block path (in_query (pairs_of query))
request_from DescribeSnapshot path query fields body = call.describe path
request_from DescribeSnapshots path query fields body = call.describe_all (in_query (pairs_of query))
request_from DeleteSnapshot path query fields body = call.delete path
request_from ModifyPermission path query fields body = call.modify_permission path body
request_from LockSnapshot path query fields body = call.lock path body
request_from UnlockSnapshot path query fields body = call.unlock path
request_from ArchiveSnapshot path query fields body = call.archive path body
request_from RestoreTier path query fields body = call.restore path body
request_from CreateVolume path query fields body = call.create body
request_from CreateSnapshot path query fields body = call.create_snapshot path body
request_from WriteVolumeBlock path query fields body = call.write_block path fields body
request_from ReadVolumeBlock path query fields body = call.read_block path
request_from DescribeVolume path query fields body = call.describe_volume path
request_from DeleteVolume path query fields body = call.delete_volume path
request_from CreateRule path query fields body = call.create_rule body
request_from GetRule path query fields body = call.get_rule path
request_from UpdateRule path query fields body = call.update_rule path body
request_from DeleteRule path query fields body = call.delete_rule path
request_from ListRules path query fields body = call.list_rules
request_from LockRule path query fields body = call.lock_rule path body
request_from UnlockRule path query fields body = call.unlock_rule path
request_from ListBin path query fields body = call.list_bin (in_query (pairs_of query))
request_from RestoreFromBin path query fields body = call.restore_from_bin path
request_from CreatePolicy path query fields body = call.create_policy body
request_from GetPolicy path query fields body = call.get_policy path
request_from DeletePolicy path query fields body = call.delete_policy path
request_from RunPolicy path query fields body = call.run_policy path

abbrev pub request_of : Operation → List ℕ → Message → Result Request Refusal
request_of operation route message = request_from operation (in_path route (path_of message.target)) (query_of message.target) (in_fields message.headers) message.body

abbrev pub call_from : List ℕ → Message → Result Call Refusal
call_from route message = do
  operation ← operation_at message.method route
  account ← caller message
  request ← request_of operation route message
  Ok (record { account = account; request = request })

-- the path is chosen over the paths of all methods, and then the method
unfoldable pub call_of : Message → Result Call Refusal
call_of message = do
  route ← some_or (route_of (path_of message.target)) NoSuchCall
  call_from route message
