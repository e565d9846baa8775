-- What a checkpoint says: a machine, and the slots of its blocks.
use Rattle.std.specs.Prelude.{ℕ, ◌+◌, ◌≡◌, ◌≤◌, ◌^◌, Bool, true, Option, None, Some, ◌==◌, List, [], length, map, flat_map, nat_lt}
use Rattle.std.specs.List.{filter, list_all}
use Rattle.std.specs.FinMap as fin
use Rattle.std.specs.Ordering.{nat_cmp}
use Rattle.sha2.specs.Sha256.{sha256}
use Rattle.ebs_model.specs.declared.array.Block.{Block}
use Rattle.ebs_model.specs.declared.keys.SnapKey.{SnapKey}
use Rattle.ebs_model.specs.declared.keys.VolKey.{VolKey}
use Rattle.ebs_model.specs.declared.keys.TokenKey.{TokenKey}
use Rattle.ebs_model.specs.declared.rows.SnapRow.{SnapRow}
use Rattle.ebs_model.specs.declared.rows.VolRow.{VolRow}
use Rattle.ebs_model.specs.declared.rows.Own.{Own}
use Rattle.ebs_model.specs.declared.rows.TokenRow.{TokenRow}
use Rattle.ebs_model.specs.declared.rules.Rule.{Rule}
use Rattle.ebs_model.specs.declared.policy.Policy.{Policy}
use Rattle.ebs_model.specs.declared.request.Request.{Request}
use Rattle.ebs_model.specs.declared.request.Request.TheVariants.{ListRules}
use Rattle.ebs_model.specs.Keys.{snap_cmp, vol_cmp, policy_cmp, token_cmp}
use Rattle.ebs_model.specs.Arrays.{WholeBlock, WholeArray}
use Rattle.ebs_model.specs.Time.{Snapshot}
use Rattle.ebs_model.specs.Rules.{Book}
use Rattle.ebs_model.specs.Machine.{Machine}
use Rattle.ebs_model.specs.Quotas.{block_size}
use Rattle.ebs_records.specs.declared.record.Record.{Record}
use Rattle.ebs_records.specs.declared.record.Record.TheVariants.{Accepted, Advance, Moved}
use Rattle.ebs_checkpoints.specs.declared.owned.AccountRow.{AccountRow}
use Rattle.ebs_checkpoints.specs.declared.owned.TokenPoint.{TokenPoint}
use Rattle.ebs_checkpoints.specs.declared.owned.VolPoint.{VolPoint}
use Rattle.ebs_checkpoints.specs.declared.snapshots.SnapPoint.{SnapPoint}
use Rattle.ebs_checkpoints.specs.declared.nodes.SlotRow.{SlotRow}
use Rattle.ebs_checkpoints.specs.declared.checkpoint.Checkpoint.{Checkpoint}
use Rattle.ebs_checkpoints.specs.Checkpoints.{spelled}
use Rattle.ebs_node_rules.specs.Arrays.{Array, Arrays, array_in, arrays_of, row_array}
use Rattle.ebs_node_rules.specs.States.{is_none_of}
use Rattle.ebs_checkpoint_rules.specs.Rules.{IsCheckpoint}
use Rattle.ebs_recovery.specs.Made.{SlotOfStamp, State}

-- ---- rows

abbrev pub row_of : SnapPoint → SnapRow
row_of p = record {
  key = p.key;
  size = p.size;
  line = p.line;
  parent = p.parent;
  volume = p.volume;
  policy = p.policy;
  start = p.start;
  timeout = p.timeout;
  last = p.last;
  completed = p.completed;
  put = fin.from_entries (map (λ i. (i, tt)) p.put);
  description = p.description;
  tags = p.tags;
  shared = p.shared;
  public = p.public;
  lock = p.lock;
  tier = p.tier;
  bin_end = p.bin_end;
}

unfoldable pub vols_of : Checkpoint → fin.FinMap vol_cmp VolRow
vols_of point = fin.from_entries (map (λ v. (v.row.key, v.row)) point.volumes)

-- an account that has made a snapshot, a volume or a policy
abbrev pub has_own : AccountRow → Bool
has_own a = nat_lt 0 (a.next_snap + (a.next_vol + a.next_policy))

abbrev pub own_of : AccountRow → Own
own_of a = record { next_snap = a.next_snap; next_vol = a.next_vol; next_policy = a.next_policy }

unfoldable pub owns_of : Checkpoint → fin.FinMap nat_cmp Own
owns_of point = fin.from_entries (map (λ a. (a.account, own_of a)) (filter has_own point.accounts))

abbrev pub first_of : Record → Request
first_of (Accepted call) = call.request
first_of (Advance at) = ListRules
first_of (Moved transfer) = ListRules

abbrev pub token_entry : ℕ → TokenPoint → TokenKey × TokenRow
token_entry account t = (record { account = account; text = t.text }, record { at = t.at; first = first_of t.first; number = t.number })

unfoldable pub tokens_of : Checkpoint → fin.FinMap token_cmp TokenRow
tokens_of point = fin.from_entries (flat_map (λ (a : AccountRow). map (token_entry a.account) a.tokens) point.accounts)

-- one that has made a rule
abbrev pub has_book : AccountRow → Bool
has_book a = nat_lt 0 a.next_rule

abbrev pub book_of : List Rule → AccountRow → Book
book_of rules a = record { rules = fin.from_entries (map (λ (r : Rule). (r.key.number, r)) (filter (λ (r : Rule). r.key.account == a.account) rules)); next = a.next_rule }

unfoldable pub books_of : Checkpoint → fin.FinMap nat_cmp Book
books_of point = fin.from_entries (map (λ a. (a.account, book_of point.rules a)) (filter has_book point.accounts))

unfoldable pub policies_of : Checkpoint → fin.FinMap policy_cmp Policy
policies_of point = fin.from_entries (map (λ (p : Policy). (p.key, p)) point.policies)

-- the machine with these snapshots and these arrays of volumes
abbrev pub machine_with : Checkpoint → fin.FinMap snap_cmp Snapshot → fin.FinMap vol_cmp WholeArray → Machine
machine_with point snaps disks = record {
  clock = point.clock;
  changes = point.accepted;
  stamps = point.next_stamp;
  secret = point.secret;
  snaps = snaps;
  own = owns_of point;
  tokens = tokens_of point;
  vols = vols_of point;
  disks = disks;
  books = books_of point;
  policies = policies_of point;
}

unfoldable pub slots_of : List SlotRow → SlotOfStamp
slots_of rows = fin.from_entries (map (λ (r : SlotRow). (r.key, r.slot)) rows)

-- ---- blocks

-- both are there and so related, or neither is
abbrev pub Both : {X Y : Type 0} → (X → Y → Type 0) → Option X → Option Y → Type 0
Both Related None None = Unit {0}
Both Related None (Some y) = ⊥
Both Related (Some x) None = ⊥
Both Related (Some x) (Some y) = Related x y

-- a whole block with the stamp and the digest that stand there
pub record IsBlockOf (block : Block) (whole : WholeBlock) : Type 0 where
  pub stamp : whole.stamp ≡ block.stamp
  pub digest : sha256 whole.bytes ≡ block.digest
  pub size : length whole.bytes ≡ block_size

-- one that has the digest in the place of its bytes
abbrev pub IsDigestOf : Block → WholeBlock → Type 0
IsDigestOf block kept = kept ≡ record { stamp = block.stamp; bytes = block.digest }

-- how blocks are those that stand there
abbrev pub OfBlock : Type 1
OfBlock = Block → WholeBlock → Type 0

abbrev pub IsArrayOf : OfBlock → Array → WholeArray → Type 0
IsArrayOf Is blocks array = (index : ℕ) → Both Is (fin.get blocks index) (fin.get array index)

-- the row of a snapshot, with the blocks of its node
pub record IsSnapshotOf (Is : OfBlock) (arrays : Arrays) (point : SnapPoint) (snapshot : Snapshot) : Type 0 where
  pub row : snapshot.row ≡ row_of point
  pub array : IsArrayOf Is (row_array arrays point) snapshot.array

-- a volume has those of its node
abbrev pub IsDiskOf : OfBlock → Arrays → VolPoint → WholeArray → Type 0
IsDiskOf Is arrays point array = IsArrayOf Is (array_in arrays (Some point.node)) array

unfoldable pub snaps_at : Checkpoint → fin.FinMap snap_cmp SnapPoint
snaps_at point = fin.from_entries (map (λ (p : SnapPoint). (p.key, p)) point.snapshots)

unfoldable pub vols_at : Checkpoint → fin.FinMap vol_cmp VolPoint
vols_at point = fin.from_entries (map (λ (v : VolPoint). (v.row.key, v)) point.volumes)

-- ---- all of it

-- the checkpoint says this state, whose blocks are so those that stand there
pub record Says (Is : OfBlock) (point : Checkpoint) (state : State) : Type 0 where
  pub machine : state.machine ≡ machine_with point state.machine.snaps state.machine.disks
  pub snaps : (key : SnapKey) → Both (IsSnapshotOf Is (arrays_of point.nodes)) (fin.get (snaps_at point) key) (fin.get state.machine.snaps key)
  pub disks : (key : VolKey) → Both (IsDiskOf Is (arrays_of point.nodes)) (fin.get (vols_at point) key) (fin.get state.machine.disks key)
  pub slots : state.slots ≡ slots_of point.standard

-- these bytes are a checkpoint with all rules which says this state
pub record IsBase (checkpoint : List ℕ) (base : State) : Type 0 where
  pub point : Checkpoint
  pub is_checkpoint : IsCheckpoint point
  pub is : checkpoint ≡ spelled point
  pub says : Says IsBlockOf point base

abbrev pub has_no_copies : SnapPoint → Bool
has_no_copies row = is_none_of row.copies

-- nothing is in the archive
pub record HasNoCopies (point : Checkpoint) : Type 0 where
  pub rows : list_all has_no_copies point.snapshots ≡ true
  pub slots : point.archive ≡ []
  pub next : point.next_copy ≤ 2 ^ 42

-- nor is anything of this one in the archive
pub record Begins (checkpoint : List ℕ) (base : State) : Type 0 where
  pub is : IsBase checkpoint base
  pub here : HasNoCopies is.point
