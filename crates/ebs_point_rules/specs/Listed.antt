-- A checkpoint whose lists are those of a machine.
use Rattle.std.specs.Prelude.{◌≡◌, ℕ, true, List, map, flat_map, Option, None, Some, if◌then◌else◌}
use Rattle.std.specs.List.{list_all}
use Rattle.std.specs.FinMap.{get, entries}
use Rattle.ebs_model.specs.declared.policy.Policy.{Policy}
use Rattle.ebs_model.specs.declared.rules.Rule.{Rule}
use Rattle.ebs_model.specs.declared.rows.Own.{Own}
use Rattle.ebs_model.specs.Keys.{snap_cmp, vol_cmp, policy_cmp}
use Rattle.ebs_model.specs.Rules.{Book}
use Rattle.ebs_model.specs.Machine.{Machine}
use Rattle.ebs_checkpoints.specs.declared.owned.AccountRow.{AccountRow}
use Rattle.ebs_checkpoints.specs.declared.owned.VolPoint.{VolPoint}
use Rattle.ebs_checkpoints.specs.declared.snapshots.SnapPoint.{SnapPoint}
use Rattle.ebs_checkpoints.specs.declared.checkpoint.Checkpoint.{Checkpoint}
use Rattle.ebs_row_rules.specs.Order.{ascends, has_ordered_accounts, has_ordered_tokens}
use Rattle.ebs_row_rules.specs.Owners.{listed}
use Rattle.ebs_node_rules.specs.Arrays.{array_in, arrays_of}
use Rattle.ebs_recovery.specs.inner.Bases.{kept_array, snapshot_of, machine_of}
use Rattle.ebs_recovery.specs.Bases.{has_own, own_of, token_entry, has_book, book_of}

-- what an account has made, where one of its counters isn't 0
abbrev pub own_in : Option AccountRow → Option Own
own_in None = None
own_in (Some a) = if has_own a then Some (own_of a) else None

-- and its rules, where it has made one
abbrev pub book_in : List Rule → Option AccountRow → Option Book
book_in rules None = None
book_in rules (Some a) = if has_book a then Some (book_of rules a) else None

-- accounts in order: of each number the listed one has what the machine has
pub record AreAccountsOf (m : Machine) (point : Checkpoint) : Type 0 where
  pub order : has_ordered_accounts point.accounts ≡ true
  pub own : (account : ℕ) → own_in (listed point.accounts account) ≡ get m.own account
  pub books : (account : ℕ) → book_in point.rules (listed point.accounts account) ≡ get m.books account

-- the entries of each of its other maps are what is made of the checkpoint's lists, in their order
pub record IsListedOf (m : Machine) (point : Checkpoint) : Type 0 where
  pub clock : point.clock ≡ m.clock
  pub changes : point.accepted ≡ m.changes
  pub stamps : point.next_stamp ≡ m.stamps
  pub secret : point.secret ≡ m.secret
  pub snaps : entries m.snaps ≡ map (λ (p : SnapPoint). (p.key, snapshot_of (arrays_of point.nodes) p)) point.snapshots
  pub accounts : AreAccountsOf m point
  pub tokens : entries m.tokens ≡ flat_map (λ (a : AccountRow). map (token_entry a.account) a.tokens) point.accounts
  pub vols : entries m.vols ≡ map (λ (v : VolPoint). (v.row.key, v.row)) point.volumes
  pub disks : entries m.disks ≡ map (λ (v : VolPoint). (v.row.key, kept_array (array_in (arrays_of point.nodes) (Some v.node)))) point.volumes
  pub policies : entries m.policies ≡ map (λ (p : Policy). (p.key, p)) point.policies

-- it says the machine
abbrev pub ListsSayMachines : Type 0
ListsSayMachines = (m : Machine) (point : Checkpoint) → IsListedOf m point → machine_of point ≡ m

-- these of its lists are then in order
pub record AreInOrder (point : Checkpoint) : Type 0 where
  pub snapshots : ascends snap_cmp (λ (s : SnapPoint). s.key) point.snapshots ≡ true
  pub volumes : ascends vol_cmp (λ (v : VolPoint). v.row.key) point.volumes ≡ true
  pub policies : ascends policy_cmp (λ (p : Policy). p.key) point.policies ≡ true
  pub tokens : list_all has_ordered_tokens point.accounts ≡ true

abbrev pub ListsAscend : Type 0
ListsAscend = (m : Machine) (point : Checkpoint) → IsListedOf m point → AreInOrder point
