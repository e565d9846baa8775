-- With whom a snapshot is shared, in fields of its row.
use Rattle.std.specs.Prelude.{◌≡◌, ◌≢◌, ℕ, ◌≤◌, Bool, not, ◌&&◌, ◌||◌, ◌==◌, List, length}
use Rattle.std.specs.Ordering.{nat_cmp}
use Rattle.std.specs.List.{list_any}
use Rattle.std.specs.List.Sorted.{IsStrictlySortedBy}
use Rattle.std.specs.FinMap as fin
use Rattle.std.specs.declared.option.Option.TheVariants.{Some}
use Rattle.ebs_model.specs.declared.keys.SnapKey.{SnapKey}
use Rattle.ebs_model.specs.declared.keys.Moment.{Moment}
use Rattle.ebs_model.specs.declared.rows.SnapRow.{SnapRow}
use Rattle.ebs_model.specs.declared.request.Request.TheVariants.{ModifyPermission}
use Rattle.ebs_model.specs.declared.answer.Answer.TheVariants.{Done}
use Rattle.ebs_model.specs.Time.{Snapshot}
use Rattle.ebs_model.specs.Machine.{Machine, advance}
use Rattle.ebs_model.specs.Step.{step}
use Rattle.ebs_laws.specs.Words.{moment_at}

-- the account is one of these
abbrev pub is_among : ℕ → List ℕ → Bool
is_among account accounts = list_any (λ a. a == account) accounts

-- an account may be among those that the snapshot is shared with exactly where it was or is added, and isn't removed; they ascend,
-- each once, and are at most 1000; it is public exactly where it was or all are added, and all aren't removed; nothing else changes
pub record SharesAsAsked (old new : Machine) (key : SnapKey) (add : List ℕ) (add_all : Bool) (remove : List ℕ) (remove_all : Bool) : Type 0 where
  pub found : Snapshot
  pub was_there : fin.get old.snaps key ≡ Some found
  pub row : SnapRow
  pub is_there : fin.get new.snaps key ≡ Some (record { row = row; array = found.array })
  pub members : (a : ℕ) → is_among a row.shared ≡ ((is_among a found.row.shared || is_among a add) && not (is_among a remove))
  pub ascending : IsStrictlySortedBy nat_cmp row.shared
  pub few : length row.shared ≤ 1000
  pub public_is : row.public ≡ ((found.row.public || add_all) && not remove_all)
  pub rest : row ≡ record found.row { shared = row.shared; public = row.public }
  pub other_snapshots : (k : SnapKey) → k ≢ key → fin.get new.snaps k ≡ fin.get old.snaps k
  pub accounts : new.own ≡ old.own
  pub tokens : new.tokens ≡ old.tokens
  pub volumes : new.vols ≡ old.vols
  pub disks : new.disks ≡ old.disks
  pub rules : new.books ≡ old.books
  pub policies : new.policies ≡ old.policies

abbrev pub SharingIsAsAsked : Type 0
SharingIsAsAsked =
    (m : Machine) (account : ℕ) (reading : Moment) (key : SnapKey) (add : List ℕ) (add_all : Bool) (remove : List ℕ) (remove_all : Bool)
    → let s = step m account reading (ModifyPermission key add add_all remove remove_all) in s.1 ≡ Done
    → SharesAsAsked (advance m (moment_at m reading)) s.0 key add add_all remove remove_all
