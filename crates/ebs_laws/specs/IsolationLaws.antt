-- What an account sees of the machine, and that its calls depend on that alone.
use Rattle.std.specs.Prelude.{◌≡◌, ℕ, ◌<◌, ◌^◌, Bool, true, false, not, ◌&&◌, ◌||◌, ◌==◌, List, [], if◌then◌else◌}
use Rattle.std.specs.List.{list_any}
use Rattle.std.specs.FinMap as fin
use Rattle.std.specs.declared.option.Option.{Option}
use Rattle.std.specs.declared.option.Option.TheVariants.{None, Some}
use Rattle.ebs_model.specs.declared.keys.SnapKey.{SnapKey}
use Rattle.ebs_model.specs.declared.keys.VolKey.{VolKey}
use Rattle.ebs_model.specs.declared.keys.PolicyKey.{PolicyKey}
use Rattle.ebs_model.specs.declared.keys.Moment.{Moment}
use Rattle.ebs_model.specs.declared.rows.SnapRow.{SnapRow}
use Rattle.ebs_model.specs.declared.rows.LockState.TheVariants as lock
use Rattle.ebs_model.specs.declared.request.Request.{Request}
use Rattle.ebs_model.specs.declared.answer.Answer.{Answer}
use Rattle.ebs_model.specs.Arrays.{WholeBlock, WholeArray}
use Rattle.ebs_model.specs.Time.{Snapshot}
use Rattle.ebs_model.specs.Rows.{own_of, book_of}
use Rattle.ebs_model.specs.Machine.{Machine, rows_of, empty_machine}
use Rattle.ebs_model.specs.Step.{step}
use Rattle.ebs_model.specs.Timed.{Timed, after_all}
use Rattle.ebs_laws.specs.OrderLaws.{is_in_bin, is_tier_read}
use Rattle.ebs_laws.specs.Words.{use_of}

-- another's snapshot that the account may read at this second: shared with it or public, completed, outside the bin and in a tier that is read
abbrev pub is_shown_to : ℕ → ℕ → SnapRow → Bool
is_shown_to account now row = (row.public || list_any (λ a. a == account) row.shared) && (row.completed && (not (is_in_bin row.bin_end now) && is_tier_read row.tier now))

-- a snapshot without what its owner alone knows: its lock, with whom it is shared, whether it is public, and what was put in its upload
abbrev pub shown : Snapshot → Snapshot
shown s = record { row = record s.row { lock = lock.None; shared = []; public = false; put = fin.empty }; array = s.array }

-- the account's own snapshot is seen as it is, and another's as it is shown
abbrev pub seen_of : ℕ → SnapKey → ℕ → Option Snapshot → Option Snapshot
seen_of account key now None = None
seen_of account key now (Some s) = if account == key.account then Some s else (if is_shown_to account now s.row then Some (shown s) else None)

abbrev pub view : ℕ → Machine → SnapKey → Option Snapshot
view account m key = seen_of account key m.clock.second (fin.get m.snaps key)

-- neither is there, or both are and this holds of them
abbrev pub Both : {A : Type 0} → (A → A → Type 0) → Option A → Option A → Type 0
Both P None None = Unit {0}
Both P (Some x) (Some y) = P x y
Both P None (Some y) = ⊥
Both P (Some x) None = ⊥

-- which stamp of the one machine is which of the other
abbrev pub Renaming : Type 0
Renaming = ℕ → ℕ → Bool

-- it is one to one, and of stamps that were given out: they are below the next ones
pub record IsRenaming (r : Renaming) (next other_next : ℕ) : Type 0 where
  pub one : (a b c d : ℕ) → r a b ≡ true → r c d ≡ true → (a == c) ≡ (b == d)
  pub given : (a b : ℕ) → r a b ≡ true → (a < next) × (b < other_next)

-- equal bytes, and stamps that are renamed into one another
pub record SameBlock (r : Renaming) (b c : WholeBlock) : Type 0 where
  pub bytes : c.bytes ≡ b.bytes
  pub stamps : r b.stamp c.stamp ≡ true

-- blocks at the same indexes, and the same at each
pub record SameArray (r : Renaming) (f g : WholeArray) : Type 0 where
  pub at : (index : ℕ) → Both (SameBlock r) (fin.get f index) (fin.get g index)

-- equal rows and the same blocks
pub record SameSnapshot (r : Renaming) (x y : Snapshot) : Type 0 where
  pub row : y.row ≡ x.row
  pub array : SameArray r x.array y.array

-- the account's volume with this number
abbrev pub own_volume : ℕ → ℕ → VolKey
own_volume account number = record { account = account; number = number }

-- and its policy
abbrev pub own_policy : ℕ → ℕ → PolicyKey
own_policy account number = record { account = account; number = number }

-- after the renaming the account sees the same snapshots and its volumes have the same blocks; and its counters, its client tokens, its volumes' rows, its rules and its policies are equal
pub record SameView (account : ℕ) (r : Renaming) (m n : Machine) : Type 0 where
  pub renaming : IsRenaming r m.stamps n.stamps
  pub snaps : (key : SnapKey) → Both (SameSnapshot r) (view account m key) (view account n key)
  pub own : own_of (rows_of n) account ≡ own_of (rows_of m) account
  pub tokens : (text : List ℕ) → use_of n account (Some text) ≡ use_of m account (Some text)
  pub vols : (number : ℕ) → fin.get n.vols (own_volume account number) ≡ fin.get m.vols (own_volume account number)
  pub disks : (number : ℕ) → Both (SameArray r) (fin.get m.disks (own_volume account number)) (fin.get n.disks (own_volume account number))
  pub book : book_of (rows_of n) account ≡ book_of (rows_of m) account
  pub policies : (number : ℕ) → fin.get n.policies (own_policy account number) ≡ fin.get m.policies (own_policy account number)

-- the machines agree for the account: equal clocks and secrets, the same view after one renaming, and room for a further change
pub record AgreeFor (account : ℕ) (m n : Machine) : Type 0 where
  pub clock : n.clock ≡ m.clock
  pub secret : n.secret ≡ m.secret
  pub few : m.changes < 2 ^ 40
  pub other_few : n.changes < 2 ^ 40
  pub stamps : Renaming
  pub same : SameView account stamps m n

-- equal answers, and machines that agree for the account again, where both have room for a further change
pub record SameStep (account : ℕ) (one two : Machine × Answer) : Type 0 where
  pub answer : two.1 ≡ one.1
  pub after : one.0.changes < 2 ^ 40 → two.0.changes < 2 ^ 40 → AgreeFor account one.0 two.0

-- where two machines agree for an account, they answer its call alike and agree for it afterwards
abbrev pub OwnRowsAlone : Type 0
OwnRowsAlone =
    (account : ℕ) (m n : Machine) (reading : Moment) (request : Request) → AgreeFor account m n
    → SameStep account (step m account reading request) (step n account reading request)

-- each machine that calls lead to agrees with itself for every account, where it has room for a further change
abbrev pub AgreesWithItself : Type 0
AgreesWithItself = (secret : List ℕ) (turns : List Timed) (account : ℕ) → let m = after_all (empty_machine secret) turns in m.changes < 2 ^ 40 → AgreeFor account m m
