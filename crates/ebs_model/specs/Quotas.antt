-- Sizes, quotas, and counts of faults.
use Rattle.std.specs.Prelude.{ℕ, ◌*◌, ◌^◌, ◌+◌, ◌-◌, ◌≤◌, min}

abbrev pub block_size : ℕ
block_size = 524288

-- the indexes of an image of so many GiB are the numbers below this
abbrev pub blocks_of : ℕ → ℕ
blocks_of size = 2048 * size

-- open uploads of an account
abbrev pub most_open : ℕ
most_open = 100

-- kept snapshots of an account, failed uploads and those in the bin among them
abbrev pub most_kept : ℕ
most_kept = 10000

-- volumes of an account
abbrev pub most_volumes : ℕ
most_volumes = 1000

-- Recycle Bin rules of an account
abbrev pub most_rules : ℕ
most_rules = 50

-- lifecycle policies of an account
abbrev pub most_policies : ℕ
most_policies = 100

-- client tokens that an account has used
abbrev pub most_tokens : ℕ
most_tokens = 65536

-- ids of one kind that an account ever makes
abbrev pub most_ids : ℕ
most_ids = 2 ^ 28

-- accounts that one snapshot is shared with
abbrev pub most_shared : ℕ
most_shared = 1000

-- accepted changes of the store
abbrev pub most_changes : ℕ
most_changes = 2 ^ 40

-- the last moment, in seconds
abbrev pub last_second : ℕ
last_second = 2 ^ 36

-- a count of faults rose, or stands at its type's last value
abbrev pub Rose : ℕ → ℕ → Type 0
Rose before now = min (before + 1) (2 ^ 64 - 1) ≤ now
