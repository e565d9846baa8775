-- Which calls are accepted.
use Rattle.std.proofs.Common.{◌≡◌, ℕ, ◌*◌, ◌^◌, ◌<◌, ◌≢◌, true, false, ◌&&◌, ◌==◌, nat_le, nat_lt, List, Option, None, Some, Ok, ap, ◌∙◌, refl, length, arith}
use Rattle.std.proofs.lemmas.Bool.Decides.{nat_tests}
use Rattle.std.specs.Cmp.Lexicographic.{nat_list_eq_equiv}
use Rattle.std.specs.FinMap as fin
use Rattle.sha2.specs.Sha256.{sha256}
use Rattle.ebs_model.specs.declared.keys.SnapKey.{SnapKey}
use Rattle.ebs_model.specs.declared.keys.Moment.{Moment}
use Rattle.ebs_model.specs.declared.request.Request.TheVariants.{StartSnapshot, PutSnapshotBlock, CompleteSnapshot}
use Rattle.ebs_model.specs.declared.answer.Answer.TheVariants.{Started, BlockWritten, Completed}
use Rattle.ebs_model.specs.Limits.{has_ten_digits, bad_start, is_size}
use Rattle.ebs_model.specs.Time.{Snapshot}
use Rattle.ebs_model.specs.Access.{open_upload}
use Rattle.ebs_model.specs.Machine.{Machine, advance, moment_of, rows_of}
use Rattle.ebs_model.specs.declared.tags.Tag.{Tag}
use Rattle.ebs_model.specs.Step.{step, settled}
use Rattle.ebs_laws.specs.Uploads.{MayBegin, checksum_of}
use Rattle.ebs_laws.proofs.Origins.{may-begin}
use Rattle.ebs_model.specs.Quotas.{block_size}
use Rattle.ebs_laws.proofs.Whole.{own_of, Origin, origin, call}
use Rattle.ebs_laws.proofs.Acts.{call-whole}
use Rattle.ebs_model.specs.Rows.{open_count, kept_count, token_count}
use Rattle.ebs_model.specs.Calls.Start.{has_token}
use Rattle.ebs_laws.specs.Words.{use_of, IsUnused}
use Rattle.ebs_laws.proofs.Uses.{unused-aged}

below : (a b : ℕ) → a < b → nat_le b a ≡ false
below a b h = grind (arith, nat_tests)

itself : (n : ℕ) → (n == n) ≡ true
itself n = grind (arith, nat_tests)

module _ (at : Machine) (account : ℕ) (key : SnapKey) (s : Snapshot) (is : fin.get at.snaps key ≡ Some s) (passes : open_upload account key at.clock.second s.row ≡ Ok tt) (few : nat_le (2 ^ 40) at.changes ≡ false) where
  puts : (index : ℕ) (bytes : List ℕ) → has_ten_digits index ≡ true → (length bytes == block_size) ≡ true → nat_le (2048 * s.row.size) index ≡ false → (settled at (call at account (PutSnapshotBlock key index (sha256 bytes) bytes))).1 ≡ BlockWritten (sha256 bytes)
  puts index bytes digits size within = let same = nat_list_eq_equiv.refl (sha256 bytes) in rw (digits, size, same, is, passes, within, few) refl

  completes : has_ten_digits (fin.len s.row.put) ≡ true → (settled at (call at account (CompleteSnapshot key (fin.len s.row.put) (Some (checksum_of s))))).1 ≡ Completed
  completes digits = let same = nat_list_eq_equiv.refl (checksum_of s) in let count = itself (fin.len s.row.put) in rw (digits, is, passes, count, same, few) refl

module _ (m : Machine) (account : ℕ) (reading : Moment) (key : SnapKey) (s : Snapshot) where
  pub puts-step : (index : ℕ) (bytes : List ℕ) → let at = advance m (moment_of m reading) in fin.get at.snaps key ≡ Some s → open_upload account key at.clock.second s.row ≡ Ok tt → has_ten_digits index ≡ true → index < 2048 * s.row.size → length bytes ≡ block_size → m.changes < 2 ^ 40 → (step m account reading (PutSnapshotBlock key index (sha256 bytes) bytes)).1 ≡ BlockWritten (sha256 bytes)
  puts-step index bytes is passes digits within size few =
      let at = advance m (moment_of m reading) in
      ap (λ r. (settled at r).1) (call-whole at account (PutSnapshotBlock key index (sha256 bytes) bytes))
      ∙ puts at account key s is passes (below m.changes (2 ^ 40) few) index bytes digits (ap (λ n. n == block_size) size) (below index (2048 * s.row.size) within)

  pub completes-step : let at = advance m (moment_of m reading) in fin.get at.snaps key ≡ Some s → open_upload account key at.clock.second s.row ≡ Ok tt → has_ten_digits (fin.len s.row.put) ≡ true → m.changes < 2 ^ 40 → (step m account reading (CompleteSnapshot key (fin.len s.row.put) (Some (checksum_of s)))).1 ≡ Completed
  completes-step is passes digits few =
      let at = advance m (moment_of m reading) in
      ap (λ r. (settled at r).1) (call-whole at account (CompleteSnapshot key (fin.len s.row.put) (Some (checksum_of s))))
      ∙ completes at account key s is passes (below m.changes (2 ^ 40) few) digits

starts : (at : Machine) (account size : ℕ) (parent : Option SnapKey) (text : Option (List ℕ)) (tags : List Tag) (token : Option (List ℕ)) (timeout : ℕ) → bad_start text tags token timeout ≡ None → is_size size ≡ true → use_of at account token ≡ None → nat_le 100 (open_count (rows_of at) account at.clock.second) ≡ false → nat_le 10000 (kept_count (rows_of at) account) ≡ false → (has_token token && nat_le 65536 (token_count (rows_of at) account)) ≡ false → nat_le (2 ^ 28) (own_of at account).next_snap ≡ false → nat_le (2 ^ 40) at.changes ≡ false
    → (from : Origin) → origin at account (record { account = account; number = (own_of at account).next_snap }) parent ≡ Ok from → nat_lt size from.size ≡ false
    → (settled at (call at account (StartSnapshot size parent text tags token timeout))).1 ≡ Started text account parent (record { account = account; number = (own_of at account).next_snap }) at.clock tags size
starts at account size parent text tags token timeout good fits unused open_few kept_few tokens_few number few from begins reaches = rw (good, fits, unused, begins, reaches, open_few, kept_few, tokens_few, number, few) refl

-- there is room for a client token, where one is given
token_room : (token : Option (List ℕ)) (n : ℕ) → (token ≢ None → n < 65536) → (has_token token && nat_le 65536 n) ≡ false
token_room None n few = refl
token_room (Some text) n few = below n 65536 (few (λ e. cc))

pub starts-step : (m : Machine) (account : ℕ) (reading : Moment) (size : ℕ) (parent : Option SnapKey) (text : Option (List ℕ)) (tags : List Tag) (token : Option (List ℕ)) (timeout : ℕ) → let at = advance m (moment_of m reading) in bad_start text tags token timeout ≡ None → is_size size ≡ true → IsUnused m account token → MayBegin at account parent size → open_count (rows_of at) account at.clock.second < 100 → kept_count (rows_of at) account < 10000 → (token ≢ None → token_count (rows_of m) account < 65536) → (own_of m account).next_snap < 2 ^ 28 → m.changes < 2 ^ 40
    → (step m account reading (StartSnapshot size parent text tags token timeout)).1 ≡ Started text account parent (record { account = account; number = (own_of m account).next_snap }) (moment_of m reading) tags size
starts-step m account reading size parent text tags token timeout good fits unused may open_few kept_few tokens_few number few =
    let at = advance m (moment_of m reading) in
    let (from, begins, reaches) = may-begin at account (record { account = account; number = (own_of at account).next_snap }) parent size may in
    ap (λ r. (settled at r).1) (call-whole at account (StartSnapshot size parent text tags token timeout))
    ∙ starts at account size parent text tags token timeout good fits (unused-aged m (moment_of m reading) account token unused) (below (open_count (rows_of at) account at.clock.second) 100 open_few) (below (kept_count (rows_of at) account) 10000 kept_few) (token_room token (token_count (rows_of m) account) tokens_few) (below (own_of m account).next_snap (2 ^ 28) number) (below m.changes (2 ^ 40) few) from begins reaches
