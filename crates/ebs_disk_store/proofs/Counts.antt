-- An upload that ends has at most as many blocks as an image can have.
use Rattle.std.proofs.Common.{◌≡◌, ℕ, ◌<◌, ◌≤◌, ◌^◌, false, not, List, Option, None, Some, Ok, refl, sym, subst, arith}
use Rattle.std.specs.Prelude.{◌==◌, IsSome}
use Rattle.std.specs.List.{All}
use Rattle.std.specs.Map.{keys_of}
use Rattle.std.specs.Ordering.{nat_cmp}
use Rattle.std.specs.Cmp.{nat_cmp_total, eq_by_cmp_equiv}
use Rattle.std.specs.FinMap as fin
use Rattle.std.specs.FinMap.{get}
use Rattle.std.proofs.lemmas.Map.Views.{All-keys_from_lookup, length-le_from_below}
use Rattle.std.proofs.lemmas.Map.Entries.{length-keys_of}
use Rattle.std.proofs.lemmas.Bool.Decides.{nat_tests}
use Rattle.ebs_tables.proofs.TreeMaps.{get-lookup, entries-sorted}
use Rattle.ebs_model.specs.declared.keys.Moment.{Moment}
use Rattle.ebs_model.specs.declared.rows.SnapRow.{SnapRow}
use Rattle.ebs_model.specs.declared.request.Request.{Request}
use Rattle.ebs_model.specs.declared.request.Request.TheVariants.{StartSnapshot, PutSnapshotBlock, CompleteSnapshot, ListSnapshotBlocks, ListChangedBlocks, GetSnapshotBlock, DescribeSnapshot, DescribeSnapshots, DeleteSnapshot, ModifyPermission, LockSnapshot, UnlockSnapshot, ArchiveSnapshot, RestoreTier, CreateVolume, CreateSnapshot, WriteVolumeBlock, ReadVolumeBlock, DescribeVolume, DeleteVolume, CreateRule, GetRule, UpdateRule, DeleteRule, ListRules, LockRule, UnlockRule, ListBin, RestoreFromBin, CreatePolicy, GetPolicy, DeletePolicy, RunPolicy}
use Rattle.ebs_model.specs.declared.answer.Answer.{Answer}
use Rattle.ebs_model.specs.Access.{open_upload}
use Rattle.ebs_model.specs.Kept.{same}
use Rattle.ebs_model.specs.Machine.{Machine, advance, rows_of}
use Rattle.ebs_model.specs.Decide.{decide}
use Rattle.ebs_model.specs.Step.{act, finish, refuse_size}
use Rattle.ebs_disk_store.specs.inner.Shown.{HasIndexes, AreIndexed}
use Rattle.ebs_disk_store.proofs.RowCalls.{IsCounted}
use Rattle.ebs_disk_store.proofs.PutRuled.{both_ok, bind_ok, found, passes}
use Rattle.ebs_disk_store.proofs.PutSets.{rows_fine, indexed_aged}

-- numbers below a bound are at most so many
few_put : (row : SnapRow) → HasIndexes row → fin.len row.put ≤ 2 ^ 25
few_put row fine =
    let keys : List ℕ = keys_of (fin.entries row.put) in
    let below : All (λ n. n < 2 ^ 25) keys = All-keys_from_lookup (eq_by_cmp_equiv nat_cmp_total) (λ n. n < 2 ^ 25) (fin.entries row.put) (λ q there. at q (get row.put q) refl (subst IsSome (sym (get-lookup nat_cmp row.put q)) there)) in
    let few = length-le_from_below (2 ^ 25) keys (entries-sorted nat_cmp row.put) below in
    omega (arith, few, length-keys_of (fin.entries row.put), fin.len-entries row.put)
  where
    at : (q : ℕ) (o : Option (Unit {0})) → get row.put q ≡ o → IsSome o → q < 2 ^ 25
    at q None e there = absurd (cc)
    at q (Some u) e there = fine q e

same_count : (m n : ℕ) → not (m == n) ≡ false → m ≡ n
same_count m n e = grind (arith, nat_tests, e)

counted_end : (m : Machine) (now : Moment) (account : ℕ) (key : _) (count : ℕ) (checksum : Option (List ℕ)) (n : Machine) (answer : Answer)
    → act same (advance m now) account (CompleteSnapshot key count checksum) ≡ Ok (n, answer) → AreIndexed m → count ≤ 2 ^ 25
counted_end m now account key count checksum n answer e indexed =
    let at : Machine = advance m now in
    let d = bind_ok (decide (rows_of at) now account (CompleteSnapshot key count checksum)) (finish same at (CompleteSnapshot key count checksum)) (n, answer) e in
    let f = found (get (rows_of at).snaps key) _ (open_upload account key now.second) _ d.0 d.1 in
    let is = same_count (fin.len f.0.put) count (passes _ _ (both_ok _ _ d.0 f.3).0) in
    omega (arith, is, few_put f.0 (rows_fine at (indexed_aged m now indexed) key f.0 f.1))

pub counted : (m : Machine) (now : Moment) (account : ℕ) (request : Request) (n : Machine) (answer : Answer) → act same (advance m now) account request ≡ Ok (n, answer) → AreIndexed m → IsCounted request
counted m now account (StartSnapshot size parent description tags token timeout) n answer e indexed = tt
counted m now account (PutSnapshotBlock key index digest bytes) n answer e indexed = tt
counted m now account (CompleteSnapshot key count checksum) n answer e indexed = counted_end m now account key count checksum n answer e indexed
counted m now account (ListSnapshotBlocks key page most start) n answer e indexed = tt
counted m now account (ListChangedBlocks first second page most start) n answer e indexed = tt
counted m now account (GetSnapshotBlock key index token) n answer e indexed = tt
counted m now account (DescribeSnapshot key) n answer e indexed = tt
counted m now account (DescribeSnapshots from most) n answer e indexed = tt
counted m now account (DeleteSnapshot key) n answer e indexed = tt
counted m now account (ModifyPermission key add add_all remove remove_all) n answer e indexed = tt
counted m now account (LockSnapshot key mode term cool_hours) n answer e indexed = tt
counted m now account (UnlockSnapshot key) n answer e indexed = tt
counted m now account (ArchiveSnapshot key) n answer e indexed = tt
counted m now account (RestoreTier key days) n answer e indexed = tt
counted m now account (CreateVolume origin size tags token) n answer e indexed = tt
counted m now account (CreateSnapshot volume description tags) n answer e indexed = tt
counted m now account (WriteVolumeBlock key index digest bytes) n answer e indexed = tt
counted m now account (ReadVolumeBlock key index) n answer e indexed = tt
counted m now account (DescribeVolume key) n answer e indexed = tt
counted m now account (DeleteVolume key) n answer e indexed = tt
counted m now account (CreateRule days tags description delay) n answer e indexed = tt
counted m now account (GetRule key) n answer e indexed = tt
counted m now account (UpdateRule key days tags description) n answer e indexed = tt
counted m now account (DeleteRule key) n answer e indexed = tt
counted m now account ListRules n answer e indexed = tt
counted m now account (LockRule key delay) n answer e indexed = tt
counted m now account (UnlockRule key) n answer e indexed = tt
counted m now account (ListBin from most) n answer e indexed = tt
counted m now account (RestoreFromBin key) n answer e indexed = tt
counted m now account (CreatePolicy targets hours time retain add) n answer e indexed = tt
counted m now account (GetPolicy key) n answer e indexed = tt
counted m now account (DeletePolicy key) n answer e indexed = tt
counted m now account (RunPolicy key) n answer e indexed = tt

-- a request that is accepted has a size that an image can have
pub sized : (m : Machine) (account : ℕ) (request : Request) (n : Machine) (answer : Answer) → act same m account request ≡ Ok (n, answer) → refuse_size request ≡ Ok tt
sized m account request n answer e = (both_ok (refuse_size request) _ (n, answer) e).0
