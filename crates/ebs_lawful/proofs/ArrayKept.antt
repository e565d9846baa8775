-- Calls and time keep arrays.
use Rattle.std.proofs.Common.{◌≡◌, ℕ, Bool, true, false, cond, List, [], ◌∷◌, Option, Some, None, is_some, Result, Ok, Err, refl, sym, ap, subst, ◌∙◌}
use Rattle.std.specs.Option.{option_map}
use Rattle.std.specs.Ordering.{nat_cmp, eq_by_cmp}
use Rattle.std.specs.FinMap.{FinMap, get, contains_key, insert, remove, empty, get-empty, get-insert, get-remove}
use Rattle.ebs_tables.proofs.MapEdits.{is_same}
use Rattle.ebs_model.specs.declared.keys.SnapKey.{SnapKey}
use Rattle.ebs_model.specs.declared.keys.VolKey.{VolKey}
use Rattle.ebs_model.specs.declared.policy.Policy.{Policy}
use Rattle.ebs_model.specs.declared.rows.SnapRow.{SnapRow}
use Rattle.ebs_model.specs.declared.rows.VolRow.{VolRow}
use Rattle.ebs_model.specs.declared.request.Request.{Request}
use Rattle.ebs_model.specs.declared.request.Request.TheVariants.{StartSnapshot, PutSnapshotBlock, CompleteSnapshot, DeleteSnapshot, ModifyPermission, LockSnapshot, UnlockSnapshot, ArchiveSnapshot, RestoreTier, CreateVolume, CreateSnapshot, WriteVolumeBlock, DeleteVolume, RestoreFromBin, RunPolicy}
use Rattle.ebs_model.specs.declared.lock.LockCommand.TheVariants.{Lock, Unlock}
use Rattle.ebs_model.specs.declared.change.Change.{Change}
use Rattle.ebs_model.specs.declared.change.Decision.{Decision}
use Rattle.ebs_model.specs.declared.change.Decision.TheVariants as decision
use Rattle.ebs_model.specs.declared.answer.Answer.{Answer}
use Rattle.ebs_model.specs.declared.answer.Refusal.{Refusal}
use Rattle.ebs_model.specs.Keys.{snap_cmp, vol_cmp}
use Rattle.ebs_model.specs.inner.Orders.{vols_total, exact_vols}
use Rattle.ebs_model.specs.Refuse.{◌>>=◌, ◌>>◌}
use Rattle.ebs_model.specs.Arrays.{Hash, WholeBlock, WholeArray}
use Rattle.ebs_model.specs.Time.{Snapshot, stays, rested, status_at, is_failed}
use Rattle.ebs_model.specs.Rows.{Rows}
use Rattle.ebs_model.specs.Machine.{Machine, rows_of, snap_rows, array_of, disk_of}
use Rattle.ebs_model.specs.Decisions.{made_snap, made_vol}
use Rattle.ebs_model.specs.Decide.{decide, commit, commit_by}
use Rattle.ebs_model.specs.Step.{finish, read, changed, bytes_of, refuse_size, refuse_digest, refuse_linear, begun_array, source_array, array_by, array_after, disks_by}
use Rattle.ebs_model.specs.Calls.Start.{next_key, commit_start, started_row, line_of}
use Rattle.ebs_model.specs.Calls.Put.{put_row}
use Rattle.ebs_model.specs.Calls.Complete.{completed_row}
use Rattle.ebs_model.specs.Calls.Permission.{permitted_row}
use Rattle.ebs_model.specs.Calls.Lock.{locked_row}
use Rattle.ebs_model.specs.Calls.Archive.{archived_row, restored_row}
use Rattle.ebs_model.specs.Calls.Bin.{recovered}
use Rattle.ebs_model.specs.Calls.Disk.{commit_snap, with_snapped, snapped_row}
use Rattle.ebs_model.specs.Calls.Volume.{next_volume, commit_create, volume_line}
use Rattle.ebs_model.specs.Calls.Run.{run_by, run_source}
use Rattle.ebs_model.proofs.Aged.{get-aged, aged_row}
use Rattle.ebs_model.proofs.RowLaws.{get-with, with_array}
use Rattle.ebs_model.proofs.RunLaws.{deleted-beside, run-beside}
use Rattle.ebs_lawful.specs.Arrays.{FitsIn, IsArrayOf, AreArrays}
use Rattle.ebs_lawful.specs.ArrayLaws.{EmptyHasArrays, CallsKeepArrays, TimeKeepsArrays}
use Rattle.ebs_lawful.proofs.Maps.{none_some, some_is}
use Rattle.ebs_lawful.proofs.Done.{of_done}
use Rattle.ebs_lawful.proofs.ArrayWalk.{ArrayFacts, FactsOf, told}
use Rattle.ebs_lawful.proofs.ArrayRows.{none-fits, written-fits, put-there, no-puts, volume-array, begun-fits, old, placed, rewritten, deleted-fine, ran-fine}

same-row : (row : SnapRow) (array : WholeArray) (new : SnapRow) → new.size ≡ row.size → new.put ≡ row.put → IsArrayOf row array → IsArrayOf new array
same-row row array new size put h = record {
  fits = subst (λ (n : ℕ). FitsIn n array) (sym size) h.fits;
  puts = λ i e. h.puts i (ap (λ (p : FinMap nat_cmp (Unit {0})). get p i) (sym put) ∙ e);
}

-- ---- volumes with their arrays

record AreDisks (table : FinMap vol_cmp VolRow) (images : FinMap vol_cmp WholeArray) : Type 0 where
  vols : (key : VolKey) (row : VolRow) → get table key ≡ Some row → (array : WholeArray) × (get images key ≡ Some array) × FitsIn row.size array
  disks : (key : VolKey) (array : WholeArray) → get images key ≡ Some array → contains_key table key ≡ true

module _ (vols : FinMap vol_cmp VolRow) (disks : FinMap vol_cmp WholeArray) (h : AreDisks vols disks) (key : VolKey) where
  disk-made : (row : VolRow) (array : WholeArray) → FitsIn row.size array → AreDisks (insert vols key row) (insert disks key array)
  disk-made row array fits = record { vols = there; disks = back }
    where
      there : (q : VolKey) (x : VolRow) → get (insert vols key row) q ≡ Some x → (a : WholeArray) × (get (insert disks key array) q ≡ Some a) × FitsIn x.size a
      there q x e = by (eq_by_cmp vol_cmp q key) refl (sym (get-insert vols_total vols key row q) ∙ e)
        where
          by : (b : Bool) → eq_by_cmp vol_cmp q key ≡ b → cond b (Some row) (get vols q) ≡ Some x → (a : WholeArray) × (get (insert disks key array) q ≡ Some a) × FitsIn x.size a
          by true t e = (array, get-insert vols_total disks key array q ∙ ap (λ (b : Bool). cond b (Some array) (get disks q)) t, subst (λ (r : VolRow). FitsIn r.size array) (some_is row x e) fits)
          by false t e = let a = h.vols q x e in (a.0, get-insert vols_total disks key array q ∙ ap (λ (b : Bool). cond b (Some array) (get disks q)) t ∙ a.1, a.2)

      back : (q : VolKey) (a : WholeArray) → get (insert disks key array) q ≡ Some a → contains_key (insert vols key row) q ≡ true
      back q a e = by (eq_by_cmp vol_cmp q key) refl (sym (get-insert vols_total disks key array q) ∙ e)
        where
          by : (b : Bool) → eq_by_cmp vol_cmp q key ≡ b → cond b (Some array) (get disks q) ≡ Some a → contains_key (insert vols key row) q ≡ true
          by true t e = ap is_some (get-insert vols_total vols key row q ∙ ap (λ (b : Bool). cond b (Some row) (get vols q)) t)
          by false t e = ap is_some (get-insert vols_total vols key row q ∙ ap (λ (b : Bool). cond b (Some row) (get vols q)) t) ∙ h.disks q a e

  disk-written : (row : VolRow) (array : WholeArray) → get vols key ≡ Some row → FitsIn row.size array → AreDisks vols (insert disks key array)
  disk-written row array found fits = record { vols = there; disks = back }
    where
      there : (q : VolKey) (x : VolRow) → get vols q ≡ Some x → (a : WholeArray) × (get (insert disks key array) q ≡ Some a) × FitsIn x.size a
      there q x e = by (eq_by_cmp vol_cmp q key) refl
        where
          by : (b : Bool) → eq_by_cmp vol_cmp q key ≡ b → (a : WholeArray) × (get (insert disks key array) q ≡ Some a) × FitsIn x.size a
          by true t =
              let is : row ≡ x = some_is row x (sym found ∙ ap (get vols) (sym (is_same exact_vols q key t)) ∙ e) in
              (array, get-insert vols_total disks key array q ∙ ap (λ (b : Bool). cond b (Some array) (get disks q)) t, subst (λ (r : VolRow). FitsIn r.size array) is fits)
          by false t = let a = h.vols q x e in (a.0, get-insert vols_total disks key array q ∙ ap (λ (b : Bool). cond b (Some array) (get disks q)) t ∙ a.1, a.2)

      back : (q : VolKey) (a : WholeArray) → get (insert disks key array) q ≡ Some a → contains_key vols q ≡ true
      back q a e = by (eq_by_cmp vol_cmp q key) refl (sym (get-insert vols_total disks key array q) ∙ e)
        where
          by : (b : Bool) → eq_by_cmp vol_cmp q key ≡ b → cond b (Some array) (get disks q) ≡ Some a → contains_key vols q ≡ true
          by true t e = ap is_some (ap (get vols) (is_same exact_vols q key t) ∙ found)
          by false t e = h.disks q a e

  disk-gone : AreDisks (remove vols key) (remove disks key)
  disk-gone = record { vols = there; disks = back }
    where
      there : (q : VolKey) (x : VolRow) → get (remove vols key) q ≡ Some x → (a : WholeArray) × (get (remove disks key) q ≡ Some a) × FitsIn x.size a
      there q x e = by (eq_by_cmp vol_cmp q key) refl (sym (get-remove vols_total vols key q) ∙ e)
        where
          by : (b : Bool) → eq_by_cmp vol_cmp q key ≡ b → cond b None (get vols q) ≡ Some x → (a : WholeArray) × (get (remove disks key) q ≡ Some a) × FitsIn x.size a
          by true t e = none_some e
          by false t e = let a = h.vols q x e in (a.0, get-remove vols_total disks key q ∙ ap (λ (b : Bool). cond b None (get disks q)) t ∙ a.1, a.2)

      back : (q : VolKey) (a : WholeArray) → get (remove disks key) q ≡ Some a → contains_key (remove vols key) q ≡ true
      back q a e = by (eq_by_cmp vol_cmp q key) refl (sym (get-remove vols_total disks key q) ∙ e)
        where
          by : (b : Bool) → eq_by_cmp vol_cmp q key ≡ b → cond b None (get disks q) ≡ Some a → contains_key (remove vols key) q ≡ true
          by true t e = none_some e
          by false t e = ap is_some (get-remove vols_total vols key q ∙ ap (λ (b : Bool). cond b None (get vols q)) t) ∙ h.disks q a e

-- ---- a change

module _ (m : Machine) (arrays : AreArrays m) (account : ℕ) (bytes : List ℕ) where
  abbrev rows : Rows
  rows = rows_of m

  abbrev Fine : FinMap snap_cmp SnapRow → (SnapKey → WholeArray) → Type 0
  Fine snaps array = (q : SnapKey) (row : SnapRow) → get snaps q ≡ Some row → IsArrayOf row (array q)

  fine-after : (made : Option SnapKey) (vol : Option VolKey) (r : Request) → ArrayFacts rows account made vol r → Fine (commit_by rows m.clock account made vol r).snaps (array_by m bytes made r)
  fine-after made vol (StartSnapshot size parent description tags token timeout) (is, least) =
      let key : SnapKey = next_key rows account in
      subst (λ (o : Option SnapKey). Fine (commit_start rows m.clock o size parent description tags token timeout).snaps (array_by m bytes o (StartSnapshot size parent description tags token timeout))) (sym is)
      (placed m arrays key (started_row m.clock key size parent (line_of rows.snaps key parent) description tags timeout) (λ q. begun_array m parent) (record { fits = begun-fits m arrays parent size least; puts = no-puts (begun_array m parent) }))
  fine-after made vol (PutSnapshotBlock key index digest left) (row, there, low) =
      let was = old m arrays key row there in
      let new : WholeBlock = record { stamp = m.stamps; bytes = bytes } in
      subst (λ (o : Option SnapRow). Fine (Rattle.ebs_model.specs.Rows.changed_row (snap_rows m.snaps) key (put_row m.clock index) o) (array_by m bytes made (PutSnapshotBlock key index digest left))) (sym there)
      (placed m arrays key (put_row m.clock index row) (λ q. insert (array_of m q) index new) (record { fits = written-fits row.size (array_of m key) index new low was.fits; puts = put-there row.put (array_of m key) index new was.puts }))
  fine-after made vol (CompleteSnapshot key count checksum) h = rewritten m arrays key completed_row (λ row array was. record { fits = was.fits; puts = no-puts array })
  fine-after made vol (DeleteSnapshot key) h = deleted-fine m arrays m.clock key
  fine-after made vol (ModifyPermission key add add_all remove remove_all) h = rewritten m arrays key (permitted_row add add_all remove remove_all) (λ row array was. same-row row array _ refl refl was)
  fine-after made vol (LockSnapshot key mode term cool_hours) h = rewritten m arrays key (locked_row m.clock (Lock mode term cool_hours)) (λ row array was. same-row row array _ refl refl was)
  fine-after made vol (UnlockSnapshot key) h = rewritten m arrays key (locked_row m.clock Unlock) (λ row array was. same-row row array _ refl refl was)
  fine-after made vol (ArchiveSnapshot key) h = rewritten m arrays key (archived_row m.clock) (λ row array was. same-row row array _ refl refl was)
  fine-after made vol (RestoreTier key days) h = rewritten m arrays key (restored_row m.clock days) (λ row array was. same-row row array _ refl refl was)
  fine-after made vol (RestoreFromBin key) h = rewritten m arrays key recovered (λ row array was. same-row row array _ refl refl was)
  fine-after made vol (CreateVolume origin size tags token) (is, least) = subst (λ (o : Option VolKey). Fine (commit_create rows m.clock o origin size tags token).snaps (array_of m)) (sym is) (old m arrays)
  fine-after made vol (CreateSnapshot volume description tags) (row, there, is) =
      let key : SnapKey = next_key rows account in
      let new : SnapRow = snapped_row m.clock key volume row description tags in
      subst (λ (o : Option SnapKey). Fine (commit_snap rows m.clock o volume description tags).snaps (array_by m bytes o (CreateSnapshot volume description tags))) (sym is)
      (subst (λ (o : Option VolRow). Fine (with_snapped rows m.clock key volume description tags o).snaps (array_by m bytes (Some key) (CreateSnapshot volume description tags))) (sym there)
      (placed m arrays key new (λ q. disk_of m volume) (record { fits = volume-array m arrays volume row there; puts = no-puts (disk_of m volume) })))
  fine-after made vol (RunPolicy key) (p, there) =
      subst (λ (o : Option Policy). Fine (run_by rows m.clock key o).snaps (λ q. source_array m (run_source rows m.clock.second key o q) q)) (sym there) (ran-fine m arrays m.clock key p)
  fine-after made vol r h = old m arrays

  now-disks : AreDisks m.vols m.disks
  now-disks = record { vols = arrays.vols; disks = arrays.disks }

  disks-after : (made : Option SnapKey) (vol : Option VolKey) (r : Request) → ArrayFacts rows account made vol r → AreDisks (commit_by rows m.clock account made vol r).vols (disks_by m bytes vol r)
  disks-after made vol (StartSnapshot size parent description tags token timeout) (is, least) = subst (λ (o : Option SnapKey). AreDisks (commit_start rows m.clock o size parent description tags token timeout).vols m.disks) (sym is) now-disks
  disks-after made vol (CreateSnapshot volume description tags) (row, there, is) =
      subst (λ (o : Option SnapKey). AreDisks (commit_snap rows m.clock o volume description tags).vols m.disks) (sym is)
      (subst (λ (o : Option VolRow). AreDisks (with_snapped rows m.clock (next_key rows account) volume description tags o).vols m.disks) (sym there) now-disks)
  disks-after made vol (DeleteSnapshot key) h = let beside = deleted-beside rows m.clock (key ∷ []) in subst (λ (v : FinMap vol_cmp VolRow). AreDisks v m.disks) (sym beside.vols) now-disks
  disks-after made vol (CreateVolume origin None tags token) (is, least) = absurd least
  disks-after made vol (CreateVolume origin (Some size) tags token) (is, least) =
      let key : VolKey = next_volume rows account in
      subst (λ (o : Option VolKey). AreDisks (commit_create rows m.clock o origin (Some size) tags token).vols (disks_by m bytes o (CreateVolume origin (Some size) tags token))) (sym is)
      (disk-made m.vols m.disks now-disks key (record { key = key; size = size; line = volume_line rows.snaps key origin; origin = origin; tags = tags }) (begun_array m origin) (begun-fits m arrays origin size least))
  disks-after made vol (WriteVolumeBlock key index digest left) (row, there, low) =
      let new : WholeBlock = record { stamp = m.stamps; bytes = bytes } in
      disk-written m.vols m.disks now-disks key row (insert (disk_of m key) index new) there (written-fits row.size (disk_of m key) index new low (volume-array m arrays key row there))
  disks-after made vol (DeleteVolume key) h = disk-gone m.vols m.disks now-disks key
  disks-after made vol (RunPolicy key) (p, there) =
      subst (λ (o : Option Policy). AreDisks (run_by rows m.clock key o).vols m.disks) (sym there) (subst (λ (v : FinMap vol_cmp VolRow). AreDisks v m.disks) (sym (run-beside rows m.clock key p).0) now-disks)
  disks-after made vol r h = now-disks

  moved : (c : Change) → c.at ≡ m.clock → c.account ≡ account → ArrayFacts rows account (made_snap c.made) (made_vol c.made) c.request → AreArrays (changed m bytes c)
  moved c at who h =
      let fine = fine-after (made_snap c.made) (made_vol c.made) c.request h in
      let new : Rows = commit rows c in
      let is : new ≡ commit_by rows m.clock account (made_snap c.made) (made_vol c.made) c.request = λ i. commit_by rows (at i) (who i) (made_snap c.made) (made_vol c.made) c.request in
      let disks = subst (λ (r : Rows). AreDisks r.vols (disks_by m bytes (made_vol c.made) c.request)) (sym is) (disks-after (made_snap c.made) (made_vol c.made) c.request h) in
      record { snaps = of (subst (λ (r : Rows). Fine r.snaps (array_by m bytes (made_snap c.made) c.request)) (sym is) fine); vols = disks.vols; disks = disks.disks }
    where
      of : Fine (commit rows c).snaps (array_after m bytes c) → (key : SnapKey) (s : Snapshot) → get (changed m bytes c).snaps key ≡ Some s → IsArrayOf s.row s.array
      of fine key s e = by (get (commit rows c).snaps key) refl (sym (get-with (commit rows c).snaps (array_after m bytes c) key) ∙ e)
        where
          by : (o : Option SnapRow) → get (commit rows c).snaps key ≡ o → option_map (with_array (array_after m bytes c key)) o ≡ Some s → IsArrayOf s.row s.array
          by None is e = none_some e
          by (Some row) is e = subst (λ (x : Snapshot). IsArrayOf x.row x.array) (some_is (with_array (array_after m bytes c key) row) s e) (fine key row is)

-- ---- a call

abbrev Outcome : Type 0
Outcome = Result (Machine × Answer) Refusal

behind : {A B : Type 0} (x : Result A Refusal) (f : A → Result B Refusal) (p : B) → (x >>= f) ≡ Ok p → (v : A) × (x ≡ Ok v) × (f v ≡ Ok p)
behind (Ok v) f p e = (v, refl, e)
behind (Err r) f p e = absurd (cc)

past : {B : Type 0} (x : Result (Unit {0}) Refusal) (y : Result B Refusal) (p : B) → (x >> y) ≡ Ok p → y ≡ Ok p
past (Ok u) y p e = e
past (Err r) y p e = absurd (cc)

abbrev machine_in : Machine → Outcome → Machine
machine_in m (Ok p) = p.0
machine_in m (Err r) = m

first_is : (n m : Machine) (a b : Answer) → ◌≡◌ {A = Outcome} (Ok (m, b)) (Ok (n, a)) → n ≡ m
first_is n m a b e = sym (ap (machine_in m) e)

finished : (hash : Hash) (m : Machine) (account : ℕ) (request : Request) → AreArrays m → (d : Decision) (n : Machine) (a : Answer) → FactsOf (rows_of m) m.clock account d → finish hash m request d ≡ Ok (n, a) → AreArrays n
finished hash m account request h (decision.Kept answer) n a of e = subst AreArrays (sym (first_is n m a answer e)) h
finished hash m account request h (decision.View answer) n a of e = subst AreArrays (sym (first_is n m a answer e)) h
finished hash m account request h (decision.Read row) n a of e = let found = behind (read hash m request row) (λ answer. Ok (m, answer)) (n, a) e in subst AreArrays (sym (first_is n m a found.0 found.2)) h
finished hash m account request h (decision.Change c answer) n a of e =
    subst AreArrays (sym (first_is n (changed m (bytes_of request) c) a answer (past _ _ (n, a) (past (refuse_linear hash m request) _ (n, a) e)))) (moved m h account (bytes_of request) c of.0 of.1 of.2)

pub calls-arrays : CallsKeepArrays
calls-arrays hash m account request n answer e h =
    let found = behind (decide (rows_of m) m.clock account request) (finish hash m request) (n, answer) (past (refuse_digest hash request) _ (n, answer) (past (refuse_size request) _ (n, answer) e)) in
    finished hash m account request h found.0 n answer (of_done (FactsOf (rows_of m) m.clock account) found.0 _ found.1 (told (rows_of m) m.clock account request)) found.2

-- ---- time, and the empty machine

pub time-arrays : TimeKeepsArrays
time-arrays m now h = record { snaps = λ key s e. at key s (get m.snaps key) refl (sym (get-aged now.second m.snaps key) ∙ e); vols = h.vols; disks = h.disks }
  where
    rests : (before : Snapshot) (b : Bool) → IsArrayOf before.row before.array → IsArrayOf (record before.row { put = cond b empty before.row.put }) (cond b empty before.array)
    rests before true was = record { fits = none-fits before.row.size; puts = no-puts empty }
    rests before false was = record { fits = was.fits; puts = was.puts }

    by : (s before : Snapshot) (b : Bool) → IsArrayOf before.row before.array → option_map (rested now.second) (cond b (Some before) None) ≡ Some s → IsArrayOf s.row s.array
    by s before true was e = subst (λ (x : Snapshot). IsArrayOf x.row x.array) (some_is (rested now.second before) s e) (rests before (is_failed (status_at before.row now.second)) was)
    by s before false was e = none_some e

    at : (key : SnapKey) (s : Snapshot) (o : Option Snapshot) → get m.snaps key ≡ o → aged_row now.second o ≡ Some s → IsArrayOf s.row s.array
    at key s None is e = none_some e
    at key s (Some before) is e = by s before (stays now.second before.row) (h.snaps key before is) e

pub empty-arrays : EmptyHasArrays
empty-arrays secret = record {
  snaps = λ key s e. none_some (sym (get-empty {X = Snapshot} snap_cmp key) ∙ e);
  vols = λ key row e. none_some (sym (get-empty {X = VolRow} vol_cmp key) ∙ e);
  disks = λ key array e. none_some (sym (get-empty {X = WholeArray} vol_cmp key) ∙ e);
}
