-- The arrays of snapshots and of volumes, through each change.
use Rattle.std.proofs.Common.{◌≡◌, ◌⊎◌, inl, inr, ℕ, ◌<◌, ◌≤◌, arith, Bool, true, false, cond, List, [], ◌∷◌, Option, Some, None, is_some, refl, sym, ap, subst, ◌∙◌}
use Rattle.std.specs.Prelude.{unwrap_or}
use Rattle.std.proofs.lemmas.Bool.{false≢true}
use Rattle.std.specs.List.{AllByRecursion}
use Rattle.std.specs.Option.{option_map}
use Rattle.std.specs.Ordering.{nat_cmp, eq_by_cmp}
use Rattle.std.specs.Cmp.{nat_cmp_total}
use Rattle.std.specs.FinMap.{FinMap, nat_cmp-IsAntisymmetric, get, contains_key, insert, empty, get-empty, get-insert, get-remove}
use Rattle.ebs_tables.proofs.MapEdits.{is_same, tied, get-inserted}
use Rattle.ebs_model.specs.declared.keys.SnapKey.{SnapKey}
use Rattle.ebs_model.specs.declared.keys.VolKey.{VolKey}
use Rattle.ebs_model.specs.declared.keys.PolicyKey.{PolicyKey}
use Rattle.ebs_model.specs.declared.keys.Moment.{Moment}
use Rattle.ebs_model.specs.declared.policy.Policy.{Policy}
use Rattle.ebs_model.specs.declared.rows.SnapRow.{SnapRow}
use Rattle.ebs_model.specs.declared.rows.VolRow.{VolRow}
use Rattle.ebs_model.specs.Keys.{snap_cmp}
use Rattle.ebs_model.specs.inner.Orders.{snaps_total, exact_snaps}
use Rattle.ebs_model.specs.Quotas.{blocks_of}
use Rattle.ebs_model.specs.Arrays.{WholeBlock, WholeArray}
use Rattle.ebs_model.specs.Time.{Snapshot}
use Rattle.ebs_model.specs.Rows.{Rows, is_key, changed_row, with_row}
use Rattle.ebs_model.specs.Machine.{Machine, rows_of, snap_rows, array_at, array_of, disk_of}
use Rattle.ebs_model.specs.Step.{begun_array, source_array}
use Rattle.ebs_model.specs.Calls.Start.{next_key}
use Rattle.ebs_model.specs.Calls.Delete.{days_in_bin, deleted, deleted_by}
use Rattle.ebs_model.specs.Calls.Run.{due_targets, following, source_of, run_row, run_ended, run_released, freed, run_rows}
use Rattle.ebs_model.proofs.RowLaws.{get-row, row_in, key_itself, is_key-other}
use Rattle.ebs_model.proofs.RunLaws.{among, new_row, or_else, with_made, binned_by, left_of, get-run}
use Rattle.ebs_lawful.specs.Arrays.{FitsIn, IsArrayOf, AreArrays}
use Rattle.ebs_lawful.proofs.Maps.{none_some, some_is}
use Rattle.ebs_lawful.proofs.Ran.{IsVolume, all-due}
use Rattle.ebs_lawful.proofs.ArrayWalk.{HasLeast}

-- ---- arrays of a size

pub none-fits : (size : ℕ) → FitsIn size empty
none-fits size index block e = none_some (sym (get-empty {X = WholeBlock} nat_cmp index) ∙ e)

wider : (small large : ℕ) (array : WholeArray) → small ≤ large → FitsIn small array → FitsIn large array
wider small large array h fits index block e = let was = fits index block e in omega (arith, h, was)

pub written-fits : (size : ℕ) (array : WholeArray) (index : ℕ) (new : WholeBlock) → index < blocks_of size → FitsIn size array → FitsIn size (insert array index new)
written-fits size array index new low fits i block e = at (get-inserted nat_cmp_total array index new i block e)
  where
    at : (block ≡ new) ⊎ (get array i ≡ Some block) → i < blocks_of size
    at (inr was) = fits i block was
    at (inl is) = by (eq_by_cmp nat_cmp i index) refl (sym (get-insert nat_cmp_total array index new i) ∙ e)
      where
        by : (b : Bool) → eq_by_cmp nat_cmp i index ≡ b → cond b (Some new) (get array i) ≡ Some block → i < blocks_of size
        by true t h = subst (λ (n : ℕ). n < blocks_of size) (sym (is_same nat_cmp-IsAntisymmetric i index t)) low
        by false t h = fits i block h

-- what was put is there once one more is
pub put-there : (put : FinMap nat_cmp (Unit {0})) (array : WholeArray) (index : ℕ) (new : WholeBlock) → ((i : ℕ) → get put i ≡ Some tt → contains_key array i ≡ true) → (i : ℕ) → get (insert put index tt) i ≡ Some tt → contains_key (insert array index new) i ≡ true
put-there put array index new puts i e = subst (λ (o : Option WholeBlock). is_some o ≡ true) (sym (get-insert nat_cmp_total array index new i)) (by (eq_by_cmp nat_cmp i index) (sym (get-insert nat_cmp_total put index tt i) ∙ e))
  where
    by : (b : Bool) → cond b (Some tt) (get put i) ≡ Some tt → is_some (cond b (Some new) (get array i)) ≡ true
    by true h = refl
    by false h = puts i h

pub no-puts : (array : WholeArray) (i : ℕ) → get (empty {X = Unit {0}} {R = nat_cmp}) i ≡ Some tt → contains_key array i ≡ true
no-puts array i e = none_some (sym (get-empty {X = Unit {0}} nat_cmp i) ∙ e)

module _ (m : Machine) (arrays : AreArrays m) where
  abbrev rows : Rows
  rows = rows_of m

  -- an array for each row
  abbrev Fine : FinMap snap_cmp SnapRow → (SnapKey → WholeArray) → Type 0
  Fine snaps array = (q : SnapKey) (row : SnapRow) → get snaps q ≡ Some row → IsArrayOf row (array q)

  pub old : Fine (snap_rows m.snaps) (array_of m)
  old q row e = at (get m.snaps q) refl (sym (get-row m.snaps q) ∙ e)
    where
      at : (o : Option Snapshot) → get m.snaps q ≡ o → row_in o ≡ Some row → IsArrayOf row (array_of m q)
      at None is e = none_some e
      at (Some s) is e = subst (IsArrayOf row) (sym (ap array_at is)) (subst (λ (r : SnapRow). IsArrayOf r s.array) (some_is s.row row e) (arrays.snaps q s is))

  pub volume-array : (key : VolKey) (row : VolRow) → get m.vols key ≡ Some row → FitsIn row.size (disk_of m key)
  volume-array key row e = let a = arrays.vols key row e in subst (FitsIn row.size) (sym (ap (λ (o : Option WholeArray). unwrap_or o empty) a.1)) a.2

  pub begun-fits : (parent : Option SnapKey) (size : ℕ) → HasLeast rows parent size → FitsIn size (begun_array m parent)
  begun-fits None size h = none-fits size
  begun-fits (Some parent) size h = let was = old parent h.0 h.1 in wider h.0.size size (array_of m parent) h.2 was.fits

  -- one row with its array is put in
  pub placed : (key : SnapKey) (new : SnapRow) (array : SnapKey → WholeArray) → IsArrayOf new (array key) → Fine (insert (snap_rows m.snaps) key new) (λ q. cond (is_key q key) (array q) (array_of m q))
  placed key new array h q row e = by (eq_by_cmp snap_cmp q key) refl (sym (get-insert snaps_total (snap_rows m.snaps) key new q) ∙ e)
    where
      here : q ≡ key → new ≡ row → IsArrayOf row (cond (is_key q key) (array q) (array_of m q))
      here same is = subst (λ (k : SnapKey). IsArrayOf row (cond (is_key k key) (array k) (array_of m k))) (sym same)
          (subst (λ (b : Bool). IsArrayOf row (cond b (array key) (array_of m key))) (sym (key_itself key)) (subst (λ (r : SnapRow). IsArrayOf r (array key)) is h))

      by : (b : Bool) → eq_by_cmp snap_cmp q key ≡ b → cond b (Some new) (get (snap_rows m.snaps) q) ≡ Some row → IsArrayOf row (cond (is_key q key) (array q) (array_of m q))
      by true t e = here (is_same exact_snaps q key t) (some_is new row e)
      by false t e =
          let apart : is_key q key ≡ false = is_key-other q key (λ same. false≢true (sym t ∙ ap (λ k. eq_by_cmp snap_cmp k key) same ∙ tied snaps_total key)) in
          subst (λ (b : Bool). IsArrayOf row (cond b (array q) (array_of m q))) (sym apart) (old q row e)

  -- a row that is altered with its size, and with no more puts
  pub rewritten : (key : SnapKey) (f : SnapRow → SnapRow) → ((row : SnapRow) (array : WholeArray) → IsArrayOf row array → IsArrayOf (f row) array) → Fine (with_row rows key f).snaps (array_of m)
  rewritten key f keeps = at (get (snap_rows m.snaps) key) refl
    where
      at : (o : Option SnapRow) → get (snap_rows m.snaps) key ≡ o → Fine (changed_row (snap_rows m.snaps) key f o) (array_of m)
      at None is q x e = old q x e
      at (Some row) is q x e = by (eq_by_cmp snap_cmp q key) refl (sym (get-insert snaps_total (snap_rows m.snaps) key (f row) q) ∙ e)
        where
          by : (b : Bool) → eq_by_cmp snap_cmp q key ≡ b → cond b (Some (f row)) (get (snap_rows m.snaps) q) ≡ Some x → IsArrayOf x (array_of m q)
          by true t e = subst (λ (r : SnapRow). IsArrayOf r (array_of m q)) (some_is (f row) x e)
              (keeps row (array_of m q) (subst (λ (k : SnapKey). IsArrayOf row (array_of m k)) (sym (is_same exact_snaps q key t)) (old key row is)))
          by false t e = old q x e

  pub deleted-fine : (at : Moment) (key : SnapKey) → Fine (deleted rows at key (get (snap_rows m.snaps) key)).snaps (array_of m)
  deleted-fine at key = of (get (snap_rows m.snaps) key) refl
    where
      binned : (row : SnapRow) → get (snap_rows m.snaps) key ≡ Some row → (d : Option ℕ) → Fine (deleted_by rows at key row d).snaps (array_of m)
      binned row is None q x e = by (eq_by_cmp snap_cmp q key) (sym (get-remove snaps_total (snap_rows m.snaps) key q) ∙ e)
        where
          by : (b : Bool) → cond b None (get (snap_rows m.snaps) q) ≡ Some x → IsArrayOf x (array_of m q)
          by true e = none_some e
          by false e = old q x e
      binned row is (Some days) q x e = by (eq_by_cmp snap_cmp q key) refl (sym (get-insert snaps_total (snap_rows m.snaps) key _ q) ∙ e)
        where
          was : IsArrayOf row (array_of m key)
          was = old key row is

          by : (b : Bool) → eq_by_cmp snap_cmp q key ≡ b → cond b (Some (record row { bin_end = Some (Rattle.ebs_model.specs.Rules.bin_end at.second days) })) (get (snap_rows m.snaps) q) ≡ Some x → IsArrayOf x (array_of m q)
          by true t e = subst (λ (r : SnapRow). IsArrayOf r (array_of m q)) (some_is _ x e) (subst (λ (k : SnapKey). IsArrayOf (record row { bin_end = Some (Rattle.ebs_model.specs.Rules.bin_end at.second days) }) (array_of m k)) (sym (is_same exact_snaps q key t))
              (record { fits = was.fits; puts = was.puts }))
          by false t e = old q x e

      of : (o : Option SnapRow) → get (snap_rows m.snaps) key ≡ o → Fine (deleted rows at key o).snaps (array_of m)
      of None is = old
      of (Some row) is = binned row is (days_in_bin rows key row)

  -- ---- a run

  module _ (at : Moment) (key : PolicyKey) (p : Policy) where
    abbrev IsFine : WholeArray → Option SnapRow → Type 0
    IsFine array o = (row : SnapRow) → o ≡ Some row → IsArrayOf row array

    made-fine : (first : SnapKey) (volumes : List (VolKey × VolRow)) → AllByRecursion (IsVolume rows key.account) volumes → (q : SnapKey) → IsFine (source_array m (source_of first volumes q) q) (or_else (new_row at key p first volumes q) (get (snap_rows m.snaps) q))
    made-fine first [] all q = old q
    made-fine first (e ∷ volumes) all q = by (eq_by_cmp snap_cmp q first) refl (made-fine (following first) volumes all.1 q)
      where
        new : IsVolume rows key.account e → IsArrayOf (run_row at first key p e) (disk_of m e.0)
        new mine = record { fits = volume-array e.0 e.1 mine.there; puts = no-puts (disk_of m e.0) }

        by : (b : Bool) → eq_by_cmp snap_cmp q first ≡ b → IsFine (source_array m (source_of (following first) volumes q) q) (or_else (new_row at key p (following first) volumes q) (get (snap_rows m.snaps) q))
            → IsFine (source_array m (cond (is_key q first) (Some e.0) (source_of (following first) volumes q)) q) (or_else (cond b (Some (run_row at first key p e)) (new_row at key p (following first) volumes q)) (get (snap_rows m.snaps) q))
        by true t rest row is =
            let itself : is_key q first ≡ true = ap (λ (k : SnapKey). is_key k first) (is_same exact_snaps q first t) ∙ key_itself first in
            subst (λ (b : Bool). IsArrayOf row (source_array m (cond b (Some e.0) (source_of (following first) volumes q)) q)) (sym itself) (subst (λ (r : SnapRow). IsArrayOf r (disk_of m e.0)) (some_is _ row is) (new all.0))
        by false t rest row is =
            let apart : is_key q first ≡ false = is_key-other q first (λ same. false≢true (sym t ∙ ap (λ k. eq_by_cmp snap_cmp k first) same ∙ tied snaps_total first)) in
            subst (λ (b : Bool). IsArrayOf row (source_array m (cond b (Some e.0) (source_of (following first) volumes q)) q)) (sym apart) (rest row is)

    freed-fine : (array : WholeArray) (o : Option SnapRow) → IsFine array o → IsFine array (option_map freed o)
    freed-fine array None h row e = none_some e
    freed-fine array (Some r) h row e = let was = h r refl in subst (λ (x : SnapRow). IsArrayOf x array) (some_is (freed r) row e) (record { fits = was.fits; puts = was.puts })

    taken-fine : (array : WholeArray) (q : SnapKey) (o : Option SnapRow) → IsFine array o → IsFine array (left_of rows at q o)
    taken-fine array q None h row e = none_some e
    taken-fine array q (Some r) h row e = by (days_in_bin rows q r) e
      where
        by : (d : Option ℕ) → binned_by at r d ≡ Some row → IsArrayOf row array
        by None e = none_some e
        by (Some days) e = let was = h r refl in subst (λ (x : SnapRow). IsArrayOf x array) (some_is _ row e) (record { fits = was.fits; puts = was.puts })

    left-fine : (array : WholeArray) (q : SnapKey) (gone free : Bool) (o : Option SnapRow) → IsFine array o → IsFine array (cond gone (left_of rows at q (option_map freed o)) (cond free (option_map freed o) o))
    left-fine array q true free o h = taken-fine array q (option_map freed o) (freed-fine array o h)
    left-fine array q false true o h = freed-fine array o h
    left-fine array q false false o h = h

    pub ran-fine : Fine (run_rows rows at key p).snaps (λ q. source_array m (source_of (next_key rows key.account) (due_targets rows key p at.second) q) q)
    ran-fine q row e =
        left-fine (source_array m (source_of (next_key rows key.account) (due_targets rows key p at.second) q) q) q (among q (run_ended rows at key p)) (among q (run_released rows at key p)) (with_made rows at key p q)
        (made-fine (next_key rows key.account) (due_targets rows key p at.second) (all-due rows key p at.second) q) row (sym (get-run rows at key p q) ∙ e)
