-- A run of a policy on two machines that its account sees alike.
use Rattle.std.proofs.Common.{◌≡◌, ◌≢◌, ℕ, ◌+◌, unwrap_or, Bool, true, false, cond, not, ◌&&◌, ◌==◌, List, [], ◌∷◌, Option, Some, None, refl, sym, ap, subst, ◌∙◌}
use Rattle.std.proofs.lemmas.Bool.{false≢true}
use Rattle.std.specs.Prelude.{is_some}
use Rattle.std.specs.List.{AllByRecursion, filter}
use Rattle.std.specs.Option.{option_map}
use Rattle.std.specs.FinMap as fin
use Rattle.std.specs.FinMap.{nat_cmp-IsAntisymmetric}
use Rattle.std.specs.Cmp.{nat_cmp_total}
use Rattle.ebs_model.specs.declared.keys.SnapKey.{SnapKey}
use Rattle.ebs_model.specs.declared.keys.VolKey.{VolKey}
use Rattle.ebs_model.specs.declared.keys.PolicyKey.{PolicyKey}
use Rattle.ebs_model.specs.declared.keys.Moment.{Moment}
use Rattle.ebs_model.specs.declared.policy.Policy.{Policy}
use Rattle.ebs_model.specs.declared.rows.SnapRow.{SnapRow}
use Rattle.ebs_model.specs.declared.rows.VolRow.{VolRow}
use Rattle.ebs_model.specs.declared.rows.Own.{Own}
use Rattle.ebs_model.specs.inner.Orders.{snaps_total, exact_snaps}
use Rattle.ebs_model.specs.Arrays.{WholeArray}
use Rattle.ebs_model.specs.Time.{Snapshot, is_ahead}
use Rattle.ebs_model.specs.Access.{owns}
use Rattle.ebs_model.specs.Rules.{Book, retention}
use Rattle.ebs_model.specs.Rows as model_rows
use Rattle.ebs_model.specs.Rows.{Rows, no_own, book_of, is_key}
use Rattle.ebs_model.specs.Machine.{Machine, rows_of, snap_rows, array_at, disk_of}
use Rattle.ebs_model.specs.Policies.{is_due, targets, is_policy, managed, released, ended}
use Rattle.ebs_model.specs.Calls.Start.{next_key, with_upload}
use Rattle.ebs_model.specs.Calls.Run.{due_targets, following, source_of, run_row, with_new, made_rows, run_released, run_ended, freed}
use Rattle.ebs_model.specs.Step.{source_array}
use Rattle.ebs_model.proofs.RowLaws.{with_array, get-row, get-with}
use Rattle.ebs_model.proofs.RunLaws.{among, new_row, or_else, with_made, get-new, binned_by, left_of, run_left, get-run}
use Rattle.ebs_laws.specs.IsolationLaws.{Both, Renaming, SameArray, SameSnapshot, SameView, own_volume, seen_of, is_shown_to, shown}
use Rattle.ebs_laws.proofs.Maps.{get-itself}
use Rattle.ebs_laws.proofs.Readers.{same_number, number_is}
use Rattle.ebs_laws.proofs.PolicyRuns.{some_is, none_some, each, IsDueTarget, due_targets-are, run-leaves, run-other}
use Rattle.ebs_laws.proofs.SameViews.{twin, own-rows}
use Rattle.ebs_laws.proofs.SameMoves.{disk-alike, empty-SameArray}
use Rattle.ebs_laws.proofs.SameLists.{own-lists, filter-twice, row-same, targets-same}
use Rattle.ebs_laws.proofs.Whole.{ran_source, ran}

-- a source is one of the volumes
source_known : (Q : VolKey → Type 0) (first : SnapKey) (volumes : List (VolKey × VolRow)) → AllByRecursion (λ (e : VolKey × VolRow). Q e.0) volumes → (q : SnapKey) (v : VolKey) → source_of first volumes q ≡ Some v → Q v
source_known Q first [] h q v e = absurd (none_some e)
source_known Q first (x ∷ volumes) h q v e = by (is_key q first) (source_known Q (following first) volumes h.1 q v) e
  where
    by : (b : Bool) → (source_of (following first) volumes q ≡ Some v → Q v) → cond b (Some x.0) (source_of (following first) volumes q) ≡ Some v → Q v
    by true again e = subst Q (some_is x.0 v e) h.0
    by false again e = again e

-- what an account has after its snapshots are made
own-new : (rows other : Rows) (at : Moment) (key : PolicyKey) (p : Policy) → model_rows.own_of rows key.account ≡ model_rows.own_of other key.account → (volumes : List (VolKey × VolRow))
    → model_rows.own_of (with_new rows at key p volumes) key.account ≡ model_rows.own_of (with_new other at key p volumes) key.account
own-new rows other at key p h [] = h
own-new rows other at key p h (e ∷ volumes) =
    own-new (next rows) (next other) at key p (has rows ∙ ap (λ (own : Own). record own { next_snap = own.next_snap + 1 }) h ∙ sym (has other)) volumes
  where
    next : Rows → Rows
    next rows = with_upload rows (next_key rows key.account) (run_row at (next_key rows key.account) key p e)

    has : (rows : Rows) → model_rows.own_of (with_upload rows (next_key rows key.account) (run_row at (next_key rows key.account) key p e)) key.account ≡ record (model_rows.own_of rows key.account) { next_snap = (model_rows.own_of rows key.account).next_snap + 1 }
    has rows = ap (λ (o : Option Own). unwrap_or o no_own) (get-itself nat_cmp_total nat_cmp-IsAntisymmetric rows.own key.account _)

module _ (account : ℕ) (r : Renaming) (m : Machine) (n0 : Machine) (h : SameView account r m (twin m n0)) (key : PolicyKey) (p : Policy) (mine : account ≡ key.account) where
  abbrev now : ℕ
  now = m.clock.second

  abbrev n : Machine
  n = twin m n0

  pub due-same : due_targets (rows_of n0) key p now ≡ due_targets (rows_of m) key p now
  due-same = subst (λ (a : ℕ). cond (is_due p p.last.second now) (targets (rows_of n0) a p) [] ≡ cond (is_due p p.last.second now) (targets (rows_of m) a p) []) mine
      (ap (λ (ts : List (VolKey × VolRow)). cond (is_due p p.last.second now) ts []) (targets-same account r m n0 h p))

  pub next-same : next_key (rows_of n0) key.account ≡ next_key (rows_of m) key.account
  next-same = subst (λ (a : ℕ). next_key (rows_of n0) a ≡ next_key (rows_of m) a) mine (λ i. record { account = account; number = (h.own i).next_snap })

  owned : (q : SnapKey) → owns key.account q ≡ true → owns account q ≡ true
  owned q e = subst (λ (a : ℕ). owns a q ≡ true) (sym mine) e

  made_row-same : (q : SnapKey) → owns account q ≡ true → with_made (rows_of n0) m.clock key p q ≡ with_made (rows_of m) m.clock key p q
  made_row-same q e =
      let old : fin.get (snap_rows n0.snaps) q ≡ fin.get (snap_rows m.snaps) q = get-row n0.snaps q ∙ row-same account r m n0 h _ _ (own-rows account r m n0 h q e) ∙ sym (get-row m.snaps q) in
      λ i. or_else (new_row m.clock key p (next-same i) (due-same i) q) (old i)

  made-same : (q : SnapKey) → owns key.account q ≡ true → fin.get (made_rows (rows_of n0) m.clock key p).snaps q ≡ fin.get (made_rows (rows_of m) m.clock key p).snaps q
  made-same q e =
      get-new (rows_of n0) m.clock key p (due_targets (rows_of n0) key p now) q ∙ made_row-same q (owned q e) ∙ sym (get-new (rows_of m) m.clock key p (due_targets (rows_of m) key p now) q)

  managed-same : managed (made_rows (rows_of n0) m.clock key p) key now ≡ managed (made_rows (rows_of m) m.clock key p) key now
  managed-same =
      let a = (made_rows (rows_of n0) m.clock key p).snaps in
      let b = (made_rows (rows_of m) m.clock key p).snaps in
      let rest : SnapKey × SnapRow → Bool = λ e. is_policy key e.1.policy && (is_some e.1.volume && not (is_ahead e.1.bin_end now)) in
      filter-twice (λ (e : SnapKey × SnapRow). owns key.account e.0) rest (fin.entries a)
      ∙ ap (filter rest) (own-lists snaps_total exact_snaps (owns key.account) b a made-same)
      ∙ sym (filter-twice (λ (e : SnapKey × SnapRow). owns key.account e.0) rest (fin.entries b))

  pub ended-same : run_ended (rows_of n0) m.clock key p ≡ run_ended (rows_of m) m.clock key p
  ended-same = ap (ended p now) managed-same

  released-same : run_released (rows_of n0) m.clock key p ≡ run_released (rows_of m) m.clock key p
  released-same = ap (released p now) managed-same

  -- a deletion leaves the same
  gone-same : (q : SnapKey) → owns account q ≡ true → (o : Option SnapRow) → left_of (rows_of n0) m.clock q o ≡ left_of (rows_of m) m.clock q o
  gone-same q e None = refl
  gone-same q e (Some row) =
      let book : book_of (rows_of n0) q.account ≡ book_of (rows_of m) q.account = subst (λ (a : ℕ). book_of (rows_of n0) a ≡ book_of (rows_of m) a) (same_number account q.account e) h.book in
      ap (λ (b : Book). binned_by m.clock row (cond row.completed (retention b row.tags) None)) book

  left-same : (q : SnapKey) → owns account q ≡ true → run_left (rows_of n0) m.clock key p q ≡ run_left (rows_of m) m.clock key p q
  left-same q e =
      let w = made_row-same q e in
      let last = with_made (rows_of m) m.clock key p q in
      (λ i. cond (among q (ended-same i)) (left_of (rows_of n0) m.clock q (option_map freed (w i))) (cond (among q (released-same i)) (option_map freed (w i)) (w i)))
      ∙ ap (λ (o : Option SnapRow). cond (among q (run_ended (rows_of m) m.clock key p)) o (cond (among q (run_released (rows_of m) m.clock key p)) (option_map freed last) last)) (gone-same q e (option_map freed last))

  -- and the arrays are the same
  arrays_at : (o s : Option Snapshot) → Both (SameSnapshot r) o s → SameArray r (array_at o) (array_at s)
  arrays_at None None b = empty-SameArray r
  arrays_at None (Some y) b = absurd b
  arrays_at (Some x) None b = absurd b
  arrays_at (Some x) (Some y) b = b.array

  of_source : (q : SnapKey) → owns account q ≡ true → (o : Option VolKey) → ((v : VolKey) → o ≡ Some v → account ≡ v.account) → SameArray r (source_array m o q) (source_array n o q)
  of_source q e None known = arrays_at (fin.get m.snaps q) (fin.get n0.snaps q) (own-rows account r m n0 h q e)
  of_source q e (Some v) known =
      let one : own_volume account v.number ≡ v = λ i. record { account = known v refl i; number = v.number } in
      subst (λ (k : VolKey). SameArray r (disk_of m k) (disk_of n0 k)) one (disk-alike r _ _ (h.disks v.number))

  array-same : (q : SnapKey) → owns account q ≡ true → SameArray r (source_array m (ran_source m key p q) q) (source_array n (ran_source n key p q) q)
  array-same q e =
      let same : ran_source n key p q ≡ ran_source m key p q = λ i. source_of (next-same i) (due-same i) q in
      subst (λ (o : Option VolKey). SameArray r (source_array m (ran_source m key p q) q) (source_array n o q)) (sym same)
      (of_source q e (ran_source m key p q)
      (λ v is. mine ∙ source_known (λ (v : VolKey). key.account ≡ v.account) (next_key (rows_of m) key.account) (due_targets (rows_of m) key p now)
      (each (IsDueTarget m key p) (λ (e : VolKey × VolRow). key.account ≡ e.0.account) (due_targets (rows_of m) key p now) (λ e t. t.mine) (due_targets-are m key p)) q v is))

  both_of : (a b : WholeArray) → SameArray r a b → (o : Option SnapRow) → Both (SameSnapshot r) (option_map (with_array a) o) (option_map (with_array b) o)
  both_of a b same None = tt
  both_of a b same (Some row) = record { row = refl; array = same }

  seen-own : (q : SnapKey) → (account == q.account) ≡ true → (o : Option Snapshot) → seen_of account q now o ≡ o
  seen-own q e None = refl
  seen-own q e (Some s) = ap (λ (b : Bool). cond b (Some s) (cond (is_shown_to account now s.row) (Some (shown s)) None)) e

  pub run-same-snaps : (q : SnapKey) → Both (SameSnapshot r) (seen_of account q now (fin.get (ran m key p).snaps q)) (seen_of account q now (fin.get (ran n key p).snaps q))
  run-same-snaps q = by (account == q.account) refl
    where
      one : fin.get (ran m key p).snaps q ≡ option_map (with_array (source_array m (ran_source m key p q) q)) (run_left (rows_of m) m.clock key p q)
      one = get-with _ _ q ∙ ap (option_map (with_array (source_array m (ran_source m key p q) q))) (get-run (rows_of m) m.clock key p q)

      two : fin.get (ran n key p).snaps q ≡ option_map (with_array (source_array n (ran_source n key p q) q)) (run_left (rows_of n0) m.clock key p q)
      two = get-with _ _ q ∙ ap (option_map (with_array (source_array n (ran_source n key p q) q))) (get-run (rows_of n0) m.clock key p q)

      by : (b : Bool) → (account == q.account) ≡ b → Both (SameSnapshot r) (seen_of account q now (fin.get (ran m key p).snaps q)) (seen_of account q now (fin.get (ran n key p).snaps q))
      by true e =
          let a = source_array m (ran_source m key p q) q in
          let b = source_array n (ran_source n key p q) q in
          subst (λ (o : Option Snapshot). Both (SameSnapshot r) o (seen_of account q now (fin.get (ran n key p).snaps q))) (sym (seen-own q e _ ∙ one))
          (subst (λ (o : Option Snapshot). Both (SameSnapshot r) (option_map (with_array a) (run_left (rows_of m) m.clock key p q)) o) (sym (seen-own q e _ ∙ two ∙ ap (option_map (with_array b)) (left-same q e)))
          (both_of a b (array-same q e) (run_left (rows_of m) m.clock key p q)))
      by false e =
          let other : key.account ≢ q.account = λ same. false≢true (sym e ∙ ap (λ (a : ℕ). account == a) (sym (mine ∙ same)) ∙ itself account) in
          subst (λ (o : Option Snapshot). Both (SameSnapshot r) (seen_of account q now o) (seen_of account q now (fin.get (ran n key p).snaps q))) (sym (run-other m key p q other _ (run-leaves m key p q)))
          (subst (λ (o : Option Snapshot). Both (SameSnapshot r) (seen_of account q now (fin.get m.snaps q)) (seen_of account q now o)) (sym (run-other n key p q other _ (run-leaves n key p q))) (h.snaps q))
        where
          itself : (a : ℕ) → (a == a) ≡ true
          itself a = number_is a a refl

  pub run-same-own : unwrap_or (fin.get (ran n key p).own account) no_own ≡ unwrap_or (fin.get (ran m key p).own account) no_own
  run-same-own =
      ap (λ (vs : List (VolKey × VolRow)). model_rows.own_of (with_new (rows_of n0) m.clock key p vs) account) due-same
      ∙ subst (λ (a : ℕ). model_rows.own_of (with_new (rows_of n0) m.clock key p (due_targets (rows_of m) key p now)) a ≡ model_rows.own_of (with_new (rows_of m) m.clock key p (due_targets (rows_of m) key p now)) a) (sym mine)
      (own-new (rows_of n0) (rows_of m) m.clock key p (subst (λ (a : ℕ). model_rows.own_of (rows_of n0) a ≡ model_rows.own_of (rows_of m) a) mine h.own) (due_targets (rows_of m) key p now))
