-- The commit of a run: the rows that it makes, what becomes of those that it gives up, and what time has ended then.
use Rattle.std.proofs.Common.{◌≡◌, ℕ, ◌+◌, ◌≤◌, ◌^◌, Bool, true, false, cond, not, ◌&&◌, ◌||◌, List, [], ◌∷◌, ◌++◌, map as list_map, Option, Some, None, unwrap_or, Less, Ordering, refl, sym, ap, subst, ◌∙◌}
use Rattle.std.proofs.lemmas.Bool.{false≢true}
use Rattle.std.specs.Option.{option_map}
use Rattle.std.specs.Ordering.{nat_cmp, eq_by_cmp, is_eq}
use Rattle.std.specs.Cmp.{IsTotalOrder, nat_cmp_total, eq_by_cmp_equiv}
use Rattle.std.specs.Map.{keys_of}
use Rattle.std.specs.List.{filter, AllByRecursion}
use Rattle.std.specs.List.Sorted.{IsStrictlySortedBy}
use Rattle.std.specs.BTreeMap.{is_at}
use Rattle.std.specs.Map.{lookup}
use Rattle.std.specs.FinMap.{FinMap, get, contains_key, insert, entries, get-insert}
use Rattle.ebs_tables.specs.Full.{full}
use Rattle.ebs_tables.proofs.MapEdits.{tied}
use Rattle.ebs_tables.proofs.TreeMaps.{entries-sorted, get-lookup}
use Rattle.ebs_model.specs.declared.keys.SnapKey.{SnapKey}
use Rattle.ebs_model.specs.declared.keys.VolKey.{VolKey}
use Rattle.ebs_model.specs.declared.keys.PolicyKey.{PolicyKey}
use Rattle.ebs_model.specs.declared.keys.Moment.{Moment}
use Rattle.ebs_model.specs.declared.keys.AnyKey.{AnyKey}
use Rattle.ebs_model.specs.declared.keys.AnyKey.TheVariants.{Snap, Vol, Rule, Policy as policy_id}
use Rattle.ebs_model.specs.declared.policy.Policy.{Policy}
use Rattle.ebs_model.specs.declared.rows.SnapRow.{SnapRow}
use Rattle.ebs_model.specs.declared.rows.VolRow.{VolRow}
use Rattle.ebs_model.specs.declared.rows.Own.{Own}
use Rattle.ebs_model.specs.declared.change.Change.{Change}
use Rattle.ebs_model.specs.declared.request.Request.{Request}
use Rattle.ebs_model.specs.declared.request.Request.TheVariants.{RunPolicy}
use Rattle.ebs_model.specs.Keys.{snap_cmp, vol_cmp, policy_cmp}
use Rattle.ebs_model.specs.inner.Orders.{snaps_total, exact_snaps, vols_total}
use Rattle.ebs_model.specs.Rows.{Rows, no_own, own_of, is_key}
use Rattle.ebs_model.specs.inner.Rows.{aged}
use Rattle.ebs_model.specs.Policies.{is_due, targets}
use Rattle.ebs_model.specs.Decisions.{made_snap, made_vol}
use Rattle.ebs_model.specs.Decide.{commit_by, commit}
use Rattle.ebs_model.specs.Calls.Start.{next_key, with_upload}
use Rattle.ebs_model.specs.Calls.Run.{due_targets, following, new_keys, run_row, with_new, made_rows, run_released, run_ended, freed, with_freed, with_deleted, run_rows, run_by}
use Rattle.ebs_model.proofs.RunLaws.{among, get-freed, new-beside, freed-beside, deleted-beside}
use Rattle.ebs_policies.specs.Table.{with_last}
use Rattle.ebs_catalog.specs.declared.rooms.Room.{Room}
use Rattle.ebs_catalog.specs.Held.{Held, rows_in, is_ended, stale, is_about, is_about_by, IsDecided}
use Rattle.ebs_catalog.specs.Decided.{IsThere, IsRun, PassedPolicies}
use Rattle.ebs_catalog.specs.Sound.{AreSoundVolumes}
use Rattle.ebs_catalog.specs.PolicyCalls.{is_run, is_among, rows_by, row_of, with_found, rows_of_run}
use Rattle.ebs_catalog.specs.PolicyCalls as calls
use Rattle.ebs_catalog.specs.Rooms.{IsReady, CoversMade, CoversEnded, CoversPolicies}
use Rattle.ebs_catalog.specs.Runs.{IsNew, AreNew, CoversRows, with_rows, snaps_of, AreThere, NonePasses, AreDistinct}
use Rattle.ebs_catalog.proofs.RowsKept.{found}
use Rattle.ebs_catalog.proofs.Stale.{Waits, stale_in, other-key}
use Rattle.ebs_catalog.proofs.Commits.{open-ended, filter-all, stale-kept, stale-same, others}
use Rattle.ebs_catalog.proofs.RunRows.{all-freed-aged, freed-append, rows-aged}
use Rattle.ebs_catalog.proofs.Passes.{decided-policies}
use Rattle.ebs_catalog.proofs.OneByOne.{filter-twice}

-- ---- entries of a map

-- a greater key is another
behind-key : {K : Type 0} {R : K → K → Ordering} (o : IsTotalOrder R) (k q : K) → R k q ≡ Less → is_at (R q) k ≡ false
behind-key o k q h = (eq_by_cmp_equiv o).symm q k ∙ ap is_eq h

abbrev pub AreIn : {K X : Type 0} {R : K → K → Ordering} → FinMap R X → List (K × X) → Type 0
AreIn m es = AllByRecursion (λ e. get m e.0 ≡ Some e.1) es

-- each entry is what is found at its key
module _ {K X : Type 0} {R : K → K → Ordering} (o : IsTotalOrder R) where
  abbrev AreFound : List (K × X) → List (K × X) → Type 0
  AreFound all es = AllByRecursion (λ e. lookup (is_at (R e.0)) all ≡ Some e.1) es

  behind : (e : K × X) (all es : List (K × X)) → AllByRecursion (λ y. R e.0 y ≡ Less) (keys_of es) → AreFound all es → AreFound (e ∷ all) es
  behind e all [] h f = tt
  behind e all (x ∷ es) h f = (ap (λ b. cond b (Some e.1) (lookup (is_at (R x.0)) all)) (behind-key o e.0 x.0 h.0) ∙ f.0, behind e all es h.1 f.1)

  all-found : (es : List (K × X)) → IsStrictlySortedBy R (keys_of es) → AreFound es es
  unfolding IsStrictlySortedBy
  all-found [] h = tt
  all-found (e ∷ es) h = (ap (λ b. cond b (Some e.1) (lookup (is_at (R e.0)) es)) (tied o e.0), behind e es es h.0 (all-found es h.1))

  in-map : (m : FinMap R X) (es : List (K × X)) → AreFound (entries m) es → AreIn m es
  in-map m [] h = tt
  in-map m (e ∷ es) h = (get-lookup R m e.0 ∙ h.0, in-map m es h.1)

  pub entries-in : (m : FinMap R X) → AreIn m (entries m)
  entries-in m = in-map m (entries m) (all-found (entries m) (entries-sorted R m))

-- what holds of all holds of those that pass a test
pub passing : {X : Type 0} (P : X → Type 0) (test : X → Bool) (xs : List X) → AllByRecursion P xs → AllByRecursion P (filter test xs)
passing P test [] h = tt
passing P test (x ∷ xs) h = by (test x) (passing P test xs h.1)
  where
    by : (b : Bool) → AllByRecursion P (filter test xs) → AllByRecursion P (cond b (x ∷ filter test xs) (filter test xs))
    by true rest = (h.0, rest)
    by false rest = rest

-- keys that ascend are distinct
abbrev Snaps : Type 0
Snaps = List (SnapKey × SnapRow)

apart : (key q : SnapKey) → snap_cmp key q ≡ Less → is_key q key ≡ false
apart key q h = other-key q key (ap is_eq h)

above : (key : SnapKey) (es : Snaps) → AllByRecursion (λ y. snap_cmp key y ≡ Less) (keys_of es) → AllByRecursion (λ (e : SnapKey × SnapRow). is_key e.0 key ≡ false) es
above key [] h = tt
above key (e ∷ es) h = (apart key e.0 h.0, above key es h.1)

abbrev ArePairs : Snaps → Type 0
ArePairs [] = Unit {0}
ArePairs (e ∷ es) = AllByRecursion (λ (x : SnapKey × SnapRow). is_key x.0 e.0 ≡ false) es × ArePairs es

pairs : (es : Snaps) → IsStrictlySortedBy snap_cmp (keys_of es) → ArePairs es
unfolding IsStrictlySortedBy
pairs [] h = tt
pairs (e ∷ es) h = (above e.0 es h.0, pairs es h.1)

pairs-left : (test : SnapKey × SnapRow → Bool) (es : Snaps) → ArePairs es → ArePairs (filter test es)
pairs-left test [] h = tt
pairs-left test (e ∷ es) h = by (test e) (pairs-left test es h.1)
  where
    by : (b : Bool) → ArePairs (filter test es) → ArePairs (cond b (e ∷ filter test es) (filter test es))
    by true rest = (passing (λ (x : SnapKey × SnapRow). is_key x.0 e.0 ≡ false) test es h.0, rest)
    by false rest = rest

none-pass : (key : SnapKey) (es : Snaps) → AllByRecursion (λ (x : SnapKey × SnapRow). is_key x.0 key ≡ false) es → NonePasses (λ q. is_key q key) (list_map (λ e. e.0) es)
none-pass key [] h = tt
none-pass key (e ∷ es) h = (h.0, none-pass key es h.1)

distinct : (es : Snaps) → ArePairs es → AreDistinct (list_map (λ e. e.0) es)
distinct [] h = tt
distinct (e ∷ es) h = (none-pass e.0 es h.0, distinct es h.1)

-- ---- the rows that are made

abbrev Volumes : Type 0
Volumes = List (VolKey × VolRow)

-- a snapshot of each volume, numbered one after another
abbrev pub run_list : Moment → PolicyKey → Policy → SnapKey → Volumes → List SnapRow
run_list at key p first [] = []
run_list at key p first (e ∷ volumes) = run_row at first key p e ∷ run_list at key p (following first) volumes

abbrev AreThereIn : Rows → Volumes → Type 0
AreThereIn rows volumes = AllByRecursion (λ e. get rows.vols e.0 ≡ Some e.1) volumes

due-there : (rows : Rows) (key : PolicyKey) (p : Policy) (now : ℕ) → AreThereIn rows (due_targets rows key p now)
due-there rows key p now = by (is_due p p.last.second now)
  where
    by : (b : Bool) → AreThereIn rows (cond b (targets rows key.account p) [])
    by true = passing (λ e. get rows.vols e.0 ≡ Some e.1) _ (entries rows.vols) (entries-in vols_total rows.vols)
    by false = tt

rows-are : (rows : Rows) (at : Moment) (key : PolicyKey) (p : Policy) (first : SnapKey) (volumes : Volumes) → AreThereIn rows volumes
    → rows_by rows at key p (list_map Snap (new_keys first volumes)) (list_map (λ e. Vol e.0) volumes) ≡ run_list at key p first volumes
rows-are rows at key p first [] h = refl
rows-are rows at key p first (e ∷ volumes) h =
    (λ i. with_found (row_of at key p first e.0 (h.0 i)) (rows-are rows at key p (following first) volumes h.1 i))

list-new : (rows : Rows) (at : Moment) (key : PolicyKey) (p : Policy) (first : SnapKey) (volumes : Volumes) → AreThereIn rows volumes → AreSoundVolumes rows.vols → at.second ≤ 2 ^ 36 → AreNew (run_list at key p first volumes)
list-new rows at key p first [] h s m = tt
list-new rows at key p first (e ∷ volumes) h s m =
    let one : IsNew (run_row at first key p e) = record { size = (s.each e.0 e.1 h.0).size; start = m; completed = refl; put = refl; out = refl } in
    (one, list-new rows at key p (following first) volumes h.1 s m)

list-room : (h : Held) (at : Moment) (key : PolicyKey) (p : Policy) (first : SnapKey) (volumes : Volumes) → CoversMade h (list_map Snap (new_keys first volumes)) → CoversRows h (run_list at key p first volumes)
list-room h at key p first [] c = tt
list-room h at key p first (e ∷ volumes) c = (c.0, list-room h at key p (following first) volumes c.1)

-- the account's next number goes up by one
next-upload : (rows : Rows) (account : ℕ) (row : SnapRow) → next_key (with_upload rows (next_key rows account) row) account ≡ following (next_key rows account)
next-upload rows account row =
    let own : Own = record (own_of rows account) { next_snap = (next_key rows account).number + 1 } in
    ap (λ (o : Option Own). record { account = account; number = (unwrap_or o no_own).next_snap })
    (get-insert nat_cmp_total rows.own account own account ∙ ap (λ b. cond b (Some own) (get rows.own account)) (tied nat_cmp_total account))

list-made : (rows : Rows) (at : Moment) (key : PolicyKey) (p : Policy) (volumes : Volumes) → with_rows rows (run_list at key p (next_key rows key.account) volumes) ≡ with_new rows at key p volumes
list-made rows at key p [] = refl
list-made rows at key p (e ∷ volumes) =
    let first : SnapKey = next_key rows key.account in
    let next : Rows = with_upload rows first (run_row at first key p e) in
    ap (λ k. with_rows next (run_list at key p k volumes)) (sym (next-upload rows key.account (run_row at first key p e)))
    ∙ list-made next at key p volumes

-- time has ended none of them
list-stale : (rows : Rows) (at : Moment) (key : PolicyKey) (p : Policy) (first : SnapKey) (volumes : Volumes) (w : Waits)
    → stale_in (with_rows rows (run_list at key p first volumes)).snaps w at.second ≡ filter (λ q. not (is_among q (list_map Snap (new_keys first volumes)))) (stale_in rows.snaps w at.second)
list-stale rows at key p first [] w = sym (filter-all (stale_in rows.snaps w at.second))
list-stale rows at key p first (e ∷ volumes) w =
    let row : SnapRow = run_row at first key p e in
    let fresh : is_ended at.second (get (insert rows.snaps first row) first) ≡ false = ap (is_ended at.second) (found snaps_total exact_snaps rows.snaps first row) ∙ open-ended at.second row refl refl in
    list-stale (with_upload rows first row) at key p (following first) volumes w
    ∙ ap (filter (λ q. not (is_among q (list_map Snap (new_keys (following first) volumes))))) (stale-kept rows.snaps (insert rows.snaps first row) first at.second (others rows.snaps first row) fresh w)
    ∙ filter-twice (λ q. is_key q first) (λ q. is_among q (list_map Snap (new_keys (following first) volumes))) (stale_in rows.snaps w at.second)

-- ---- policies that are taken away

ended-freed : (now : ℕ) (b : Bool) (o : Option SnapRow) → is_ended now (cond b (option_map freed o) o) ≡ is_ended now o
ended-freed now true None = refl
ended-freed now true (Some row) = refl
ended-freed now false o = refl

freed-stale : (rows : Rows) (keys : List SnapKey) (now : ℕ) (w : Waits) → stale_in (with_freed rows keys).snaps w now ≡ stale_in rows.snaps w now
freed-stale rows keys now w = stale-same rows.snaps (with_freed rows keys).snaps now w (λ q. ap (is_ended now) (get-freed rows keys q) ∙ ended-freed now (among q keys) (get rows.snaps q))

-- ---- those that are deleted

-- room for what goes to the bin
waits-room : (old new : Held) → old.waits ≡ new.waits → (ids : List AnyKey) → CoversEnded old ids → CoversEnded new ids
waits-room old new e [] c = tt
waits-room old new e (Snap key ∷ ids) c = (subst (λ (w : FinMap snap_cmp (Option (Unit {0}))). contains_key w key ≡ true) e c.0, waits-room old new e ids c.1)
waits-room old new e (Vol key ∷ ids) c = (tt, waits-room old new e ids c.1)
waits-room old new e (Rule key ∷ ids) c = (tt, waits-room old new e ids c.1)
waits-room old new e (policy_id key ∷ ids) c = (tt, waits-room old new e ids c.1)

pub snaps-of : (keys : List SnapKey) → snaps_of (list_map Snap keys) ≡ keys
snaps-of [] = refl
snaps-of (key ∷ keys) = ap (λ t. key ∷ t) (snaps-of keys)

-- a snapshot without its policy is still there
freed-there : (rows : Rows) (keys : List SnapKey) (key : SnapKey) (row : SnapRow) → get rows.snaps key ≡ Some row → IsThere (with_freed rows keys) key
freed-there rows keys key row e = by (among key keys) (get-freed rows keys key ∙ ap (λ o. cond (among key keys) (option_map freed o) o) e)
  where
    by : (b : Bool) → get (with_freed rows keys).snaps key ≡ cond b (Some (freed row)) (Some row) → IsThere (with_freed rows keys) key
    by true h = record { row = freed row; found = h }
    by false h = record { row = row; found = h }

all-there : (rows : Rows) (keys : List SnapKey) (es : Snaps) → AllByRecursion (λ e. get rows.snaps e.0 ≡ Some e.1) es → AreThere (with_freed rows keys) (list_map (λ e. e.0) es)
all-there rows keys [] h = tt
all-there rows keys (e ∷ es) h = (freed-there rows keys e.0 e.1 h.0, all-there rows keys es h.1)

ended-there : (rows : Rows) (at : Moment) (key : PolicyKey) (p : Policy) (keys : List SnapKey) → AreThere (with_freed (made_rows rows at key p) keys) (run_ended rows at key p)
ended-there rows at key p keys =
    let snaps = (made_rows rows at key p).snaps in
    all-there (made_rows rows at key p) keys _ (passing (λ e. get snaps e.0 ≡ Some e.1) _ _ (passing (λ e. get snaps e.0 ≡ Some e.1) _ (entries snaps) (entries-in snaps_total snaps)))

ended-distinct : (rows : Rows) (at : Moment) (key : PolicyKey) (p : Policy) → AreDistinct (run_ended rows at key p)
ended-distinct rows at key p =
    let snaps = (made_rows rows at key p).snaps in
    distinct _ (pairs-left _ _ (pairs-left _ (entries snaps) (pairs (entries snaps) (entries-sorted snap_cmp snaps))))

-- ---- all of a run

abbrev run-key : (request : Request) → is_run request ≡ true → (key : PolicyKey) × (request ≡ RunPolicy key)
run-key (RunPolicy key) e = (key, refl)
run-key request e = absurd (false≢true e)

-- what is about the run's own snapshots, and no other
about-run : (made : Option SnapKey) (a b : SnapKey → Bool) (key : PolicyKey) (xs : List SnapKey) → filter (λ q. not (a q || b q)) xs ≡ filter (λ q. not ((is_run (RunPolicy key) && (a q || b q)) || is_about_by made (RunPolicy key) q)) xs
about-run made a b key xs = λ i. filter (λ q. not (or_none (a q || b q) i)) xs
  where
    or_none : (x : Bool) → x ≡ (x || false)
    or_none true = refl
    or_none false = refl

-- a run's changes of rows as they are kept, and of rows at the moment
made-aged : (rows : Rows) (at : Moment) (key : PolicyKey) (p : Policy) (new : List SnapRow) → AreNew new → with_rows (aged at.second rows) new ≡ made_rows (aged at.second rows) at key p → (free gone : List SnapKey)
    → aged at.second (with_freed (with_freed (with_rows rows new) free) gone) ≡ with_freed (made_rows (aged at.second rows) at key p) (free ++ gone)
made-aged rows at key p new n made free gone =
    let now = at.second in
    all-freed-aged now (with_freed (with_rows rows new) free) gone
    ∙ ap (λ r. with_freed r gone) (all-freed-aged now (with_rows rows new) free)
    ∙ freed-append (aged now (with_rows rows new)) free gone
    ∙ ap (λ r. with_freed r (free ++ gone)) (rows-aged now rows new n ∙ made)

run-policies : (rows : Rows) (at : Moment) (key : PolicyKey) (p : Policy) (keys gone : List SnapKey) → (with_deleted (with_freed (made_rows rows at key p) keys) at gone).policies ≡ rows.policies
run-policies rows at key p keys gone =
    (deleted-beside (with_freed (made_rows rows at key p) keys) at gone).policies
    ∙ (freed-beside (made_rows rows at key p) keys).policies
    ∙ (new-beside rows at key p (due_targets rows key p at.second)).policies

-- once the policy ran last at the moment
ran-last : (rows d : Rows) (at : Moment) (key : PolicyKey) (p : Policy) → get rows.policies key ≡ Some p
    → aged at.second d ≡ with_deleted (with_freed (made_rows rows at key p) (run_released rows at key p ++ run_ended rows at key p)) at (run_ended rows at key p)
    → aged at.second (record d { policies = with_last d.policies key at (get d.policies key) }) ≡ run_rows rows at key p
ran-last rows d at key p there is =
    let gone = run_ended rows at key p in
    let free = run_released rows at key p in
    let rest : Rows = with_deleted (with_freed (made_rows rows at key p) (free ++ gone)) at gone in
    let found : get rest.policies key ≡ Some p = ap (λ (m : FinMap policy_cmp Policy). get m key) (run-policies rows at key p (free ++ gone) gone) ∙ there in
    (λ i. record (is i) { policies = with_last (is i).policies key at (get (is i).policies key) })
    ∙ ap (λ (o : Option Policy). record rest { policies = with_last rest.policies key at o }) found

-- a change that is a run, with the room for it
module _ (h : Held) (change : Change) (room : Room) (ready : IsReady h change room) (call : is_run change.request ≡ true) (decided : IsDecided (aged change.at.second (rows_in h)) change) where
  abbrev rows : Rows
  rows = rows_in h

  abbrev now : Rows
  now = aged change.at.second rows

  abbrev pub key : PolicyKey
  key = (run-key change.request call).0

  pub request : change.request ≡ RunPolicy key
  request = (run-key change.request call).1

  run : IsRun now change key
  run = subst (λ (r : Request). PassedPolicies now change r) request (decided-policies now change decided)

  abbrev first : SnapKey
  first = next_key now key.account

  abbrev volumes : Volumes
  volumes = due_targets now key run.policy change.at.second

  abbrev list : List SnapRow
  list = run_list change.at key run.policy first volumes

  there : AreThereIn rows volumes
  there = due-there now key run.policy change.at.second

  -- the rows that were made with its room
  room-is : unwrap_or room.run [] ≡ list
  room-is =
      ap (λ (o : Option (List SnapRow)). unwrap_or o []) ready.run
      ∙ ap (λ (r : Request). unwrap_or (rows_of_run rows change.at change.made change.sources r) []) request
      ∙ ap (λ (o : Option Policy). calls.made_rows rows change.at key o change.made change.sources) run.found
      ∙ (λ i. rows_by rows change.at key run.policy (run.made i) (run.sources i))
      ∙ rows-are rows change.at key run.policy first volumes there

  covers : CoversMade h change.made × CoversEnded h change.ended
  covers = subst (λ (r : Request). CoversPolicies h change.made change.ended r) request ready.policies

  pub rows-covered : CoversRows h (unwrap_or room.run [])
  rows-covered = subst (CoversRows h) (sym room-is) (list-room h change.at key run.policy first volumes (subst (CoversMade h) run.made covers.0))

  pub ended-covered : (other : Held) → other.waits ≡ h.waits → CoversEnded other change.ended
  ended-covered other same = waits-room h other (sym same) change.ended covers.1

  pub rows-new : AreSoundVolumes rows.vols → change.at.second ≤ 2 ^ 36 → AreNew (unwrap_or room.run [])
  rows-new sound moment = subst AreNew (sym room-is) (list-new rows change.at key run.policy first volumes there sound moment)

  abbrev gone : List SnapKey
  gone = run_ended now change.at key run.policy

  abbrev free : List SnapKey
  free = run_released now change.at key run.policy

  gone-is : snaps_of change.ended ≡ gone
  gone-is = ap snaps_of run.ended ∙ snaps-of gone

  free-is : snaps_of change.released ≡ free
  free-is = ap snaps_of run.released ∙ snaps-of free

  pub gone-distinct : AreDistinct (snaps_of change.ended)
  gone-distinct = subst AreDistinct (sym gone-is) (ended-distinct now change.at key run.policy)

  -- the rows once those that are given up lost their policy
  abbrev before : Rows
  before = with_freed (with_freed (with_rows rows (unwrap_or room.run [])) (snaps_of change.released)) (snaps_of change.ended)

  before-is : AreNew (unwrap_or room.run []) → aged change.at.second before ≡ with_freed (made_rows now change.at key run.policy) (free ++ gone)
  before-is new =
      ap (aged change.at.second) (λ i. with_freed (with_freed (with_rows rows (room-is i)) (free-is i)) (gone-is i))
      ∙ made-aged rows change.at key run.policy list (subst AreNew room-is new) (list-made now change.at key run.policy volumes) free gone

  pub gone-there : AreNew (unwrap_or room.run []) → AreThere (aged change.at.second before) (snaps_of change.ended)
  gone-there new = subst (λ (r : Rows). AreThere r (snaps_of change.ended)) (sym (before-is new)) (subst (AreThere (with_freed (made_rows now change.at key run.policy) (free ++ gone))) (sym gone-is) (ended-there now change.at key run.policy (free ++ gone)))

  pub run-rows : AreNew (unwrap_or room.run []) → (d : Rows) → aged change.at.second d ≡ with_deleted (aged change.at.second before) change.at (snaps_of change.ended)
      → aged change.at.second (record d { policies = with_last d.policies key change.at (get d.policies key) }) ≡ commit now change
  run-rows new d is =
      ran-last now d change.at key run.policy run.found (is ∙ (λ i. with_deleted (before-is new i) change.at (gone-is i)))
      ∙ sym (ap (run_by now change.at key) run.found)
      ∙ sym (ap (λ (r : Request). commit_by now change.at change.account (made_snap change.made) (made_vol change.made) r) request)

  pub run-stale : (w : Waits) → filter (λ q. not (is_among q change.ended)) (stale_in before.snaps w change.at.second) ≡ filter (λ q. not (is_about change q)) (stale_in rows.snaps w change.at.second)
  run-stale w =
      let at = change.at in
      let old = stale_in rows.snaps w at.second in
      let made = with_rows rows (unwrap_or room.run []) in
      ap (filter (λ q. not (is_among q change.ended)))
      (
      freed-stale (with_freed made (snaps_of change.released)) (snaps_of change.ended) at.second w
      ∙ freed-stale made (snaps_of change.released) at.second w
      ∙ ap (λ (l : List SnapRow). stale_in (with_rows rows l).snaps w at.second) room-is
      ∙ list-stale rows at key run.policy first volumes w
      ∙ ap (λ (ids : List AnyKey). filter (λ q. not (is_among q ids)) old) (sym run.made)
      )
      ∙ filter-twice (λ q. is_among q change.made) (λ q. is_among q change.ended) old
      ∙ about-run (made_snap change.made) (λ q. is_among q change.made) (λ q. is_among q change.ended) key old
      ∙ sym (ap (λ (r : Request). filter (λ q. not ((is_run r && (is_among q change.made || is_among q change.ended)) || is_about_by (made_snap change.made) r q)) old) request)
