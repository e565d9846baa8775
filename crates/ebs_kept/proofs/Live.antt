-- A stamp is that of a block of the machine where it is that of one in an array which is shown.
use Rattle.std.proofs.Common.{◌≡◌, ◌≢◌, ◌⊎◌, inl, inr, ℕ, ◌+◌, ◌<◌, ◌≤◌, ◌==◌, ◌||◌, ◌&&◌, Bool, true, false, cond, is_some, nat_le, arith, length, List, [], ◌∷◌, Option, Some, None, Ordering, refl, sym, ap, ◌∙◌}
use Rattle.std.proofs.lemmas.Bool.{false≢true}
use Rattle.std.proofs.lemmas.Bool.Decides.{nat_tests}
use Rattle.std.specs.List.{list_any, filter, AllByRecursion}
use Rattle.std.specs.Option.{option_map, unwrap_or}
use Rattle.std.specs.Ordering.{eq_by_cmp, is_le, nat_cmp}
use Rattle.std.specs.Map.{lookup}
use Rattle.std.specs.BTreeMap.{is_at}
use Rattle.std.specs.Cmp.{IsTotalOrder, nat_cmp_total}
use Rattle.std.specs.FinMap.{FinMap, IsAntisymmetric, nat_cmp-IsAntisymmetric, get, entries, empty, len-entries, len-empty}
use Rattle.ebs_tables.proofs.MapEdits.{is_same}
use Rattle.ebs_tables.proofs.TreeMaps.{get-lookup}
use Rattle.ebs_model.specs.declared.keys.SnapKey.{SnapKey}
use Rattle.ebs_model.specs.declared.keys.VolKey.{VolKey}
use Rattle.ebs_model.specs.declared.array.Block.{Block}
use Rattle.ebs_model.specs.declared.rows.VolRow.{VolRow}
use Rattle.ebs_model.specs.inner.Orders.{snaps_total, exact_snaps, vols_total, exact_vols}
use Rattle.ebs_model.specs.Arrays.{WholeBlock, WholeArray}
use Rattle.ebs_model.specs.Time.{Snapshot}
use Rattle.ebs_model.specs.Machine.{Machine, with_arrays, array_at, array_of, disk_of}
use Rattle.ebs_model.proofs.Aged.{get-aged, aged_row}
use Rattle.ebs_model.proofs.RowLaws.{get-with}
use Rattle.ebs_model.proofs.Commits.{array-left}
use Rattle.ebs_lineage.specs.declared.node_id.NodeId.{NodeId}
use Rattle.ebs_lineage.specs.Owned.{Blocks}
use Rattle.ebs_lineage.specs.Lines.{array}
use Rattle.ebs_holds.specs.declared.holder.Holder.{Holder}
use Rattle.ebs_holds.specs.Holders.{holder_cmp, of_snap, of_vol}
use Rattle.ebs_holds.specs.Orders.{exact_holders, holders_total}
use Rattle.ebs_holds.specs.Holds.{nodes_in, held_in, blocks_at, array_of_node}
use Rattle.ebs_catalog.specs.Held.{rows_in}
use Rattle.ebs_catalog.proofs.RunCommits.{entries-in}
use Rattle.ebs_catalog.proofs.CountLaws.{le_first}
use Rattle.ebs_kept.specs.declared.kept.Kept.TheInside.{Inside}
use Rattle.ebs_kept.specs.inner.Shown.{Form, kept_block, kept_array, snap_array, disk_array, shown}
use Rattle.ebs_kept.specs.inner.Stamps.{has_stamp, in_snapshots, in_volumes, is_live, is_shown}
use Rattle.ebs_kept.proofs.Arrays.{get-kept, kept-empty, kept-found}
use Rattle.ebs_kept.proofs.Disks.{get-disk}

-- ---- a test of entries is one of what is at keys

or-right : (b : Bool) → b || true ≡ true
or-right true = refl
or-right false = refl

one-of : {A : Type 0} (P : A → Type 0) (p : A → Bool) (xs : List A) → AllByRecursion P xs → list_any p xs ≡ true → (x : A) × P x × (p x ≡ true)
one-of P p [] h e = absurd (false≢true e)
one-of {A = A} P p (x ∷ xs) h e = by (p x) refl (one-of P p xs h.1) e
  where
    by : (b : Bool) → p x ≡ b → (list_any p xs ≡ true → (y : A) × P y × (p y ≡ true)) → b || list_any p xs ≡ true → (y : A) × P y × (p y ≡ true)
    by true t rest e = (x, h.0, t)
    by false t rest e = rest e

same-bool : (a b : Bool) → (a ≡ true → b ≡ true) → (b ≡ true → a ≡ true) → a ≡ b
same-bool true true there back = refl
same-bool false false there back = refl
same-bool true false there back = sym (there refl)
same-bool false true there back = back refl

module _ {K X : Type 0} {R : K → K → Ordering} (o : IsTotalOrder R) (exact : IsAntisymmetric R) (test : K → Option X → Bool) (none : (k : K) → test k None ≡ false) where
  abbrev any : List (K × X) → Bool
  any es = list_any (λ e. test e.0 (Some e.1)) es

  looked : (k : K) (es : List (K × X)) → test k (lookup (is_at (R k)) es) ≡ true → any es ≡ true
  looked k [] h = absurd (false≢true (sym (none k) ∙ h))
  looked k (e ∷ es) h = by (is_at (R k) e.0) refl (looked k es) h
    where
      by : (b : Bool) → eq_by_cmp R k e.0 ≡ b → (test k (lookup (is_at (R k)) es) ≡ true → any es ≡ true) → test k (cond b (Some e.1) (lookup (is_at (R k)) es)) ≡ true → test e.0 (Some e.1) || any es ≡ true
      by true t rest h = ap (λ b. b || any es) (ap (λ q. test q (Some e.1)) (sym (is_same exact k e.0 t)) ∙ h)
      by false t rest h = ap (λ b. test e.0 (Some e.1) || b) (rest h) ∙ or-right (test e.0 (Some e.1))

  pub here : (m : FinMap R X) (k : K) → test k (get m k) ≡ true → any (entries m) ≡ true
  here m k h = looked k (entries m) (ap (test k) (sym (get-lookup R m k)) ∙ h)

  pub there : (m : FinMap R X) → any (entries m) ≡ true → (k : K) × (test k (get m k) ≡ true)
  there m h =
      let (e, found, t) = one-of (λ (e : K × X). get m e.0 ≡ Some e.1) (λ (e : K × X). test e.0 (Some e.1)) (entries m) (entries-in o m) h in
      (e.0, ap (test e.0) found ∙ t)

-- ---- what is kept and what is shown

no-entries : (es : List (ℕ × WholeBlock)) → length es ≡ 0 → es ≡ []
no-entries [] e = refl
no-entries (x ∷ es) e = cc

none-in : entries {X = WholeBlock} {R = nat_cmp} empty ≡ []
none-in = no-entries _ (sym (len-entries (empty {X = WholeBlock} {R = nat_cmp})) ∙ len-empty nat_cmp WholeBlock)

no-stamp : (stamp : ℕ) → has_stamp stamp empty ≡ false
no-stamp stamp = ap (list_any (λ (e : ℕ × WholeBlock). e.1.stamp == stamp)) none-in

seen-stamp : (stamp : ℕ) (b : Bool) (a : WholeArray) → b && has_stamp stamp a ≡ has_stamp stamp (cond b a empty)
seen-stamp stamp true a = refl
seen-stamp stamp false a = sym (no-stamp stamp)

-- ---- stamps of an array

itself : (n : ℕ) → (n == n) ≡ true
itself n = grind (arith, nat_tests)

pub has-it : (stamp n : ℕ) → n ≡ stamp → (n == stamp) ≡ true
has-it stamp n e = ap (λ k. k == stamp) e ∙ itself stamp

same-number : (stamp n : ℕ) → (n == stamp) ≡ true → n ≡ stamp
same-number stamp n t = grind (arith, nat_tests)

abbrev at-stamp : ℕ → ℕ → Option WholeBlock → Bool
at-stamp stamp index None = false
at-stamp stamp index (Some b) = b.stamp == stamp

in-array : (stamp : ℕ) (a : WholeArray) (index : ℕ) (block : WholeBlock) → get a index ≡ Some block → block.stamp ≡ stamp → has_stamp stamp a ≡ true
in-array stamp a index block found is =
    here nat_cmp_total nat_cmp-IsAntisymmetric (at-stamp stamp) (λ k. refl) a index (ap (at-stamp stamp index) found ∙ has-it stamp block.stamp is)

pub stamped : (stamp : ℕ) (blocks : Blocks) (index : ℕ) (b : Block) → get blocks index ≡ Some b → b.stamp ≡ stamp → has_stamp stamp (kept_array blocks) ≡ true
stamped stamp blocks index b found is = in-array stamp (kept_array blocks) index (kept_block b) (get-kept blocks index ∙ ap (option_map kept_block) found) is

pub unstamped : (stamp : ℕ) (blocks : Blocks) → ((index : ℕ) (b : Block) → get blocks index ≡ Some b → b.stamp ≢ stamp) → has_stamp stamp (kept_array blocks) ≡ false
unstamped stamp blocks none = by (has_stamp stamp (kept_array blocks)) refl
  where
    at : (index : ℕ) (o : Option WholeBlock) → get (kept_array blocks) index ≡ o → at-stamp stamp index o ≡ true → ⊥
    at index None e t = false≢true t
    at index (Some block) e t =
        let (b, found, is) = kept-found blocks index block e in
        none index b found (ap (λ (w : WholeBlock). w.stamp) is ∙ same-number stamp block.stamp t)

    by : (b : Bool) → has_stamp stamp (kept_array blocks) ≡ b → has_stamp stamp (kept_array blocks) ≡ false
    by false e = e
    by true e =
        let (index, t) = there nat_cmp_total nat_cmp-IsAntisymmetric (at-stamp stamp) (λ k. refl) (kept_array blocks) e in
        absurd (at index (get (kept_array blocks) index) refl t)

place : (index from : ℕ) → (index < from) ⊎ (from ≤ index)
place index from = grind arith

-- no block below the index has the stamp
abbrev pub NoneBelow : ℕ → Blocks → ℕ → Type 0
NoneBelow stamp blocks from = (index : ℕ) (block : Block) → get blocks index ≡ Some block → index < from → block.stamp ≢ stamp

-- and none stands from there on
pub none-stamped : (stamp from : ℕ) (blocks : Blocks) → NoneBelow stamp blocks from → ((q : ℕ) → from ≤ q → get blocks q ≡ None) → has_stamp stamp (kept_array blocks) ≡ false
none-stamped stamp from blocks below above = unstamped stamp blocks (λ index b found is. by index b found is (place index from))
  where
    by : (index : ℕ) (b : Block) → get blocks index ≡ Some b → b.stamp ≡ stamp → (index < from) ⊎ (from ≤ index) → ⊥
    by index b found is (inl less) = below index b found less is
    by index b found is (inr far) = let gone : None ≡ Some b = sym (above index far) ∙ found in absurd (cc)

-- nor has the next one it
pub next-unstamped : (stamp from next : ℕ) (blocks : Blocks) (b : Block) → NoneBelow stamp blocks from → get blocks next ≡ Some b → ((q : ℕ) → from ≤ q → q < next → get blocks q ≡ None) → b.stamp ≢ stamp → NoneBelow stamp blocks (next + 1)
next-unstamped stamp from next blocks b below found none other index block is less = elim (place index from) [
  | inl before ↦ below index block is before
  | inr far ↦ elim (place index next) [
    | inl between ↦ (λ same. let gone : None ≡ Some block = sym (none index far between) ∙ is in absurd (cc))
    | inr at ↦ (λ same. other (ap (λ (x : Block). x.stamp) (some_is b block (sym found ∙ ap (get blocks) (at_next at) ∙ is)) ∙ same))
  ]
]
  where
    some_is : (x y : Block) → Some x ≡ Some y → x ≡ y
    some_is x y e = cc

    at_next : next ≤ index → next ≡ index
    at_next at = omega (arith, less, at)

-- ---- what holders show

module _ (k : Inside) where
  -- what is seen of a holder's array
  abbrev pub seen : Holder → WholeArray
  seen q = cond (is_shown k.clock.second (rows_in k.catalog) q) (kept_array (blocks_at k.holdings q)) empty

  pub seen-snapshot : (key : SnapKey) → array_of (shown k) key ≡ seen (of_snap key)
  seen-snapshot key =
      ap array_at (get-aged k.clock.second (with_arrays (rows_in k.catalog).snaps (snap_array k.holdings)) key ∙ ap (aged_row k.clock.second) (get-with (rows_in k.catalog).snaps (snap_array k.holdings) key))
      ∙ array-left k.clock.second (snap_array k.holdings key) (get (rows_in k.catalog).snaps key)

  pub seen-volume : (key : VolKey) → disk_of (shown k) key ≡ seen (of_vol key)
  seen-volume key =
      ap (λ (o : Option WholeArray). unwrap_or o empty) (get-disk (rows_in k.catalog).vols (disk_array k.holdings) key) ∙ by (get (rows_in k.catalog).vols key) (disk_array k.holdings key)
    where
      by : (o : Option VolRow) (a : WholeArray) → unwrap_or (option_map (λ row. a) o) empty ≡ cond (is_some o) a empty
      by None a = refl
      by (Some row) a = refl

  module _ (stamp : ℕ) where
    abbrev held-test : Holder → Option NodeId → Bool
    held-test q None = false
    held-test q (Some n) = is_shown k.clock.second (rows_in k.catalog) q && has_stamp stamp (kept_array (array (nodes_in k.holdings) n.number))

    -- a holder passes where what is seen of it has the stamp
    passes : (q : Holder) (o : Option NodeId) → get (held_in k.holdings) q ≡ o → held-test q o ≡ has_stamp stamp (seen q)
    passes q None e =
        sym (no-stamp stamp)
        ∙ ap (has_stamp stamp) (nothing (is_shown k.clock.second (rows_in k.catalog) q))
        ∙ ap (λ o. has_stamp stamp (cond (is_shown k.clock.second (rows_in k.catalog) q) (kept_array (array_of_node (nodes_in k.holdings) o)) empty)) (sym e)
      where
        nothing : (b : Bool) → empty ≡ cond b (kept_array empty) empty
        nothing true = sym kept-empty
        nothing false = refl
    passes q (Some n) e =
        seen-stamp stamp (is_shown k.clock.second (rows_in k.catalog) q) (kept_array (array (nodes_in k.holdings) n.number))
        ∙ ap (λ o. has_stamp stamp (cond (is_shown k.clock.second (rows_in k.catalog) q) (kept_array (array_of_node (nodes_in k.holdings) o)) empty)) (sym e)

    snapshot-live : (key : SnapKey) → has_stamp stamp (seen (of_snap key)) ≡ true → is_live (shown k) stamp ≡ true
    snapshot-live key t =
        ap (λ b. b || in_volumes (shown k) stamp)
        (here snaps_total exact_snaps (λ key (o : Option Snapshot). has_stamp stamp (array_at o)) (λ key. no-stamp stamp) (shown k).snaps key (ap (has_stamp stamp) (seen-snapshot key) ∙ t))

    volume-live : (key : VolKey) → has_stamp stamp (seen (of_vol key)) ≡ true → is_live (shown k) stamp ≡ true
    volume-live key t =
        ap (λ b. in_snapshots (shown k) stamp || b)
        (here vols_total exact_vols (λ key (o : Option WholeArray). has_stamp stamp (unwrap_or o empty)) (λ key. no-stamp stamp) (shown k).disks key (ap (has_stamp stamp) (seen-volume key) ∙ t))
        ∙ or-right (in_snapshots (shown k) stamp)

    holder-live : (q : Holder) (b : Bool) → q.is_volume ≡ b → has_stamp stamp (seen q) ≡ true → is_live (shown k) stamp ≡ true
    holder-live q false is t = snapshot-live (record { account = q.account; number = q.number })
        (ap (λ (h : Holder). has_stamp stamp (seen h)) (λ i. record { is_volume = sym is i; account = q.account; number = q.number }) ∙ t)
    holder-live q true is t = volume-live (record { account = q.account; number = q.number })
        (ap (λ (h : Holder). has_stamp stamp (seen h)) (λ i. record { is_volume = sym is i; account = q.account; number = q.number }) ∙ t)

    live-holder : (q : Holder) → has_stamp stamp (seen q) ≡ true → list_any (λ e. held-test e.0 (Some e.1)) (entries (held_in k.holdings)) ≡ true
    live-holder q t = here holders_total exact_holders held-test (λ q. refl) (held_in k.holdings) q (passes q (get (held_in k.holdings) q) refl ∙ t)

    -- the stamps of holders' blocks that are shown are those of the machine's
    pub live-is : list_any (λ e. held-test e.0 (Some e.1)) (entries (held_in k.holdings)) ≡ is_live (shown k) stamp
    live-is = same-bool _ _ forth back
      where
        forth : list_any (λ e. held-test e.0 (Some e.1)) (entries (held_in k.holdings)) ≡ true → is_live (shown k) stamp ≡ true
        forth t =
            let (q, passed) = there holders_total exact_holders held-test (λ q. refl) (held_in k.holdings) t in
            holder-live q q.is_volume refl (sym (passes q (get (held_in k.holdings) q) refl) ∙ passed)

        by : (b : Bool) → in_snapshots (shown k) stamp ≡ b → b || in_volumes (shown k) stamp ≡ true → list_any (λ e. held-test e.0 (Some e.1)) (entries (held_in k.holdings)) ≡ true
        by true is t =
            let (key, passed) = there snaps_total exact_snaps (λ key (o : Option Snapshot). has_stamp stamp (array_at o)) (λ key. no-stamp stamp) (shown k).snaps is in
            live-holder (of_snap key) (ap (has_stamp stamp) (sym (seen-snapshot key)) ∙ passed)
        by false is t =
            let (key, passed) = there vols_total exact_vols (λ key (o : Option WholeArray). has_stamp stamp (unwrap_or o empty)) (λ key. no-stamp stamp) (shown k).disks t in
            live-holder (of_vol key) (ap (has_stamp stamp) (sym (seen-volume key)) ∙ passed)

        back : is_live (shown k) stamp ≡ true → list_any (λ e. held-test e.0 (Some e.1)) (entries (held_in k.holdings)) ≡ true
        back t = by (in_snapshots (shown k) stamp) refl t

-- what is tested of an entry, of the kept form
abbrev pub tested : ℕ → Form → Holder × NodeId → Bool
tested stamp f e = is_shown f.machine.clock.second (rows_in f.catalog) e.0 && has_stamp stamp (kept_array (array (nodes_in f.holding) e.1.number))

-- ---- walks

pub all-pass : {A : Type 0} (p : A → Bool) → ((x : A) → p x ≡ true) → (xs : List A) → filter p xs ≡ xs
all-pass p h [] = refl
all-pass p h (x ∷ xs) = ap (λ b. cond b (x ∷ filter p xs) (filter p xs)) (h x) ∙ ap (λ t. x ∷ t) (all-pass p h xs)

module _ {A : Type 0} (p : A → Bool) (all whole rest : List A) (start : whole ≡ all) (kept : list_any p rest ≡ list_any p whole) where
  -- what is found first is one of all
  pub found-first : (x : A) (tail : List A) → rest ≡ x ∷ tail → p x ≡ true → list_any p all ≡ true
  found-first x tail is t = ap (list_any p) (sym start) ∙ sym kept ∙ ap (list_any p) is ∙ ap (λ b. b || list_any p tail) t

  pub found-none : rest ≡ [] → list_any p all ≡ false
  found-none is = ap (list_any p) (sym start) ∙ sym kept ∙ ap (list_any p) is

-- all indexes are at 0 or above it
pub all-blocks : {X : Type 0} (es : List (ℕ × X)) → filter (λ e. nat_le 0 e.0) es ≡ es
all-blocks es = all-pass _ (λ e. grind (arith, nat_tests)) es

-- and all holders at the first one or behind it
pub holder-first : (q : Holder) (b : Bool) → q.is_volume ≡ b → is_le (holder_cmp (record { is_volume = false; account = 0; number = 0 }) q) ≡ true
holder-first q false is = ap (λ b. is_le (holder_cmp (record { is_volume = false; account = 0; number = 0 }) (record { is_volume = b; account = q.account; number = q.number }))) is ∙ le_first (record { account = q.account; number = q.number })
holder-first q true is = ap (λ b. is_le (holder_cmp (record { is_volume = false; account = 0; number = 0 }) (record { is_volume = b; account = q.account; number = q.number }))) is

pub all-holders : {X : Type 0} (first : Holder) (is : first ≡ record { is_volume = false; account = 0; number = 0 }) (es : List (Holder × X)) → filter (λ e. is_le (holder_cmp first e.0)) es ≡ es
all-holders first is es = all-pass _ (λ e. ap (λ k. is_le (holder_cmp k e.0)) is ∙ holder-first e.0 e.0.is_volume refl) es

-- ---- a stamp that isn't one of the machine's

pub no-snapshot : (m : Machine) (stamp : ℕ) → is_live m stamp ≡ false → (key : SnapKey) (index : ℕ) (block : WholeBlock) → get (array_of m key) index ≡ Some block → block.stamp ≢ stamp
no-snapshot m stamp none key index block found is = false≢true (sym none ∙ ap (λ b. b || in_volumes m stamp)
    (here snaps_total exact_snaps (λ key (o : Option Snapshot). has_stamp stamp (array_at o)) (λ key. no-stamp stamp) m.snaps key (in-array stamp (array_of m key) index block found is)))

pub no-volume : (m : Machine) (stamp : ℕ) → is_live m stamp ≡ false → (key : VolKey) (index : ℕ) (block : WholeBlock) → get (disk_of m key) index ≡ Some block → block.stamp ≢ stamp
no-volume m stamp none key index block found is = false≢true (sym none ∙ ap (λ b. in_snapshots m stamp || b)
    (here vols_total exact_vols (λ key (o : Option WholeArray). has_stamp stamp (unwrap_or o empty)) (λ key. no-stamp stamp) m.disks key (in-array stamp (disk_of m key) index block found is))
    ∙ or-right (in_snapshots m stamp))
