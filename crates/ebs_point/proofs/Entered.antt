-- The entries of a checkpoint's nodes: each is a block that a node keeps, with its slot.
use Rattle.std.proofs.Common.{◌≡◌, ℕ, ◌<◌, Bool, true, false, not, ◌&&◌, ◌||◌, ◌==◌, cond, List, [], ◌∷◌, ◌++◌, map, Option, None, Some, IsSome, Ordering, Less, Equal, Greater, refl, sym, ap, subst, ◌∙◌, arith, append-nil}
use Rattle.std.proofs.lemmas.Bool.{and_parts, false≢true}
use Rattle.std.proofs.lemmas.Bool.Decides.{nat_tests}
use Rattle.std.specs.Prelude.{flat_map, nat_eq, nat_lt}
use Rattle.std.specs.List.{AllByRecursion, find, list_all}
use Rattle.std.specs.Option.{option_map}
use Rattle.std.specs.Cmp.{nat_cmp_total, ranks}
use Rattle.std.specs.Cmp.Lexicographic.{pointwise}
use Rattle.std.specs.Ordering.{nat_cmp, is_lt, MatchOrdering}
use Rattle.std.specs.FinMap.{FinMap, empty, get}
use Rattle.ebs_model.specs.declared.array.Block.{Block}
use Rattle.ebs_model.specs.Arrays.{WholeBlock}
use Rattle.ebs_model.specs.Machine.{Machine}
use Rattle.ebs_records.specs.Records.{is_index}
use Rattle.ebs_lineage.specs.Owned.{Blocks}
use Rattle.ebs_lineage.specs.Table.{NodeMap}
use Rattle.ebs_lineage.specs.Lines.{own, own_of}
use Rattle.ebs_lineage.specs.Reached.{IsKept}
use Rattle.ebs_slots.specs.inner.Slots.{SlotTable}
use Rattle.ebs_collect.specs.Slices.{IsCounted}
use Rattle.ebs_checkpoints.specs.declared.nodes.CopyRow.{CopyRow}
use Rattle.ebs_checkpoints.specs.declared.nodes.EntryRow.{EntryRow}
use Rattle.ebs_checkpoints.specs.declared.nodes.NodeRow.{NodeRow}
use Rattle.ebs_checkpoints.specs.declared.nodes.SlotRow.{SlotRow}
use Rattle.ebs_checkpoints.specs.declared.snapshots.SnapPoint.{SnapPoint}
use Rattle.ebs_checkpoints.specs.declared.checkpoint.Checkpoint.{Checkpoint}
use Rattle.ebs_row_rules.specs.Numbers.{are_same, has}
use Rattle.ebs_row_rules.specs.Order as steps
use Rattle.ebs_row_rules.specs.Limits.{has_entry_index, is_node_within}
use Rattle.ebs_row_rules.specs.Slots.{blocks_of, copies_of, copy_block, entry_block, entry_blocks, keys, stamps}
use Rattle.ebs_row_rules.specs.Stamps.{are_alike, have_one_digest}
use Rattle.ebs_row_rules.specs.inner.Stamps.{has_digest, is_digest}
use Rattle.ebs_node_rules.specs.inner.Nodes as pairs
use Rattle.ebs_node_rules.specs.Nodes.{node_of}
use Rattle.ebs_node_rules.specs.inner.Nodes.{nodes_ascend}
use Rattle.ebs_node_rules.specs.Arrays.{Array, with_entries}
use Rattle.ebs_node_rules.proofs.Keyed.{get-entries, own_or}
use Rattle.ebs_recovery.specs.Stands.{snapshot, volume}
use Rattle.ebs_recovery.specs.inner.Bases.{kept_block, machine_of}
use Rattle.ebs_recovery.specs.Bases.{slots_of}
use Rattle.ebs_recovery.specs.inner.Fits.{AgreeOn}
use Rattle.ebs_lawful_points.proofs.Ordered.{each-found}
use Rattle.ebs_lawful_points.proofs.Parts.{all-of, both, each-of, weaker}
use Rattle.ebs_lawful_points.proofs.RowRules.{less-is}
use Rattle.ebs_lawful_points.proofs.StampPoints.{block-passes}
use Rattle.ebs_node_rows.specs.Rows.{AreEntriesOf, AreRowsOf, IsRowOf}
use Rattle.ebs_lawful_points.specs.Blocks.{HasStamps}
use Rattle.ebs_lawful_points.proofs.OwnPoints.{same-text}
use Rattle.ebs_kept.specs.Stamps.{AreDigests, Digests, HasDigest, in_snapshot, in_volume}
use Rattle.ebs_point_rules.specs.Blocks.{AreGiven, IsShown}
use Rattle.ebs_pointed.specs.Stored.{AreStored, IsSlotOf}
use Rattle.ebs_point.specs.Live.{is_live, live_rows}
use Rattle.ebs_point.specs.Nodes.{HasEntriesOf, IsEntryOf}
use Rattle.ebs_point.specs.Slots.{AreSlotsOf}
use Rattle.ebs_point.proofs.Dropped.{entries-kept}
use Rattle.ebs_point.proofs.Naming.{among-is}

same-number : (a b : ℕ) → (a == b) ≡ true → a ≡ b
same-number a b e = grind (arith, nat_tests)

itself : (n : ℕ) → (n == n) ≡ true
itself n = grind (arith, nat_tests)

another : (a b : ℕ) → nat_lt a b ≡ true → (a == b) ≡ false
another a b e = grind (arith, nat_tests)

below : (a b : ℕ) → nat_lt a b ≡ true → a < b
below a b e = grind (arith, nat_tests)

-- ---- lists that ascend

-- each is found by its key
pub found-itself : {X : Type 0} (key : X → ℕ) (xs : List X) → pairs.ascends key xs ≡ true → AllByRecursion (λ x. find (λ y. key y == key x) xs ≡ Some x) xs
found-itself key [] up = tt
found-itself key (x ∷ xs) up =
    let parts = and_parts (list_all (λ y. nat_lt (key x) (key y)) xs) (pairs.ascends key xs) up in (
      rw (itself (key x)) refl,
      weaker (λ y. (nat_lt (key x) (key y) ≡ true) × (find (λ z. key z == key y) xs ≡ Some y)) (λ y. find (λ z. key z == key y) (x ∷ xs) ≡ Some y)
          (λ y e. rw (another (key x) (key y) e.0) e.1) xs
          (both (λ y. nat_lt (key x) (key y) ≡ true) (λ y. find (λ z. key z == key y) xs ≡ Some y) xs (each-of (λ y. nat_lt (key x) (key y)) xs parts.0) (found-itself key xs parts.1)),
    )

is-less : (a b : ℕ) → a < b → is_lt (nat_cmp a b) ≡ true
is-less a b l = by (nat_cmp a b) (ranks a b)
  where
    by : (r : Ordering) → MatchOrdering r (a < b) (a ≡ b) (b < a) → is_lt r ≡ true
    by Less m = refl
    by Equal m = absurd (omega (arith, m, l))
    by Greater m = absurd (omega (arith, m, l))

-- and is below the next
pub stepwise : {X : Type 0} (key : X → ℕ) (xs : List X) → pairs.ascends key xs ≡ true → steps.ascends nat_cmp key xs ≡ true
stepwise key [] up = refl
stepwise key (x ∷ []) up = refl
stepwise key (x ∷ y ∷ ys) up =
    let parts = and_parts (list_all (λ z. nat_lt (key x) (key z)) (y ∷ ys)) (pairs.ascends key (y ∷ ys)) up in
    let near = and_parts (nat_lt (key x) (key y)) (list_all (λ z. nat_lt (key x) (key z)) ys) parts.0 in
    λ i. is-less (key x) (key y) (below (key x) (key y) near.0) i && stepwise key (y ∷ ys) parts.1 i

-- ---- each entry is a block that its node keeps

module _ (nodes : NodeMap) where
  -- a node keeps the block at the index
  abbrev pub KeepsEntry : EntryRow → Type 0
  KeepsEntry e = (n : ℕ) × (get (own nodes n) e.index ≡ Some e.block)

  entry-there : (blocks : Blocks) (es : List EntryRow) → AreEntriesOf blocks es → AllByRecursion (λ (e : EntryRow). get blocks e.index ≡ Some e.block) es
  entry-there blocks es are = weaker (λ (e : EntryRow). find (λ (y : EntryRow). y.index == e.index) es ≡ Some e) (λ (e : EntryRow). get blocks e.index ≡ Some e.block)
      (λ e found. ap (λ (m : Array). get m e.index) (sym are.own) ∙ get-entries es empty e.index are.ascend ∙ ap (λ (o : Option EntryRow). own_or (option_map (λ (x : EntryRow). x.block) o) (get {R = nat_cmp} empty e.index)) found)
      es (found-itself (λ (e : EntryRow). e.index) es are.ascend)

  row-keeps : (row : NodeRow) → IsRowOf nodes row.number row → AllByRecursion KeepsEntry row.entries
  row-keeps row is = weaker (λ (e : EntryRow). get is.node.own.blocks e.index ≡ Some e.block) KeepsEntry
      (λ e there. (row.number, ap (λ o. get (own_of o) e.index) is.is ∙ there)) row.entries (entry-there is.node.own.blocks row.entries is.entries)

  pub rows-keep : (rows : List NodeRow) → AreRowsOf nodes rows → nodes_ascend rows ≡ true → AllByRecursion (λ (row : NodeRow). AllByRecursion KeepsEntry row.entries) rows
  rows-keep rows each up = weaker (λ (row : NodeRow). node_of rows (Some row.number) ≡ Some row) (λ (row : NodeRow). AllByRecursion KeepsEntry row.entries)
      (λ row found. row-keeps row (each row.number row found)) rows (found-itself (λ (row : NodeRow). row.number) rows up)

module _ (nodes : NodeMap) (digests : Digests) where
  -- the nodes that are listed, with those entries alone whose blocks have the digests of their stamps
  pub live-entries : (rows : List NodeRow) → AllByRecursion (λ (row : NodeRow). AllByRecursion (KeepsEntry nodes) row.entries) rows → AllByRecursion (HasEntriesOf nodes digests) (live_rows digests rows)
  live-entries rows all = weaker (λ (row : NodeRow). AllByRecursion (λ (e : EntryRow). KeepsEntry nodes e × (is_live digests e ≡ true)) row.entries) (HasEntriesOf nodes digests)
      (λ row es. weaker (λ (e : EntryRow). KeepsEntry nodes e × (is_live digests e ≡ true)) (IsEntryOf nodes digests) (λ e h. record { node = h.0.0; there = h.0.1; live = h.1 }) row.entries es)
      (live_rows digests rows) (entries-kept (is_live digests) (KeepsEntry nodes) rows all)

  -- such a block, at some index of some node
  pub record IsBlockOf (block : Block) : Type 0 where
    pub index : ℕ
    pub entry : IsEntryOf nodes digests (record { index = index; block = block })

  both-all : {X : Type 0} (P : X → Type 0) (xs ys : List X) → AllByRecursion P xs → AllByRecursion P ys → AllByRecursion P (xs ++ ys)
  both-all P [] ys a b = b
  both-all P (x ∷ xs) ys a b = (a.0, both-all P xs ys a.1 b)

  entries-blocks : (es : List EntryRow) → AllByRecursion (IsEntryOf nodes digests) es → AllByRecursion IsBlockOf (map entry_block es)
  entries-blocks [] all = tt
  entries-blocks (e ∷ es) all = (record { index = e.index; entry = record { node = all.0.node; there = all.0.there; live = all.0.live } }, entries-blocks es all.1)

  pub blocks-are-of : (rows : List NodeRow) → AllByRecursion (HasEntriesOf nodes digests) rows → AllByRecursion IsBlockOf (entry_blocks rows)
  blocks-are-of [] all = tt
  blocks-are-of (row ∷ rows) all = both-all IsBlockOf (map entry_block row.entries) (entry_blocks rows) (entries-blocks row.entries all.0) (blocks-are-of rows all.1)

  -- their indexes are those of an image
  pub nodes-within : (rows : List NodeRow) → AllByRecursion (HasEntriesOf nodes digests) rows → list_all is_node_within rows ≡ true
  nodes-within rows all = all-of is_node_within rows (weaker (HasEntriesOf nodes digests) (λ (row : NodeRow). is_node_within row ≡ true)
      (λ row es. all-of has_entry_index row.entries (weaker (IsEntryOf nodes digests) (λ (e : EntryRow). has_entry_index e ≡ true) (λ e h. (and_parts (is_index e.index) (has_digest digests e.block) h.live).0) row.entries es)) rows all)

-- ---- their slots

on-stamps : (P : ℕ → Type 0) (bs : List Block) → AllByRecursion (λ (b : Block). P b.stamp) bs → AllByRecursion P (stamps bs)
on-stamps P [] all = tt
on-stamps P (b ∷ bs) all = (all.0, on-stamps P bs all.1)

module _ (nodes : NodeMap) (digests : Digests) (rows : List NodeRow) (all : AllByRecursion (IsBlockOf nodes digests) (entry_blocks rows)) where
  kept : (b : Block) → IsBlockOf nodes digests b → IsKept nodes b.stamp
  kept b k = record { node = k.entry.node; has = record { index = k.index; block = b; found = k.entry.there; same = refl } }

  pub stored : (s : SlotTable) → IsCounted s nodes → AreStored rows s.keys
  stored s counted stamp there = among-is (λ (n : ℕ). IsSome (get s.keys n)) (stamps (entry_blocks rows))
      (on-stamps (λ (n : ℕ). IsSome (get s.keys n)) (entry_blocks rows) (weaker (IsBlockOf nodes digests) (λ (b : Block). IsSome (get s.keys b.stamp)) (λ b k. (counted.slotted b.stamp).1 (kept b k)) (entry_blocks rows) all)) stamp there

-- ---- their stamps

no-copies : (ss : List SnapPoint) → AllByRecursion (λ (p : SnapPoint). p.copies ≡ []) ss → copies_of ss ≡ []
no-copies [] none = refl
no-copies (p ∷ ss) none = λ i. none.0 i ++ no-copies ss none.1 i

pub blocks-are : (point : Checkpoint) → AllByRecursion (λ (p : SnapPoint). p.copies ≡ []) point.snapshots → blocks_of point ≡ entry_blocks point.nodes
blocks-are point none = ap (λ (cs : List CopyRow). entry_blocks point.nodes ++ map copy_block cs) (no-copies point.snapshots none) ∙ append-nil (entry_blocks point.nodes)

-- a block that has the digest of its stamp is one of the machine's
module _ (m : Machine) (digests : Digests) (are : AreDigests m digests) where
  shown-by : (b : Block) → HasDigest m b.stamp b.digest → IsShown m b
  shown-by b (in_snapshot key index there) = record { holder = snapshot key; index = index; there = there }
  shown-by b (in_volume key index there) = record { holder = volume key; index = index; there = there }

  digest-of : (b : Block) → has_digest digests b ≡ true → HasDigest m b.stamp b.digest
  digest-of b live = by (get digests b.stamp) refl live
    where
      by : (o : Option (List ℕ)) → get digests b.stamp ≡ o → is_digest o b.digest ≡ true → HasDigest m b.stamp b.digest
      by None is e = absurd (false≢true e)
      by (Some d) is e = subst (HasDigest m b.stamp) (same-text d b.digest e) (are.held b.stamp d is)

  all-shown : (nodes : NodeMap) (bs : List Block) → AllByRecursion (IsBlockOf nodes digests) bs → AllByRecursion (IsShown m) bs
  all-shown nodes bs all = weaker (IsBlockOf nodes digests) (IsShown m) (λ b k. shown-by b (digest-of b (and_parts (is_index k.index) (has_digest digests b) k.entry.live).1)) bs all

nat-itself : (n : ℕ) → nat_eq n n ≡ true
nat-itself n = grind (arith, nat_tests)

pub text-itself : (bytes : List ℕ) → pointwise nat_eq bytes bytes ≡ true
text-itself [] = refl
text-itself (x ∷ xs) = λ i. nat-itself x i && text-itself xs i

module _ (m : Machine) (of : HasStamps m) where
  each-low : (bs : List Block) → AllByRecursion (IsShown m) bs → list_all (λ n. nat_lt n m.stamps) (stamps bs) ≡ true
  each-low bs all = all-of (λ n. nat_lt n m.stamps) (stamps bs) (on-stamps (λ n. nat_lt n m.stamps ≡ true) bs
      (weaker (IsShown m) (λ (b : Block). nat_lt b.stamp m.stamps ≡ true) (λ b x. less-is b.stamp m.stamps (of.given x.holder x.index (kept_block b) x.there)) bs all))

  alike : (a b : Block) → IsShown m a → IsShown m b → are_alike a b ≡ true
  alike a b x y = by (a.stamp == b.stamp) refl
    where
      by : (t : Bool) → (a.stamp == b.stamp) ≡ t → (not t || pointwise nat_eq a.digest b.digest) ≡ true
      by true t =
          let same : kept_block b ≡ kept_block a = of.one x.holder x.index (kept_block a) x.there y.holder y.index (kept_block b) y.there (sym (same-number a.stamp b.stamp t)) in
          ap (λ (w : WholeBlock). pointwise nat_eq a.digest w.bytes) same ∙ text-itself a.digest
      by false t = refl

  one-digest : (bs : List Block) → AllByRecursion (IsShown m) bs → have_one_digest bs ≡ true
  one-digest bs all = all-of (λ (a : Block). list_all (are_alike a) bs) bs (weaker (IsShown m) (λ (a : Block). list_all (are_alike a) bs ≡ true)
      (λ a x. all-of (are_alike a) bs (weaker (IsShown m) (λ (b : Block). are_alike a b ≡ true) (λ b y. alike a b x y) bs all)) bs all)

  pub are-given : (point : Checkpoint) (digests : Digests) (nodes : NodeMap) → AreDigests m digests → point.next_stamp ≡ m.stamps → AllByRecursion (λ (p : SnapPoint). p.copies ≡ []) point.snapshots
      → AllByRecursion (IsBlockOf nodes digests) (entry_blocks point.nodes) → AreGiven point
  are-given point digests nodes are next none all =
      let is = blocks-are point none in
      let shown = all-shown m digests are nodes (entry_blocks point.nodes) all in
      record {
        low = (λ i. list_all (λ n. nat_lt n (next i)) (stamps (is i))) ∙ each-low (entry_blocks point.nodes) shown;
        one = ap have_one_digest is ∙ one-digest (entry_blocks point.nodes) shown;
      }

-- ---- slots of the machine's blocks

mapped-all : {X Y : Type 0} (test : Y → Bool) (f : X → Y) (xs : List X) → list_all test (map f xs) ≡ true → list_all (λ x. test (f x)) xs ≡ true
mapped-all test f [] all = refl
mapped-all test f (x ∷ xs) all = let parts = and_parts (test (f x)) (list_all test (map f xs)) all in λ i. parts.0 i && mapped-all test f xs parts.1 i

on-keys : (P : ℕ → Type 0) (rows : List SlotRow) → AllByRecursion (λ (row : SlotRow). P row.key) rows → AllByRecursion P (keys rows)
on-keys P [] all = tt
on-keys P (row ∷ rows) all = (all.0, on-keys P rows all.1)

module _ (keep : FinMap nat_cmp ℕ) (nodes : List NodeRow) (rows : List SlotRow) (of : AreSlotsOf keep nodes rows) where
  same-slots : AllByRecursion (λ (row : SlotRow). get (slots_of rows) row.key ≡ get keep row.key) rows
  unfolding slots_of
  same-slots = weaker (λ (row : SlotRow). (get (slots_of rows) row.key ≡ Some row.slot) × IsSlotOf keep row) (λ (row : SlotRow). get (slots_of rows) row.key ≡ get keep row.key) (λ row e. e.0 ∙ sym e.1) rows
      (both (λ (row : SlotRow). get (slots_of rows) row.key ≡ Some row.slot) (IsSlotOf keep) rows (each-found nat_cmp_total (λ (row : SlotRow). row.key) (λ (row : SlotRow). row.slot) rows of.ascend) of.slots)

  pub agree : (point : Checkpoint) → point.nodes ≡ nodes → AllByRecursion (λ (p : SnapPoint). p.copies ≡ []) point.snapshots → AgreeOn (machine_of point) (slots_of rows) keep
  agree point is none key index x found =
      let test : Block → Bool = λ (b : Block). has (keys rows) b.stamp in
      let all : list_all test (blocks_of point) ≡ true = ap (list_all test) (blocks-are point none ∙ ap entry_blocks is)
      ∙ mapped-all (has (keys rows)) (λ (b : Block). b.stamp) (entry_blocks nodes) (and_parts (list_all (has (keys rows)) (stamps (entry_blocks nodes))) (list_all (has (stamps (entry_blocks nodes))) (keys rows)) of.stored).0 in
      let (b, same, there) = block-passes test point all key index x found in
      let slot = among-is (λ (n : ℕ). get (slots_of rows) n ≡ get keep n) (keys rows) (on-keys (λ (n : ℕ). get (slots_of rows) n ≡ get keep n) rows same-slots) b.stamp there in
      subst (λ (y : WholeBlock). get (slots_of rows) y.stamp ≡ get keep y.stamp) (sym same) slot
