-- The digests that are gathered from arrays are those of the machine's blocks.
use Rattle.std.proofs.Common.{◌≡◌, ◌⊎◌, inl, inr, ℕ, ◌+◌, ◌<◌, ◌≤◌, arith, Bool, true, false, not, ◌==◌, cond, is_some, List, [], ◌∷◌, Option, Some, None, refl, sym, ap, subst, ◌∙◌}
use Rattle.std.specs.Prelude.{IsSome}
use Rattle.std.proofs.lemmas.Bool.{false≢true}
use Rattle.std.proofs.lemmas.Bool.Decides.{nat_tests}
use Rattle.std.specs.List.{AllByRecursion}
use Rattle.std.specs.Option.{option_map}
use Rattle.std.specs.Ordering.{eq_by_cmp, nat_cmp}
use Rattle.std.specs.Map.{lookup}
use Rattle.std.specs.BTreeMap.{is_at}
use Rattle.std.specs.Cmp.{nat_cmp_total}
use Rattle.std.specs.FinMap.{FinMap, nat_cmp-IsAntisymmetric, get, insert, entries, empty, contains_key, get-empty, get-insert}
use Rattle.ebs_tables.proofs.MapEdits.{is_same, tied}
use Rattle.ebs_tables.proofs.TreeMaps.{get-lookup}
use Rattle.ebs_model.specs.declared.array.Block.{Block}
use Rattle.ebs_model.specs.Arrays.{WholeBlock}
use Rattle.ebs_lineage.specs.declared.node_id.NodeId.{NodeId}
use Rattle.ebs_lineage.specs.Owned.{Blocks}
use Rattle.ebs_lineage.specs.Lines.{array}
use Rattle.ebs_lineage.specs.Changed.{differ}
use Rattle.ebs_holds.specs.declared.holder.Holder.{Holder}
use Rattle.ebs_holds.specs.Holders.{holder_cmp, of_snap, of_vol}
use Rattle.ebs_holds.specs.Orders.{exact_holders}
use Rattle.ebs_holds.specs.Holds.{nodes_in, held_in, blocks_at, array_of_node}
use Rattle.ebs_catalog.specs.Held.{rows_in}
use Rattle.ebs_kept.specs.declared.kept.Kept.TheInside.{Inside}
use Rattle.ebs_kept.specs.inner.Shown.{Form, kept_block, kept_array, shown, form}
use Rattle.ebs_kept.specs.Stamps.{Digests, HasDigest, in_snapshot, in_volume, AreDigests}
use Rattle.ebs_kept.specs.inner.Stamps.{AddsBlocks, HasStamps, IsDone, is_shown}
use Rattle.ebs_kept.proofs.Arrays.{get-kept, kept-found}
use Rattle.ebs_kept.proofs.Live.{seen, seen-snapshot, seen-volume}

some_none : {A B : Type 0} (x : A) → None ≡ Some x → B
some_none x e = absurd (cc)

-- ---- what goes in

module _ (digests : Digests) (stamp : ℕ) (digest : List ℕ) where
  got : (q : ℕ) → get (insert digests stamp digest) q ≡ cond (eq_by_cmp nat_cmp q stamp) (Some digest) (get digests q)
  got q = get-insert nat_cmp_total digests stamp digest q

  insert-here : IsSome (get (insert digests stamp digest) stamp)
  insert-here = subst IsSome (sym (got stamp ∙ ap (λ b. cond b (Some digest) (get digests stamp)) (tied nat_cmp_total stamp))) refl

  insert-grows : (q : ℕ) → IsSome (get digests q) → IsSome (get (insert digests stamp digest) q)
  insert-grows q there = subst IsSome (sym (got q)) (by (eq_by_cmp nat_cmp q stamp))
    where
      by : (b : Bool) → IsSome (cond b (Some digest) (get digests q))
      by true = refl
      by false = there

  insert-only : (q : ℕ) (x : List ℕ) → get (insert digests stamp digest) q ≡ Some x → (get digests q ≡ Some x) ⊎ ((stamp ≡ q) × (digest ≡ x))
  insert-only q x found = by (eq_by_cmp nat_cmp q stamp) refl (sym (got q) ∙ found)
    where
      by : (b : Bool) → eq_by_cmp nat_cmp q stamp ≡ b → cond b (Some digest) (get digests q) ≡ Some x → (get digests q ≡ Some x) ⊎ ((stamp ≡ q) × (digest ≡ x))
      by true is e = inr (sym (is_same nat_cmp-IsAntisymmetric q stamp is), cc)
      by false is e = inl e

-- those of the blocks below an index have gone in
pub record AddsBelow (blocks : Blocks) (from : ℕ) (old new : Digests) : Type 0 where
  pub grows : (stamp : ℕ) → IsSome (get old stamp) → IsSome (get new stamp)
  pub there : (index : ℕ) (block : Block) → get blocks index ≡ Some block → index < from → IsSome (get new block.stamp)
  pub only : (stamp : ℕ) (digest : List ℕ) → get new stamp ≡ Some digest → (get old stamp ≡ Some digest) ⊎ ((index : ℕ) × (get blocks index ≡ Some (record { stamp = stamp; digest = digest })))

pub adds-none : (blocks : Blocks) (digests : Digests) → AddsBelow blocks 0 digests digests
adds-none blocks digests = record { grows = λ stamp there. there; there = λ index block found below. absurd (omega (arith, below)); only = λ stamp digest found. inl found }

-- ---- what another array has already

-- a block that doesn't differ from the other's has the other's stamp
same-stamp : (a : Option Block) (b : Block) → differ a (Some b) ≡ false → (x : Block) × (a ≡ Some x) × (x.stamp ≡ b.stamp)
same-stamp None b e = absurd (cc)
same-stamp (Some x) b e = (x, refl, equal x.stamp b.stamp e)
  where
    equal : (m n : ℕ) → not (m == n) ≡ false → m ≡ n
    equal m n e = grind (arith, nat_tests)

module _ (base blocks : Blocks) (old : Digests) (has : HasStamps old base) where
  unchanged : (new : Digests) → ((stamp : ℕ) → IsSome (get old stamp) → IsSome (get new stamp)) → (q : ℕ) (block : Block) → get blocks q ≡ Some block → differ (get base q) (get blocks q) ≡ false → IsSome (get new block.stamp)
  unchanged new grows q block is same =
      let (x, found, stamp) = same-stamp (get base q) block (ap (differ (get base q)) (sym is) ∙ same) in
      grows block.stamp (subst (λ n. IsSome (get old n)) stamp (has q x found))

  place : (index from next : ℕ) → index < next + 1 → (index < from) ⊎ (index ≡ next) ⊎ ((from ≤ index) × (index < next))
  place index from next below = grind (arith, below)

  -- nothing stands at the index where they differ
  pub adds-nothing : (from next : ℕ) (new : Digests) → AddsBelow blocks from old new → get blocks next ≡ None → ((q : ℕ) → from ≤ q → q < next → differ (get base q) (get blocks q) ≡ false) → AddsBelow blocks (next + 1) old new
  adds-nothing from next new adds none same = record {
    grows = adds.grows;
    there = λ index block is below. by index block is (place index from next below);
    only = adds.only;
  }
    where
      by : (index : ℕ) (block : Block) → get blocks index ≡ Some block → (index < from) ⊎ (index ≡ next) ⊎ ((from ≤ index) × (index < next)) → IsSome (get new block.stamp)
      by index block is (inl below) = adds.there index block is below
      by index block is (inr (inl at)) = some_none block (sym none ∙ ap (get blocks) (sym at) ∙ is)
      by index block is (inr (inr between)) = unchanged new adds.grows index block is (same index between.0 between.1)

  -- or the block there goes in
  pub adds-one : (from next : ℕ) (new : Digests) (b : Block) → AddsBelow blocks from old new → get blocks next ≡ Some b → ((q : ℕ) → from ≤ q → q < next → differ (get base q) (get blocks q) ≡ false)
      → AddsBelow blocks (next + 1) old (insert new b.stamp b.digest)
  adds-one from next new b adds found same = record {
    grows = grown;
    there = λ index block is below. by index block is (place index from next below);
    only = λ stamp digest is. elim (insert-only new b.stamp b.digest stamp digest is) [
      | inl before ↦ adds.only stamp digest before
      | inr equal ↦ inr (next, found ∙ (λ i. Some (record { stamp = equal.0 i; digest = equal.1 i })))
    ];
  }
    where
      grown : (stamp : ℕ) → IsSome (get old stamp) → IsSome (get (insert new b.stamp b.digest) stamp)
      grown stamp there = insert-grows new b.stamp b.digest stamp (adds.grows stamp there)

      some_is : (x y : Block) → Some x ≡ Some y → x ≡ y
      some_is x y e = cc

      by : (index : ℕ) (block : Block) → get blocks index ≡ Some block → (index < from) ⊎ (index ≡ next) ⊎ ((from ≤ index) × (index < next)) → IsSome (get (insert new b.stamp b.digest) block.stamp)
      by index block is (inl below) = insert-grows new b.stamp b.digest block.stamp (adds.there index block is below)
      by index block is (inr (inl at)) =
          subst (λ (x : Block). IsSome (get (insert new b.stamp b.digest) x.stamp)) (some_is b block (sym found ∙ ap (get blocks) (sym at) ∙ is)) (insert-here new b.stamp b.digest)
      by index block is (inr (inr between)) = unchanged (insert new b.stamp b.digest) grown index block is (same index between.0 between.1)

  -- and none differs from there on
  pub adds-rest : (from : ℕ) (new : Digests) → AddsBelow blocks from old new → ((q : ℕ) → from ≤ q → differ (get base q) (get blocks q) ≡ false) → AddsBlocks blocks old new
  adds-rest from new adds same = record { grows = adds.grows; there = λ index block is. by index block is (at index); only = adds.only }
    where
      at : (index : ℕ) → (index < from) ⊎ (from ≤ index)
      at index = grind arith

      by : (index : ℕ) (block : Block) → get blocks index ≡ Some block → (index < from) ⊎ (from ≤ index) → IsSome (get new block.stamp)
      by index block is (inl below) = adds.there index block is below
      by index block is (inr far) = unchanged new adds.grows index block is (same index far)

-- all of them have, where none stands from there on
pub adds-all : (blocks : Blocks) (from : ℕ) (old new : Digests) → AddsBelow blocks from old new → ((index : ℕ) (block : Block) → get blocks index ≡ Some block → index < from) → AddsBlocks blocks old new
adds-all blocks from old new adds below = record { grows = adds.grows; there = λ index block found. adds.there index block found (below index block found); only = adds.only }

-- ---- what is found at a holder stands in the entries

module _ (P : Holder × NodeId → Type 0) where
  at_holder : (q : Holder) (n : NodeId) (es : List (Holder × NodeId)) → AllByRecursion P es → lookup (is_at (holder_cmp q)) es ≡ Some n → P (q, n)
  at_holder q n [] each found = absurd (cc)
  at_holder q n (e ∷ es) each found = by (is_at (holder_cmp q) e.0) refl (at_holder q n es each.1) found
    where
      by : (b : Bool) → is_at (holder_cmp q) e.0 ≡ b → (lookup (is_at (holder_cmp q)) es ≡ Some n → P (q, n)) → cond b (Some e.1) (lookup (is_at (holder_cmp q)) es) ≡ Some n → P (q, n)
      by true is rest found =
          let same : q ≡ e.0 = is_same exact_holders q e.0 is in
          let value : e.1 ≡ n = cc in
          subst P (λ i. (sym same i, value i)) each.0
      by false is rest found = rest found

-- ---- holders that are shown

abbrev pub Grows : Digests → Digests → Type 0
Grows old new = (stamp : ℕ) → IsSome (get old stamp) → IsSome (get new stamp)

-- the stamps of a holder's blocks are there, where it is shown
abbrev pub HasAll : Form → Digests → Holder × NodeId → Type 0
HasAll f digests e = is_shown f.machine.clock.second (rows_in f.catalog) e.0 ≡ true → HasStamps digests (array (nodes_in f.holding) e.1.number)

-- each digest is that of a block of the machine
abbrev pub HaveDigests : Form → Digests → Type 0
HaveDigests f digests = (stamp : ℕ) (digest : List ℕ) → get digests stamp ≡ Some digest → HasDigest f.machine stamp digest

-- digests so far, with those of the holders that are still to come, are all, and those of each node that was looked at are there
pub record Gathers (f : Form) (digests : Digests) (done : FinMap nat_cmp (Unit {0})) (rest whole : List (Holder × NodeId)) : Type 0 where
  pub looked : (n : ℕ) → contains_key done n ≡ true → HasStamps digests (array (nodes_in f.holding) n)
  pub all : (more : Digests) → Grows digests more → AllByRecursion (HasAll f more) rest → AllByRecursion (HasAll f more) whole
  pub have : HaveDigests f digests
  pub held : AllByRecursion (λ e. get (held_in f.holding) e.0 ≡ Some e.1) rest

pub gathers-none : (f : Form) (whole : List (Holder × NodeId)) → AllByRecursion (λ e. get (held_in f.holding) e.0 ≡ Some e.1) whole → Gathers f empty empty whole whole
gathers-none f whole held = record {
  looked = λ n there. absurd (false≢true (sym (ap is_some (get-empty {X = Unit {0}} nat_cmp n)) ∙ there));
  all = λ more grows each. each;
  have = λ stamp digest found. some_none digest (sym (get-empty nat_cmp stamp) ∙ found);
  held = held;
}

module _ (k : Inside) where
  -- the blocks of a node that was looked at, or of none, are in
  pub base-has : (digests : Digests) (done : FinMap nat_cmp (Unit {0})) (rest whole : List (Holder × NodeId)) (n : ℕ) → Gathers (form k) digests done rest whole → IsDone done (array (nodes_in k.holdings) n) n → HasStamps digests (array (nodes_in k.holdings) n)
  base-has digests done rest whole n so (inl there) = so.looked n there
  base-has digests done rest whole n so (inr none) = λ index block found. some_none block (sym (ap (λ a. get a index) none ∙ get-empty nat_cmp index) ∙ found)

  -- a block of a holder that is shown is one of the machine's
  shown-digest : (q : Holder) (n : NodeId) (b : Bool) → q.is_volume ≡ b → get (held_in k.holdings) q ≡ Some n → is_shown k.clock.second (rows_in k.catalog) q ≡ true
      → (index stamp : ℕ) (digest : List ℕ) → get (array (nodes_in k.holdings) n.number) index ≡ Some (record { stamp = stamp; digest = digest }) → HasDigest (shown k) stamp digest
  shown-digest q n b is has shows index stamp digest found = of b is
    where
      here : get (seen k q) index ≡ Some (record { stamp = stamp; bytes = digest })
      here =
          (λ i. get (cond (shows i) (kept_array (array_of_node (nodes_in k.holdings) (has i))) empty) index)
          ∙ get-kept (array (nodes_in k.holdings) n.number) index ∙ ap (option_map kept_block) found

      of : (b : Bool) → q.is_volume ≡ b → HasDigest (shown k) stamp digest
      of false is = in_snapshot (record { account = q.account; number = q.number }) index
          (ap (λ a. get a index) (seen-snapshot k (record { account = q.account; number = q.number }) ∙ (λ i. seen k (record { is_volume = sym is i; account = q.account; number = q.number }))) ∙ here)
      of true is = in_volume (record { account = q.account; number = q.number }) index
          (ap (λ a. get a index) (seen-volume k (record { account = q.account; number = q.number }) ∙ (λ i. seen k (record { is_volume = sym is i; account = q.account; number = q.number }))) ∙ here)

  -- the next holder's digests are in, where it is shown
  pub gathers-shown : (digests new : Digests) (done : FinMap nat_cmp (Unit {0})) (q : Holder) (n : NodeId) (rest tail whole : List (Holder × NodeId)) → rest ≡ (q, n) ∷ tail → is_shown k.clock.second (rows_in k.catalog) q ≡ true
      → AddsBlocks (array (nodes_in k.holdings) n.number) digests new → Gathers (form k) digests done rest whole → Gathers (form k) new (insert done n.number tt) tail whole
  gathers-shown digests new done q n rest tail whole is shows adds so = record {
    looked = λ m there. node_done m (eq_by_cmp nat_cmp m n.number) refl (sym (ap is_some (get-insert nat_cmp_total done n.number tt m)) ∙ there);
    all = λ more grows each. so.all more (λ stamp there. grows stamp (adds.grows stamp there))
        (subst (AllByRecursion (HasAll (form k) more)) (sym is) ((λ _ index block found. grows block.stamp (adds.there index block found)), each));
    have = λ stamp digest found. elim (adds.only stamp digest found) [
      | inl before ↦ so.have stamp digest before
      | inr new ↦ shown-digest q n q.is_volume refl known.0 shows new.0 stamp digest new.1
    ];
    held = known.1;
  }
    where
      known : AllByRecursion (λ (e : Holder × NodeId). get (held_in k.holdings) e.0 ≡ Some e.1) ((q, n) ∷ tail)
      known = subst (AllByRecursion (λ (e : Holder × NodeId). get (held_in k.holdings) e.0 ≡ Some e.1)) is so.held

      node_done : (m : ℕ) (b : Bool) → eq_by_cmp nat_cmp m n.number ≡ b → is_some (cond b (Some tt) (get done m)) ≡ true → HasStamps new (array (nodes_in k.holdings) m)
      node_done m true same there = subst (λ (m : ℕ). HasStamps new (array (nodes_in k.holdings) m)) (sym (is_same nat_cmp-IsAntisymmetric m n.number same)) adds.there
      node_done m false other there = λ index block found. adds.grows block.stamp (so.looked m there index block found)

  pub gathers-hidden : (digests : Digests) (done : FinMap nat_cmp (Unit {0})) (q : Holder) (n : NodeId) (rest tail whole : List (Holder × NodeId)) → rest ≡ (q, n) ∷ tail → is_shown k.clock.second (rows_in k.catalog) q ≡ false
      → Gathers (form k) digests done rest whole → Gathers (form k) digests done tail whole
  gathers-hidden digests done q n rest tail whole is hides so = record {
    looked = so.looked;
    all = λ more grows each. so.all more grows (subst (AllByRecursion (HasAll (form k) more)) (sym is) ((λ shows. absurd (false≢true (sym hides ∙ shows))), each));
    have = so.have;
    held = known.1;
  }
    where
      known : AllByRecursion (λ (e : Holder × NodeId). get (held_in k.holdings) e.0 ≡ Some e.1) ((q, n) ∷ tail)
      known = subst (AllByRecursion (λ (e : Holder × NodeId). get (held_in k.holdings) e.0 ≡ Some e.1)) is so.held

  -- all of them are the machine's
  pub are-digests : (digests : Digests) (done : FinMap nat_cmp (Unit {0})) (rest : List (Holder × NodeId)) → rest ≡ [] → Gathers (form k) digests done rest (entries (held_in k.holdings)) → AreDigests (shown k) digests
  are-digests digests done rest none so = record {
    snapshots = λ key index block found. there (of_snap key) index block (ap (λ a. get a index) (sym (seen-snapshot k key)) ∙ found);
    volumes = λ key index block found. there (of_vol key) index block (ap (λ a. get a index) (sym (seen-volume k key)) ∙ found);
    held = so.have;
  }
    where
      each : AllByRecursion (HasAll (form k) digests) (entries (held_in k.holdings))
      each = so.all digests (λ stamp there. there) (subst (AllByRecursion (HasAll (form k) digests)) (sym none) tt)

      of_node : (q : Holder) (index : ℕ) (b : Block) (o : Option NodeId) → get (held_in k.holdings) q ≡ o → is_shown k.clock.second (rows_in k.catalog) q ≡ true → get (array_of_node (nodes_in k.holdings) o) index ≡ Some b → IsSome (get digests b.stamp)
      of_node q index b None has shows found = some_none b (sym (get-empty nat_cmp index) ∙ found)
      of_node q index b (Some n) has shows found = at_holder (HasAll (form k) digests) q n (entries (held_in k.holdings)) each (sym (get-lookup holder_cmp (held_in k.holdings) q) ∙ has) shows index b found

      there : (q : Holder) (index : ℕ) (block : WholeBlock) → get (seen k q) index ≡ Some block → IsSome (get digests block.stamp)
      there q index block found = by (is_shown k.clock.second (rows_in k.catalog) q) refl found
        where
          by : (b : Bool) → is_shown k.clock.second (rows_in k.catalog) q ≡ b → get (cond b (kept_array (blocks_at k.holdings q)) empty) index ≡ Some block → IsSome (get digests block.stamp)
          by true shows e =
              let (b, at, is) = kept-found (blocks_at k.holdings q) index block e in
              subst (λ (w : WholeBlock). IsSome (get digests w.stamp)) is (of_node q index b (get (held_in k.holdings) q) refl shows at)
          by false shows e = some_none block (sym (get-empty nat_cmp index) ∙ e)
