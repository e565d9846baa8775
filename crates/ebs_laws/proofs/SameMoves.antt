-- What the moves of the machine leave of two machines that an account sees alike.
use Rattle.std.proofs.Common.{◌≡◌, ℕ, ◌+◌, ◌<◌, ◌==◌, Bool, true, false, cond, ◌&&◌, ◌||◌, unwrap_or, List, Option, Some, None, sym, ap, subst, ◌∙◌, refl, arith}
use Rattle.std.proofs.lemmas.Bool.Decides.{nat_tests}
use Rattle.std.specs.FinMap as fin
use Rattle.std.specs.Ordering.{nat_cmp, eq_by_cmp}
use Rattle.std.specs.Cmp.{nat_cmp_total}
use Rattle.ebs_model.specs.declared.keys.SnapKey.{SnapKey}
use Rattle.ebs_model.specs.Keys.{snap_cmp, vol_cmp}
use Rattle.ebs_model.specs.inner.Orders.{exact_snaps}
use Rattle.ebs_model.specs.Arrays.{WholeBlock, WholeArray}
use Rattle.ebs_model.specs.Time.{Snapshot}
use Rattle.ebs_model.specs.Access.{owns}
use Rattle.ebs_tables.proofs.MapEdits.{is_same}
use Rattle.ebs_laws.specs.IsolationLaws.{seen_of, Both, Renaming, IsRenaming, SameBlock, SameArray, SameSnapshot}
use Rattle.ebs_laws.proofs.SameViews.{view-own}
use Rattle.ebs_model.specs.declared.keys.VolKey.{VolKey}

abbrev pub Snaps : Type 0
Snaps = fin.FinMap snap_cmp Snapshot

abbrev pub Disks : Type 0
Disks = fin.FinMap vol_cmp WholeArray

-- what is the same stays so by a renaming that goes further
module _ (r wide : Renaming) (wider : (s t : ℕ) → r s t ≡ true → wide s t ≡ true) where
  pub wider_block : (o p : Option WholeBlock) → Both (SameBlock r) o p → Both (SameBlock wide) o p
  wider_block None None b = tt
  wider_block None (Some y) b = absurd b
  wider_block (Some x) None b = absurd b
  wider_block (Some x) (Some y) b = record { bytes = b.bytes; stamps = wider x.stamp y.stamp b.stamps }

  pub wider_array : (f g : WholeArray) → SameArray r f g → SameArray wide f g
  wider_array f g h = record { at = λ i. wider_block _ _ (h.at i) }

  pub wider_disk : (o p : Option WholeArray) → Both (SameArray r) o p → Both (SameArray wide) o p
  wider_disk None None b = tt
  wider_disk None (Some g) b = absurd b
  wider_disk (Some f) None b = absurd b
  wider_disk (Some f) (Some g) b = wider_array f g b

  -- one volume's blocks are written or taken out, on both sides
  pub edited_disk : (one two new other : Disks) (key q : VolKey) (x y : Option WholeArray) → Both (SameArray wide) x y → fin.get new q ≡ cond (eq_by_cmp vol_cmp q key) x (fin.get one q) → fin.get other q ≡ cond (eq_by_cmp vol_cmp q key) y (fin.get two q)
      → Both (SameArray r) (fin.get one q) (fin.get two q) → Both (SameArray wide) (fin.get new q) (fin.get other q)
  edited_disk one two new other key q x y same e f h =
      subst (λ o. Both (SameArray wide) o (fin.get other q)) (sym e) (subst (λ o. Both (SameArray wide) (cond (eq_by_cmp vol_cmp q key) x (fin.get one q)) o) (sym f) (at (eq_by_cmp vol_cmp q key)))
    where
      at : (b : Bool) → Both (SameArray wide) (cond b x (fin.get one q)) (cond b y (fin.get two q))
      at true = same
      at false = wider_disk _ _ h

  pub wider_snapshot : (o p : Option Snapshot) → Both (SameSnapshot r) o p → Both (SameSnapshot wide) o p
  wider_snapshot None None b = tt
  wider_snapshot None (Some y) b = absurd b
  wider_snapshot (Some x) None b = absurd b
  wider_snapshot (Some x) (Some y) b = record { row = b.row; array = wider_array x.array y.array b.array }

-- one own snapshot is written or taken out, on both sides
module _ (account now : ℕ) (r wide : Renaming) (wider : (s t : ℕ) → r s t ≡ true → wide s t ≡ true) (one two new other : Snaps) (key : SnapKey) (own : owns account key ≡ true) (x y : Option Snapshot) (same : Both (SameSnapshot wide) x y) where
  pub edited : ((q : SnapKey) → fin.get new q ≡ cond (eq_by_cmp snap_cmp q key) x (fin.get one q)) → ((q : SnapKey) → fin.get other q ≡ cond (eq_by_cmp snap_cmp q key) y (fin.get two q))
      → ((q : SnapKey) → Both (SameSnapshot r) (seen_of account q now (fin.get one q)) (seen_of account q now (fin.get two q)))
      → (q : SnapKey) → Both (SameSnapshot wide) (seen_of account q now (fin.get new q)) (seen_of account q now (fin.get other q))
  edited e f snaps q =
      subst (λ o. Both (SameSnapshot wide) (seen_of account q now o) (seen_of account q now (fin.get other q))) (sym (e q))
      (subst (λ o. Both (SameSnapshot wide) (seen_of account q now (cond (eq_by_cmp snap_cmp q key) x (fin.get one q))) (seen_of account q now o)) (sym (f q)) (at (eq_by_cmp snap_cmp q key) refl))
    where
      at : (b : Bool) → eq_by_cmp snap_cmp q key ≡ b → Both (SameSnapshot wide) (seen_of account q now (cond b x (fin.get one q))) (seen_of account q now (cond b y (fin.get two q)))
      at true t =
          let mine : owns account q ≡ true = ap (owns account) (is_same exact_snaps q key t) ∙ own in
          subst (λ o. Both (SameSnapshot wide) o (seen_of account q now y)) (sym (view-own account q now x mine)) (subst (λ o. Both (SameSnapshot wide) x o) (sym (view-own account q now y mine)) same)
      at false t = wider_snapshot r wide wider _ _ (snaps q)

-- the renaming with one more pair
abbrev pub extended : Renaming → ℕ → ℕ → Renaming
extended r a b s t = r s t || ((s == a) && (t == b))

pub extended-wider : (r : Renaming) (a b s t : ℕ) → r s t ≡ true → extended r a b s t ≡ true
extended-wider r a b s t e = ap (λ v. v || ((s == a) && (t == b))) e

extended-new : (r : Renaming) (a b : ℕ) → extended r a b a b ≡ true
extended-new r a b = at (r a b) (itself a) (itself b)
  where
    itself : (n : ℕ) → (n == n) ≡ true
    itself n = grind (arith, nat_tests)

    at : (v : Bool) → (a == a) ≡ true → (b == b) ≡ true → (v || ((a == a) && (b == b))) ≡ true
    at true e f = refl
    at false e f = λ i. e i && f i

-- which pair it was
old_or_new : (r : Renaming) (a b s t : ℕ) (P : Type 0) → extended r a b s t ≡ true → (r s t ≡ true → P) → (s ≡ a → t ≡ b → P) → P
old_or_new r a b s t P e old new = at (r s t) refl e
  where
    pair : (s == a) && (t == b) ≡ true → P
    pair e = new (grind (arith, nat_tests)) (grind (arith, nat_tests))

    at : (v : Bool) → r s t ≡ v → (v || ((s == a) && (t == b))) ≡ true → P
    at true k e = old k
    at false k e = pair e

both_below : (s u t v : ℕ) → s < u → t < v → (s == u) ≡ (t == v)
both_below s u t v a b = grind (arith, nat_tests)

both_above : (s u t v : ℕ) → u < s → v < t → (s == u) ≡ (t == v)
both_above s u t v a b = grind (arith, nat_tests)

both_equal : (s u t v a b : ℕ) → s ≡ a → u ≡ a → t ≡ b → v ≡ b → (s == u) ≡ (t == v)
both_equal s u t v a b e f g h = grind (arith, nat_tests)

pub extended-IsRenaming : (r : Renaming) (a b : ℕ) → IsRenaming r a b → IsRenaming (extended r a b) (a + 1) (b + 1)
extended-IsRenaming r a b h = record {
  one = λ s t u v p q. old_or_new r a b s t ((s == u) ≡ (t == v)) p
      (λ p. old_or_new r a b u v ((s == u) ≡ (t == v)) q
      (λ q. h.one s t u v p q)
      (λ is js. both_below s u t v (subst (λ w. s < w) (sym is) (h.given s t p).0) (subst (λ w. t < w) (sym js) (h.given s t p).1)))
      (λ is js. old_or_new r a b u v ((s == u) ≡ (t == v)) q
      (λ q. both_above s u t v (subst (λ w. u < w) (sym is) (h.given u v q).0) (subst (λ w. v < w) (sym js) (h.given u v q).1))
      (λ ks ls. both_equal s u t v a b is ks js ls));
  given = λ s t p. old_or_new r a b s t ((s < a + 1) × (t < b + 1)) p
      (λ p. let k = h.given s t p in (omega (arith, k.0), omega (arith, k.1)))
      (λ is js. (omega arith, omega arith));
}

-- a block with the new stamps at an index
pub put-SameArray : (r : Renaming) (f g : WholeArray) (index a b : ℕ) (bytes : List ℕ) → SameArray r f g → SameArray (extended r a b) (fin.insert f index (record { stamp = a; bytes = bytes })) (fin.insert g index (record { stamp = b; bytes = bytes }))
put-SameArray r f g index a b bytes h = record {
  at = λ i.
      subst (λ o. Both (SameBlock (extended r a b)) o (fin.get (fin.insert g index (record { stamp = b; bytes = bytes })) i)) (sym (fin.get-insert nat_cmp_total f index (record { stamp = a; bytes = bytes }) i))
      (subst (λ o. Both (SameBlock (extended r a b)) (cond (eq_by_cmp nat_cmp i index) (Some (record { stamp = a; bytes = bytes })) (fin.get f i)) o) (sym (fin.get-insert nat_cmp_total g index (record { stamp = b; bytes = bytes }) i)) (at i (eq_by_cmp nat_cmp i index)));
}
  where
    at : (i : ℕ) (v : Bool) → Both (SameBlock (extended r a b)) (cond v (Some (record { stamp = a; bytes = bytes })) (fin.get f i)) (cond v (Some (record { stamp = b; bytes = bytes })) (fin.get g i))
    at i true = record { bytes = refl; stamps = extended-new r a b }
    at i false = wider_block r (extended r a b) (extended-wider r a b) _ _ (h.at i)

pub empty-SameArray : (r : Renaming) → SameArray r fin.empty fin.empty
empty-SameArray r = record { at = λ i. subst (λ o. Both (SameBlock r) o o) (sym (fin.get-empty nat_cmp i)) tt }

-- the blocks of a volume, which may have none
pub disk-alike : (r : Renaming) (o p : Option WholeArray) → Both (SameArray r) o p → SameArray r (unwrap_or o fin.empty) (unwrap_or p fin.empty)
disk-alike r None None b = empty-SameArray r
disk-alike r None (Some g) b = absurd b
disk-alike r (Some f) None b = absurd b
disk-alike r (Some f) (Some g) b = b
