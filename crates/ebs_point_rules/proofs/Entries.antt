-- The lists of a machine say it, and are in order.
use Rattle.std.proofs.Common.{◌≡◌, ℕ, true, ◌&&◌, List, [], ◌∷◌, ◌++◌, map, refl, sym, ap, subst, ◌∙◌}
use Rattle.std.specs.Prelude.{flat_map}
use Rattle.std.proofs.lemmas.Cmp.{tied_itself}
use Rattle.std.specs.declared.cmp.Ordering.{Ordering}
use Rattle.std.specs.declared.cmp.Ordering.TheVariants.{Less}
use Rattle.std.specs.List.{list_all, AllByRecursion}
use Rattle.std.specs.List.Sorted.{IsStrictlySortedBy}
use Rattle.std.specs.Map.{keys_of}
use Rattle.std.specs.Ordering.{nat_cmp, is_lt, ordering_then}
use Rattle.std.specs.Cmp.{nat_cmp_total}
use Rattle.std.specs.Cmp.Lexicographic.{slice_cmp}
use Rattle.std.specs.FinMap.{FinMap, nat_cmp-IsAntisymmetric, same_map, entries, from_entries}
use Rattle.ebs_tables.proofs.TreeMaps.{entries-sorted, from_entries-entries}
use Rattle.ebs_model.specs.declared.keys.TokenKey.{TokenKey}
use Rattle.ebs_model.specs.declared.policy.Policy.{Policy}
use Rattle.ebs_model.specs.declared.rows.TokenRow.{TokenRow}
use Rattle.ebs_model.specs.Keys.{snap_cmp, vol_cmp, policy_cmp, token_cmp}
use Rattle.ebs_model.specs.inner.Orders.{snaps_total, exact_snaps, vols_total, exact_vols, policies_total, exact_policies, tokens_total, exact_tokens}
use Rattle.ebs_model.specs.Machine.{Machine}
use Rattle.ebs_checkpoints.specs.declared.owned.AccountRow.{AccountRow}
use Rattle.ebs_checkpoints.specs.declared.owned.TokenPoint.{TokenPoint}
use Rattle.ebs_checkpoints.specs.declared.owned.VolPoint.{VolPoint}
use Rattle.ebs_checkpoints.specs.declared.snapshots.SnapPoint.{SnapPoint}
use Rattle.ebs_checkpoints.specs.declared.checkpoint.Checkpoint.{Checkpoint}
use Rattle.ebs_row_rules.specs.Order.{ascends, has_ordered_tokens}
use Rattle.ebs_node_rules.specs.Arrays.{arrays_of}
use Rattle.ebs_recovery.specs.inner.Bases.{snapshot_of, snaps_of, disks_of}
use Rattle.ebs_recovery.specs.Bases.{vols_of, owns_of, tokens_of, token_entry, books_of, policies_of}
use Rattle.ebs_point_rules.proofs.Accounts.{own-found, book-found}
use Rattle.ebs_point_rules.specs.Listed.{IsListedOf, ListsSayMachines, ListsAscend}

-- ---- a map is what its entries make

module _ (m : Machine) (point : Checkpoint) (of : IsListedOf m point) where
  snaps-are : snaps_of point ≡ m.snaps
  unfolding snaps_of
  snaps-are = ap from_entries (sym of.snaps) ∙ from_entries-entries snaps_total exact_snaps m.snaps

  own-are : owns_of point ≡ m.own
  own-are = let accounts = of.accounts in same_map nat_cmp_total nat_cmp-IsAntisymmetric _ _ (λ q. own-found point accounts.order q ∙ accounts.own q)

  tokens-are : tokens_of point ≡ m.tokens
  unfolding tokens_of
  tokens-are = ap from_entries (sym of.tokens) ∙ from_entries-entries tokens_total exact_tokens m.tokens

  vols-are : vols_of point ≡ m.vols
  unfolding vols_of
  vols-are = ap from_entries (sym of.vols) ∙ from_entries-entries vols_total exact_vols m.vols

  disks-are : disks_of point ≡ m.disks
  unfolding disks_of
  disks-are = ap from_entries (sym of.disks) ∙ from_entries-entries vols_total exact_vols m.disks

  books-are : books_of point ≡ m.books
  books-are = let accounts = of.accounts in same_map nat_cmp_total nat_cmp-IsAntisymmetric _ _ (λ q. book-found point accounts.order q ∙ accounts.books q)

  policies-are : policies_of point ≡ m.policies
  unfolding policies_of
  policies-are = ap from_entries (sym of.policies) ∙ from_entries-entries policies_total exact_policies m.policies

pub lists-say : ListsSayMachines
lists-say m point of = λ i. record {
  clock = of.clock i;
  changes = of.changes i;
  stamps = of.stamps i;
  secret = of.secret i;
  snaps = snaps-are m point of i;
  own = own-are m point of i;
  tokens = tokens-are m point of i;
  vols = vols-are m point of i;
  disks = disks-are m point of i;
  books = books-are m point of i;
  policies = policies-are m point of i;
}

-- ---- the entries of a map ascend

module _ {K X Y : Type 0} (cmp : K → K → Ordering) (key : X → K) (f : X → Y) where
  unsorted : (xs : List X) → IsStrictlySortedBy cmp (keys_of (map {B = K × Y} (λ x. (key x, f x)) xs)) → ascends cmp key xs ≡ true
  unfolding IsStrictlySortedBy
  unsorted [] h = refl
  unsorted (x ∷ []) h = refl
  unsorted (x ∷ y ∷ ys) h = λ i. is_lt (h.0.0 i) && unsorted (y ∷ ys) h.1 i

  listed-ascends : (m : FinMap cmp Y) (xs : List X) → entries m ≡ map {B = K × Y} (λ x. (key x, f x)) xs → ascends cmp key xs ≡ true
  listed-ascends m xs is = unsorted xs (subst (λ (es : List (K × Y)). IsStrictlySortedBy cmp (keys_of es)) is (entries-sorted cmp m))

-- ---- and so do the tokens of each account

abbrev IsSorted : List (TokenKey × TokenRow) → Type 0
IsSorted es = IsStrictlySortedBy token_cmp (keys_of es)

front-all : (P : TokenKey → Type 0) (xs ys : List (TokenKey × TokenRow)) → AllByRecursion P (keys_of (xs ++ ys)) → AllByRecursion P (keys_of xs)
front-all P [] ys h = tt
front-all P (x ∷ xs) ys h = (h.0, front-all P xs ys h.1)

front-sorted : (xs ys : List (TokenKey × TokenRow)) → IsSorted (xs ++ ys) → IsSorted xs
unfolding IsStrictlySortedBy
front-sorted [] ys h = tt
front-sorted (x ∷ xs) ys h = (front-all (λ y. token_cmp x.0 y ≡ Less) xs ys h.0, front-sorted xs ys h.1)

back-sorted : (xs ys : List (TokenKey × TokenRow)) → IsSorted (xs ++ ys) → IsSorted ys
unfolding IsStrictlySortedBy
back-sorted [] ys h = h
back-sorted (x ∷ xs) ys h = back-sorted xs ys h.1

-- of one account it is the text that rises
text-less : (account : ℕ) (a b : TokenPoint) → token_cmp (token_entry account a).0 (token_entry account b).0 ≡ Less → slice_cmp nat_cmp a.text b.text ≡ Less
text-less account a b less = sym (ap (λ (o : Ordering). ordering_then o (slice_cmp nat_cmp a.text b.text)) (tied_itself nat_cmp_total account)) ∙ less

texts-ascend : (account : ℕ) (ts : List TokenPoint) → IsSorted (map (token_entry account) ts) → ascends (slice_cmp nat_cmp) (λ (t : TokenPoint). t.text) ts ≡ true
unfolding IsStrictlySortedBy
texts-ascend account [] h = refl
texts-ascend account (t ∷ []) h = refl
texts-ascend account (t ∷ u ∷ us) h = let less = text-less account t u h.0.0 in λ i. is_lt (less i) && texts-ascend account (u ∷ us) h.1 i

abbrev flat : List AccountRow → List (TokenKey × TokenRow)
flat accounts = flat_map (λ (a : AccountRow). map (token_entry a.account) a.tokens) accounts

tokens-ascend : (accounts : List AccountRow) → IsSorted (flat accounts) → list_all has_ordered_tokens accounts ≡ true
tokens-ascend [] h = refl
tokens-ascend (a ∷ accounts) h =
    let own = texts-ascend a.account a.tokens (front-sorted (map (token_entry a.account) a.tokens) (flat accounts) h) in
    let rest = tokens-ascend accounts (back-sorted (map (token_entry a.account) a.tokens) (flat accounts) h) in
    λ i. own i && rest i

pub lists-ascend : ListsAscend
lists-ascend m point of = record {
  snapshots = listed-ascends snap_cmp (λ (p : SnapPoint). p.key) (snapshot_of (arrays_of point.nodes)) m.snaps point.snapshots of.snaps;
  volumes = listed-ascends vol_cmp (λ (v : VolPoint). v.row.key) (λ (v : VolPoint). v.row) m.vols point.volumes of.vols;
  policies = listed-ascends policy_cmp (λ (p : Policy). p.key) (λ (p : Policy). p) m.policies point.policies of.policies;
  tokens = tokens-ascend point.accounts (subst IsSorted of.tokens (entries-sorted token_cmp m.tokens));
}
