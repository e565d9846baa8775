-- The client tokens of all accounts, one after another.
use Rattle.std.proofs.Common.{◌≡◌, ℕ, ◌<◌, ◌≤◌, arith, Bool, true, cond, ◌&&◌, ◌==◌, List, [], ◌∷◌, ◌++◌, length, map, Some, refl, sym, ap, subst, ◌∙◌}
use Rattle.std.specs.Prelude.{flat_map, nat_lt}
use Rattle.std.proofs.lemmas.Bool.Decides.{nat_tests}
use Rattle.std.proofs.lemmas.Cmp.{tied_itself}
use Rattle.std.proofs.lemmas.List.Sums.{sum_by-cons, sum_by-append}
use Rattle.std.specs.declared.cmp.Ordering.{Ordering}
use Rattle.std.specs.declared.cmp.Ordering.TheVariants.{Less}
use Rattle.std.specs.List.{list_all, AllByRecursion, count_by}
use Rattle.std.specs.List.Sorted.{IsStrictlySortedBy}
use Rattle.std.specs.Map.{keys_of}
use Rattle.std.specs.Ordering.{nat_cmp, is_lt, ordering_then}
use Rattle.std.specs.Cmp.{nat_cmp_total, nat_cmp_is}
use Rattle.std.specs.Cmp.Lexicographic.{slice_cmp}
use Rattle.std.specs.FinMap.{FinMap, get, entries, from_entries}
use Rattle.ebs_tables.proofs.TreeMaps.{entries-seen}
use Rattle.ebs_model.specs.declared.keys.TokenKey.{TokenKey}
use Rattle.ebs_model.specs.declared.rows.TokenRow.{TokenRow}
use Rattle.ebs_model.specs.Keys.{token_cmp}
use Rattle.ebs_model.specs.inner.Orders.{tokens_total}
use Rattle.ebs_checkpoints.specs.declared.owned.AccountRow.{AccountRow}
use Rattle.ebs_checkpoints.specs.declared.owned.TokenPoint.{TokenPoint}
use Rattle.ebs_row_rules.specs.Order.{ascends, has_ordered_tokens}
use Rattle.ebs_node_rules.specs.inner.Nodes as pairs
use Rattle.ebs_recovery.specs.Bases.{token_entry}
use Rattle.ebs_lawful.proofs.Maps.{each-entry}
use Rattle.ebs_lawful_points.proofs.Ordered.{sorted}
use Rattle.ebs_lawful_points.proofs.Parts.{two, weaker}

abbrev pub flat : List AccountRow → List (TokenKey × TokenRow)
flat accounts = flat_map (λ (a : AccountRow). map (token_entry a.account) a.tokens) accounts

-- ---- joined lists

all-joined : {X : Type 0} (P : X → Type 0) (xs ys : List (X × TokenRow)) → AllByRecursion P (keys_of xs) → AllByRecursion P (keys_of ys) → AllByRecursion P (keys_of (xs ++ ys))
all-joined P [] ys h g = g
all-joined P (x ∷ xs) ys h g = (h.0, all-joined P xs ys h.1 g)

sorted-joined : (xs ys : List (TokenKey × TokenRow)) → IsStrictlySortedBy token_cmp (keys_of xs) → IsStrictlySortedBy token_cmp (keys_of ys)
    → AllByRecursion (λ (x : TokenKey). AllByRecursion (λ (y : TokenKey). token_cmp x y ≡ Less) (keys_of ys)) (keys_of xs) → IsStrictlySortedBy token_cmp (keys_of (xs ++ ys))
unfolding IsStrictlySortedBy
sorted-joined [] ys h g below = g
sorted-joined (x ∷ xs) ys h g below = (all-joined (λ (y : TokenKey). token_cmp x.0 y ≡ Less) xs ys h.0 below.0, sorted-joined xs ys h.1 g below.1)

-- ---- the tokens of an account

same-account : (account : ℕ) (a b : List ℕ) → is_lt (slice_cmp nat_cmp a b) ≡ true → is_lt (token_cmp (record { account = account; text = a }) (record { account = account; text = b })) ≡ true
same-account account a b h = ap (λ (o : Ordering). is_lt (ordering_then o (slice_cmp nat_cmp a b))) (tied_itself nat_cmp_total account) ∙ h

texts-rise : (account : ℕ) (ts : List TokenPoint) → ascends (slice_cmp nat_cmp) (λ (t : TokenPoint). t.text) ts ≡ true → ascends token_cmp (λ (t : TokenPoint). record { account = account; text = t.text }) ts ≡ true
texts-rise account [] up = refl
texts-rise account (x ∷ []) up = refl
texts-rise account (x ∷ y ∷ ts) up =
    let both = two (is_lt (slice_cmp nat_cmp x.text y.text)) (ascends (slice_cmp nat_cmp) (λ (t : TokenPoint). t.text) (y ∷ ts)) up in
    λ i. same-account account x.text y.text both.0 i && texts-rise account (y ∷ ts) both.1 i

own-sorted : (account : ℕ) (ts : List TokenPoint) → ascends (slice_cmp nat_cmp) (λ (t : TokenPoint). t.text) ts ≡ true → IsStrictlySortedBy token_cmp (keys_of (map (token_entry account) ts))
own-sorted account ts up = sorted tokens_total (λ (t : TokenPoint). record { account = account; text = t.text }) (λ (t : TokenPoint). (token_entry account t).1) ts (texts-rise account ts up)

-- ---- of one account, then of the next ones

less-account : (a b : ℕ) (s t : List ℕ) → nat_lt a b ≡ true → token_cmp (record { account = a; text = s }) (record { account = b; text = t }) ≡ Less
less-account a b s t h = ap (λ (o : Ordering). ordering_then o (slice_cmp nat_cmp s t)) (sym (nat_cmp_is a b Less (less a b h)))
  where
    less : (a b : ℕ) → nat_lt a b ≡ true → a < b
    less a b h = grind (arith, nat_tests)

keys-below : (k : TokenKey) (account : ℕ) (ts : List TokenPoint) → nat_lt k.account account ≡ true → AllByRecursion (λ (y : TokenKey). token_cmp k y ≡ Less) (keys_of (map (token_entry account) ts))
keys-below k account [] h = tt
keys-below k account (t ∷ ts) h = (less-account k.account account k.text t.text h, keys-below k account ts h)

flat-below : (k : TokenKey) (accounts : List AccountRow) → list_all (λ (y : AccountRow). nat_lt k.account y.account) accounts ≡ true → AllByRecursion (λ (y : TokenKey). token_cmp k y ≡ Less) (keys_of (flat accounts))
flat-below k [] above = tt
flat-below k (a ∷ accounts) above =
    let parts = two (nat_lt k.account a.account) (list_all (λ (y : AccountRow). nat_lt k.account y.account) accounts) above in
    all-joined (λ (y : TokenKey). token_cmp k y ≡ Less) (map (token_entry a.account) a.tokens) (flat accounts) (keys-below k a.account a.tokens parts.0) (flat-below k accounts parts.1)

each-below : (account : ℕ) (ts : List TokenPoint) (accounts : List AccountRow) → list_all (λ (y : AccountRow). nat_lt account y.account) accounts ≡ true
    → AllByRecursion (λ (x : TokenKey). AllByRecursion (λ (y : TokenKey). token_cmp x y ≡ Less) (keys_of (flat accounts))) (keys_of (map (token_entry account) ts))
each-below account [] accounts above = tt
each-below account (t ∷ ts) accounts above = (flat-below (record { account = account; text = t.text }) accounts above, each-below account ts accounts above)

pub flat-sorted : (accounts : List AccountRow) → pairs.ascends (λ (a : AccountRow). a.account) accounts ≡ true → list_all has_ordered_tokens accounts ≡ true → IsStrictlySortedBy token_cmp (keys_of (flat accounts))
unfolding IsStrictlySortedBy
flat-sorted [] up each = tt
flat-sorted (a ∷ accounts) up each =
    let ups = two (list_all (λ (y : AccountRow). nat_lt a.account y.account) accounts) (pairs.ascends (λ (a : AccountRow). a.account) accounts) up in
    let texts = two (has_ordered_tokens a) (list_all has_ordered_tokens accounts) each in
    sorted-joined (map (token_entry a.account) a.tokens) (flat accounts) (own-sorted a.account a.tokens texts.0) (flat-sorted accounts ups.1 texts.1) (each-below a.account a.tokens accounts ups.0)

-- ---- what is found, and how many there are

module _ (P : TokenKey × TokenRow → Type 0) where
  parted : (xs ys : List (TokenKey × TokenRow)) → AllByRecursion P (xs ++ ys) → AllByRecursion P xs × AllByRecursion P ys
  parted [] ys h = (tt, h)
  parted (x ∷ xs) ys h = let rest = parted xs ys h.1 in ((h.0, rest.0), rest.1)

  told : (account : ℕ) (ts : List TokenPoint) → AllByRecursion P (map (token_entry account) ts) → AllByRecursion (λ (t : TokenPoint). P (token_entry account t)) ts
  told account [] h = tt
  told account (t ∷ ts) h = (h.0, told account ts h.1)

  each-told : (accounts : List AccountRow) → AllByRecursion P (flat accounts) → AllByRecursion (λ (a : AccountRow). AllByRecursion (λ (t : TokenPoint). P (token_entry a.account t)) a.tokens) accounts
  each-told [] h = tt
  each-told (a ∷ accounts) h = let both = parted (map (token_entry a.account) a.tokens) (flat accounts) h in (told a.account a.tokens both.0, each-told accounts both.1)

module _ (accounts : List AccountRow) (up : pairs.ascends (λ (a : AccountRow). a.account) accounts ≡ true) (texts : list_all has_ordered_tokens accounts ≡ true) where
  pub flat-entries : entries (from_entries {R = token_cmp} (flat accounts)) ≡ flat accounts
  flat-entries = entries-seen tokens_total (flat accounts) (flat-sorted accounts up texts)

  pub tokens-there : AllByRecursion (λ (a : AccountRow). AllByRecursion (λ (t : TokenPoint). get (from_entries {R = token_cmp} (flat accounts)) (token_entry a.account t).0 ≡ Some (token_entry a.account t).1) a.tokens) accounts
  tokens-there =
      let m : FinMap token_cmp TokenRow = from_entries (flat accounts) in
      each-told (λ (e : TokenKey × TokenRow). get m e.0 ≡ Some e.1) accounts
      (subst (λ (es : List (TokenKey × TokenRow)). AllByRecursion (λ (e : TokenKey × TokenRow). get m e.0 ≡ Some e.1) es) flat-entries (each-entry tokens_total m (λ (e : TokenKey × TokenRow). get m e.0 ≡ Some e.1) (λ e there. there)))

number_is : (n : ℕ) → (n == n) ≡ true
number_is n = grind (arith, nat_tests)

own-count : (account : ℕ) (ts : List TokenPoint) → length ts ≤ count_by (λ (e : TokenKey × TokenRow). account == e.0.account) (map (token_entry account) ts)
own-count account [] = omega arith
own-count account (t ∷ ts) =
    let rest = own-count account ts in
    let is = sum_by-cons (λ (e : TokenKey × TokenRow). cond (account == e.0.account) 1 0) (token_entry account t) (map (token_entry account) ts) in
    let one : ◌≡◌ {A = ℕ} (cond (account == account) 1 0) 1 = ap {B = ℕ} (λ (b : Bool). cond b 1 0) (number_is account) in
    omega (arith, rest, is, one)

-- no account has more tokens than are counted for it
pub tokens-counted : (accounts : List AccountRow) → AllByRecursion (λ (a : AccountRow). length a.tokens ≤ count_by (λ (e : TokenKey × TokenRow). a.account == e.0.account) (flat accounts)) accounts
tokens-counted [] = tt
tokens-counted (x ∷ xs) = (
  let own = own-count x.account x.tokens in
      let is = sum_by-append (λ (e : TokenKey × TokenRow). cond (x.account == e.0.account) 1 0) (map (token_entry x.account) x.tokens) (flat xs) in omega (arith, own, is),
  weaker (λ (a : AccountRow). length a.tokens ≤ count_by (λ (e : TokenKey × TokenRow). a.account == e.0.account) (flat xs)) (λ (a : AccountRow). length a.tokens ≤ count_by (λ (e : TokenKey × TokenRow). a.account == e.0.account) (flat (x ∷ xs)))
      (λ a h. let is = sum_by-append (λ (e : TokenKey × TokenRow). cond (a.account == e.0.account) 1 0) (map (token_entry x.account) x.tokens) (flat xs) in omega (arith, h, is)) xs (tokens-counted xs),
)
