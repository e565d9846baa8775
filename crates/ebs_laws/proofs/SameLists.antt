-- The lists that are read off two machines that an account sees alike.
use Rattle.std.proofs.Common.{◌≡◌, ℕ, ◌+◌, ◌==◌, nat_le, List, [], ◌∷◌, ◌++◌, map, take, length, flat_map, T, Bool, true, false, cond, not, ◌&&◌, ◌||◌, Option, Some, None, is_some, Ordering, sym, ap, subst, ◌∙◌, refl}
use Rattle.std.proofs.lemmas.List.{take-map}
use Rattle.std.proofs.lemmas.List.Sums.{length-filter}
use Rattle.std.specs.List.{filter, slice_get}
use Rattle.std.specs.Ordering.{eq_by_cmp, nat_cmp, is_lt}
use Rattle.std.specs.Cmp.{IsTotalOrder, nat_cmp_total}
use Rattle.std.specs.FinMap as fin
use Rattle.std.specs.FinMap.{FinMap, IsAntisymmetric, nat_cmp-IsAntisymmetric}
use Rattle.std.specs.FinMap.Entries.{find, where_key, is_sorted, below_all, find-where_key, is_sorted-where_key}
use Rattle.sha2.specs.Sha256.{sha256}
use Rattle.ebs_model.specs.declared.keys.SnapKey.{SnapKey}
use Rattle.ebs_model.specs.declared.keys.TokenKey.{TokenKey}
use Rattle.ebs_model.specs.declared.keys.VolKey.{VolKey}
use Rattle.ebs_model.specs.declared.rows.SnapRow.{SnapRow}
use Rattle.ebs_model.specs.declared.rows.TokenRow.{TokenRow}
use Rattle.ebs_model.specs.declared.rows.VolRow.{VolRow}
use Rattle.ebs_model.specs.declared.entries.BlockEntry.{BlockEntry}
use Rattle.ebs_model.specs.declared.entries.ChangedToken.{ChangedToken}
use Rattle.ebs_model.specs.declared.answer.Answer.{Answer}
use Rattle.ebs_model.specs.declared.answer.Answer.TheVariants.{BlockList, ChangedList}
use Rattle.ebs_model.specs.inner.Orders.{snaps_total, exact_snaps, vols_total, exact_vols, tokens_total, exact_tokens, policies_total, exact_policies}
use Rattle.ebs_model.specs.Arrays.{WholeBlock, WholeArray, digest_of, linear}
use Rattle.ebs_model.specs.Tokens.{block_text}
use Rattle.ebs_model.specs.Time.{Snapshot, is_ahead}
use Rattle.ebs_model.specs.Access.{owns}
use Rattle.ebs_model.specs.Rows.{own_rows, volume_count, token_count, policy_count}
use Rattle.ebs_model.specs.Policies.{is_target, targets}
use Rattle.ebs_model.specs.declared.keys.PolicyKey.{PolicyKey}
use Rattle.ebs_model.specs.declared.policy.Policy.{Policy}
use Rattle.ebs_model.specs.Lists.{Pair, differ, either_keys, from_index}
use Rattle.ebs_model.specs.Calls.Describe.{listed, is_there}
use Rattle.ebs_model.specs.Calls.List.{block_list, block_life, after, next_page, token_of, changed_entry, differences, change_list}
use Rattle.ebs_model.specs.Machine.{Machine, rows_of, snap_rows}
use Rattle.ebs_model.proofs.RowLaws.{row_in, get-row}
use Rattle.ebs_laws.specs.IsolationLaws.{Both, Renaming, IsRenaming, SameBlock, SameArray, SameSnapshot, SameView}
use Rattle.ebs_laws.proofs.Numbers.{get-map, map-both}
use Rattle.ebs_laws.proofs.Readers.{same_number}
use Rattle.ebs_laws.proofs.SameViews.{twin, own-rows}

-- the entries of one's own keys
module _ {K X : Type 0} {R : K → K → Ordering} (total : IsTotalOrder R) (exact : IsAntisymmetric R) (mine : K → Bool) where
  abbrev own_list : FinMap R X → List (K × X)
  own_list f = where_key R mine (fin.entries f)

  own-sorted : (f : FinMap R X) → T (is_sorted R (own_list f))
  own-sorted f = is_sorted-where_key R mine (fin.entries f) (fin.entries_sorted f)

  own-found : (f : FinMap R X) (q : K) → find R q (own_list f) ≡ cond (mine q) (fin.get f q) None
  own-found f q = find-where_key R mine q (λ x e. ap mine (sym (exact q x e))) (fin.entries f) ∙ ap (λ o. cond (mine q) o None) (sym (fin.get-entries f q))

  -- what is equal at one's own keys makes equal lists
  pub own-lists : (f g : FinMap R X) → ((q : K) → mine q ≡ true → fin.get g q ≡ fin.get f q) → own_list g ≡ own_list f
  own-lists f g h =
      sym (fin.entries-from_sorted R (own_list g) (own-sorted g))
      ∙ ap fin.entries (fin.same_map total exact (fin.from_sorted (own_list g)) (fin.from_sorted (own_list f)) (λ q.
      fin.get-from_sorted R (own_list g) q (own-sorted g) ∙ own-found g q ∙ at q (mine q) refl ∙ sym (own-found f q) ∙ sym (fin.get-from_sorted R (own_list f) q (own-sorted f))))
      ∙ fin.entries-from_sorted R (own_list f) (own-sorted f)
    where
      at : (q : K) (b : Bool) → mine q ≡ b → cond b (fin.get g q) None ≡ cond b (fin.get f q) None
      at q true e = h q e
      at q false e = refl

pub filter-twice : {A : Type 0} (p q : A → Bool) (xs : List A) → filter (λ x. p x && q x) xs ≡ filter q (filter p xs)
filter-twice p q [] = refl
filter-twice p q (x ∷ xs) = ap (λ rest. cond (p x && q x) (x ∷ rest) rest) (filter-twice p q xs) ∙ at (p x)
  where
    at : (b : Bool) → cond (b && q x) (x ∷ filter q (filter p xs)) (filter q (filter p xs)) ≡ filter q (cond b (x ∷ filter p xs) (filter p xs))
    at true = refl
    at false = refl

module _ (account : ℕ) (r : Renaming) (m : Machine) (n0 : Machine) (h : SameView account r m (twin m n0)) where
  pub row-same : (o p : Option Snapshot) → Both (SameSnapshot r) o p → row_in p ≡ row_in o
  row-same None None b = refl
  row-same None (Some y) b = absurd b
  row-same (Some x) None b = absurd b
  row-same (Some x) (Some y) b = ap Some b.row

  own-entries : filter (λ (e : SnapKey × SnapRow). owns account e.0) (fin.entries (snap_rows n0.snaps)) ≡ filter (λ e. owns account e.0) (fin.entries (snap_rows m.snaps))
  own-entries = own-lists snaps_total exact_snaps (owns account) (snap_rows m.snaps) (snap_rows n0.snaps) (λ q e. get-row n0.snaps q ∙ row-same _ _ (own-rows account r m n0 h q e) ∙ sym (get-row m.snaps q))

  -- the account's own rows
  pub own_rows-same : own_rows (rows_of n0) account ≡ own_rows (rows_of m) account
  own_rows-same = ap (map (λ e. e.1)) own-entries

  pub listed-same : (bin : Bool) (now from : ℕ) → listed bin (rows_of n0) account now from ≡ listed bin (rows_of m) account now from
  listed-same bin now from =
      let rest : SnapKey × SnapRow → Bool = λ e. nat_le from e.0.number && is_there bin (is_ahead e.1.bin_end now) in
      filter-twice (λ e. owns account e.0) rest (fin.entries (snap_rows n0.snaps))
      ∙ ap (filter rest) own-entries
      ∙ sym (filter-twice (λ e. owns account e.0) rest (fin.entries (snap_rows m.snaps)))

  -- how many client tokens it has used
  pub token_count-same : token_count (rows_of n0) account ≡ token_count (rows_of m) account
  token_count-same =
      let mine : TokenKey × TokenRow → Bool = λ e. account == e.0.account in
      sym (length-filter mine (fin.entries n0.tokens))
      ∙ ap length (own-lists tokens_total exact_tokens (λ (k : TokenKey). account == k.account) m.tokens n0.tokens (λ q e.
      let key : record { account = account; text = q.text } ≡ q = λ i. record { account = same_number account q.account e i; text = q.text } in
      ap (fin.get n0.tokens) (sym key) ∙ h.tokens q.text ∙ ap (fin.get m.tokens) key))
      ∙ length-filter mine (fin.entries m.tokens)

  -- and how many volumes it has
  pub volume_count-same : volume_count (rows_of n0) account ≡ volume_count (rows_of m) account
  volume_count-same =
      let mine : VolKey × VolRow → Bool = λ e. account == e.0.account in
      sym (length-filter mine (fin.entries n0.vols))
      ∙ ap length (own-lists vols_total exact_vols (λ (k : VolKey). account == k.account) m.vols n0.vols (λ q e.
      let key : record { account = account; number = q.number } ≡ q = λ i. record { account = same_number account q.account e i; number = q.number } in
      ap (fin.get n0.vols) (sym key) ∙ h.vols q.number ∙ ap (fin.get m.vols) key))
      ∙ length-filter mine (fin.entries m.vols)

  -- how many policies
  pub policy_count-same : policy_count (rows_of n0) account ≡ policy_count (rows_of m) account
  policy_count-same =
      let mine : PolicyKey × Policy → Bool = λ e. account == e.0.account in
      sym (length-filter mine (fin.entries n0.policies))
      ∙ ap length (own-lists policies_total exact_policies (λ (k : PolicyKey). account == k.account) m.policies n0.policies (λ q e.
      let key : record { account = account; number = q.number } ≡ q = λ i. record { account = same_number account q.account e i; number = q.number } in
      ap (fin.get n0.policies) (sym key) ∙ h.policies q.number ∙ ap (fin.get m.policies) key))
      ∙ length-filter mine (fin.entries m.policies)

  -- and which volumes a policy targets
  pub targets-same : (p : Policy) → targets (rows_of n0) account p ≡ targets (rows_of m) account p
  targets-same p =
      let mine : VolKey × VolRow → Bool = λ e. account == e.0.account in
      let tagged : VolKey × VolRow → Bool = λ e. is_target p e.1 in
      filter-twice mine tagged (fin.entries n0.vols)
      ∙ ap (filter tagged) (own-lists vols_total exact_vols (λ (k : VolKey). account == k.account) m.vols n0.vols (λ q e.
      let key : record { account = account; number = q.number } ≡ q = λ i. record { account = same_number account q.account e i; number = q.number } in
      ap (fin.get n0.vols) (sym key) ∙ h.vols q.number ∙ ap (fin.get m.vols) key))
      ∙ sym (filter-twice mine tagged (fin.entries m.vols))

-- arrays that have blocks at the same indexes
abbrev mark : ℕ × WholeBlock → ℕ × Unit {0}
mark e = (e.0, tt)

below-mark : (x : ℕ) (es : List (ℕ × WholeBlock)) → below_all nat_cmp x (map mark es) ≡ below_all nat_cmp x es
below-mark x [] = refl
below-mark x (e ∷ es) = ap (λ b. is_lt (nat_cmp x e.0) && b) (below-mark x es)

sorted-mark : (es : List (ℕ × WholeBlock)) → is_sorted nat_cmp (map mark es) ≡ is_sorted nat_cmp es
sorted-mark [] = refl
sorted-mark (e ∷ es) = λ i. below-mark e.0 es i && sorted-mark es i

abbrev marked : Bool → Option (Unit {0})
marked b = cond b (Some tt) None

find-mark : (q : ℕ) (es : List (ℕ × WholeBlock)) → find nat_cmp q (map mark es) ≡ marked (is_some (find nat_cmp q es))
find-mark q [] = refl
find-mark q (e ∷ es) = ap (cond (eq_by_cmp nat_cmp q e.0) (Some tt)) (find-mark q es) ∙ at (eq_by_cmp nat_cmp q e.0)
  where
    at : (b : Bool) → cond b (Some tt) (marked (is_some (find nat_cmp q es))) ≡ marked (is_some (cond b (Some e.1) (find nat_cmp q es)))
    at true = refl
    at false = refl

keys-mark : (es : List (ℕ × WholeBlock)) → map (λ e. e.0) (map mark es) ≡ map (λ e. e.0) es
keys-mark [] = refl
keys-mark (e ∷ es) = ap (λ ks. e.0 ∷ ks) (keys-mark es)

mark_sorted : (f : WholeArray) → T (is_sorted nat_cmp (map mark (fin.entries f)))
mark_sorted f = subst T (sym (sorted-mark (fin.entries f))) (fin.entries_sorted f)

keys-same : (f g : WholeArray) → ((q : ℕ) → is_some (fin.get g q) ≡ is_some (fin.get f q)) → fin.keys g ≡ fin.keys f
keys-same f g h =
    let a = map mark (fin.entries f) in
    let b = map mark (fin.entries g) in
    let at : (q : ℕ) → fin.get (fin.from_sorted {R = nat_cmp} b) q ≡ fin.get (fin.from_sorted {R = nat_cmp} a) q = λ q.
    fin.get-from_sorted nat_cmp b q (mark_sorted g) ∙ find-mark q (fin.entries g) ∙ ap (λ o. marked (is_some o)) (sym (fin.get-entries g q)) ∙ ap marked (h q)
    ∙ ap (λ o. marked (is_some o)) (fin.get-entries f q) ∙ sym (find-mark q (fin.entries f)) ∙ sym (fin.get-from_sorted nat_cmp a q (mark_sorted f)) in
    let lists : b ≡ a = sym (fin.entries-from_sorted nat_cmp b (mark_sorted g)) ∙ ap fin.entries (fin.same_map nat_cmp_total nat_cmp-IsAntisymmetric _ _ at) ∙ fin.entries-from_sorted nat_cmp a (mark_sorted f) in
    sym (keys-mark (fin.entries g)) ∙ ap (map (λ e. e.0)) lists ∙ keys-mark (fin.entries f)

find-both : (q : ℕ) (es fs : List (ℕ × WholeBlock)) → is_some (find nat_cmp q (es ++ fs)) ≡ (is_some (find nat_cmp q es) || is_some (find nat_cmp q fs))
find-both q [] fs = refl
find-both q (e ∷ es) fs = at (eq_by_cmp nat_cmp q e.0) (find-both q es fs)
  where
    at : (b : Bool) → is_some (find nat_cmp q (es ++ fs)) ≡ (is_some (find nat_cmp q es) || is_some (find nat_cmp q fs)) → is_some (cond b (Some e.1) (find nat_cmp q (es ++ fs))) ≡ (is_some (cond b (Some e.1) (find nat_cmp q es)) || is_some (find nat_cmp q fs))
    at true h = refl
    at false h = h

either-found : (f g : WholeArray) (q : ℕ) → is_some (fin.get (fin.from_entries {R = nat_cmp} (fin.entries f ++ fin.entries g)) q) ≡ (is_some (fin.get f q) || is_some (fin.get g q))
either-found f g q =
    ap is_some (fin.get-from_entries nat_cmp_total (fin.entries f ++ fin.entries g) q)
    ∙ find-both q (fin.entries f) (fin.entries g)
    ∙ (λ i. is_some (sym (fin.get-entries f q) i) || is_some (sym (fin.get-entries g q) i))

module _ (r : Renaming) where
  there-same : (o p : Option WholeBlock) → Both (SameBlock r) o p → is_some p ≡ is_some o
  there-same None None b = refl
  there-same None (Some y) b = absurd b
  there-same (Some x) None b = absurd b
  there-same (Some x) (Some y) b = refl

  array-keys : (f g : WholeArray) → SameArray r f g → fin.keys g ≡ fin.keys f
  array-keys f g same = keys-same f g (λ q. there-same _ _ (same.at q))

  either-same : (f g a b : WholeArray) → SameArray r f g → SameArray r a b → either_keys g b ≡ either_keys f a
  either-same f g a b one two = keys-same _ _ (λ q. either-found g b q ∙ (λ i. there-same _ _ (one.at q) i || there-same _ _ (two.at q) i) ∙ sym (either-found f a q))

  -- the checksum of the blocks at some indexes
  digest-same : (o p : Option WholeBlock) → Both (SameBlock r) o p → digest_of sha256 p ≡ digest_of sha256 o
  digest-same None None b = refl
  digest-same None (Some y) b = absurd b
  digest-same (Some x) None b = absurd b
  digest-same (Some x) (Some y) b = ap sha256 b.bytes

  pub linear-same : (f g : WholeArray) (indexes : List ℕ) → SameArray r f g → linear sha256 g indexes ≡ linear sha256 f indexes
  linear-same f g indexes same = λ k. sha256 (flat_map (λ index. digest-same _ _ (same.at index) k) indexes)

  -- a page of blocks: their tokens hang on the indexes alone
  module _ (secret : List ℕ) (key : SnapKey) (now size most index : ℕ) where
    abbrev indexes : WholeArray → List ℕ
    indexes array = map (λ e. e.0) (from_index array index)

    indexes-are : (es : List (ℕ × WholeBlock)) → map (λ e. e.0) (filter (λ e. nat_le index e.0) es) ≡ filter (λ i. nat_le index i) (map (λ e. e.0) es)
    indexes-are [] = refl
    indexes-are (e ∷ es) = at (nat_le index e.0) (indexes-are es)
      where
        at : (b : Bool) → map (λ e. e.0) (filter (λ e. nat_le index e.0) es) ≡ filter (λ i. nat_le index i) (map (λ e. e.0) es)
            → map (λ e. e.0) (cond b (e ∷ filter (λ e. nat_le index e.0) es) (filter (λ e. nat_le index e.0) es)) ≡ cond b (e.0 ∷ filter (λ i. nat_le index i) (map (λ e. e.0) es)) (filter (λ i. nat_le index i) (map (λ e. e.0) es))
        at true h = ap (λ l. e.0 ∷ l) h
        at false h = h

    abbrev told : ℕ → BlockEntry
    told i = record { index = i; token = block_text secret key i (now + block_life) }

    abbrev page : List ℕ → Answer
    page is = BlockList (map told (take most is)) (after now block_life) (next_page secret false key key now (slice_get is most)) size

    page-is : (array : WholeArray) → block_list secret key now size array most index ≡ page (indexes array)
    page-is array = λ i. BlockList
        ((sym (map-both (λ (e : ℕ × WholeBlock). e.0) told (take most (from_index array index))) ∙ ap (map told) (sym (take-map (λ e. e.0) most (from_index array index)))) i)
        (after now block_life)
        (next_page secret false key key now (sym (get-map (λ e. e.0) (from_index array index) most) i))
        size

    pub page-same : (f g : WholeArray) → SameArray r f g → block_list secret key now size g most index ≡ block_list secret key now size f most index
    page-same f g same =
        page-is g ∙ ap page (indexes-are (fin.entries g) ∙ ap (filter (λ i. nat_le index i)) (array-keys f g same) ∙ sym (indexes-are (fin.entries f))) ∙ sym (page-is f)

  -- a page of what differs: of stamps it hangs on which are equal
  module _ (a b : ℕ) (renames : IsRenaming r a b) where
    differ-same : (f g c d : Option WholeBlock) → Both (SameBlock r) f g → Both (SameBlock r) c d → differ (λ (x : WholeBlock). x.stamp) g d ≡ differ (λ (x : WholeBlock). x.stamp) f c
    differ-same None None None None p q = refl
    differ-same None None (Some c) (Some d) p q = refl
    differ-same (Some f) (Some g) None None p q = refl
    differ-same (Some f) (Some g) (Some c) (Some d) p q = ap not (sym (renames.one f.stamp g.stamp c.stamp d.stamp p.stamps q.stamps))
    differ-same None (Some g) c d p q = absurd p
    differ-same (Some f) None c d p q = absurd p
    differ-same None None None (Some d) p q = absurd q
    differ-same None None (Some c) None p q = absurd q
    differ-same (Some f) (Some g) None (Some d) p q = absurd q
    differ-same (Some f) (Some g) (Some c) None p q = absurd q

    token-same : (secret : List ℕ) (key : SnapKey) (now index : ℕ) (o p : Option WholeBlock) → Both (SameBlock r) o p → token_of secret key now index p ≡ token_of secret key now index o
    token-same secret key now index None None b = refl
    token-same secret key now index None (Some y) b = absurd b
    token-same secret key now index (Some x) None b = absurd b
    token-same secret key now index (Some x) (Some y) b = refl

    abbrev pair : WholeArray → WholeArray → ℕ → Pair WholeBlock
    pair f c i = record { index = i; first = fin.get f i; second = fin.get c i }

    abbrev differs : Pair WholeBlock → Bool
    differs p = differ (λ (x : WholeBlock). x.stamp) p.first p.second

    -- what is told of the pairs that differ
    module _ {E : Type 0} (tell : Pair WholeBlock → E) (f g c d : WholeArray) (same_test : (i : ℕ) → differs (pair g d i) ≡ differs (pair f c i)) (same_told : (i : ℕ) → tell (pair g d i) ≡ tell (pair f c i)) where
      tell-cond : (t : Bool) (p : Pair WholeBlock) (ps : List (Pair WholeBlock)) → map tell (cond t (p ∷ ps) ps) ≡ cond t (tell p ∷ map tell ps) (map tell ps)
      tell-cond true p ps = refl
      tell-cond false p ps = refl

      tells-same : (ks : List ℕ) → map tell (filter differs (map (pair g d) ks)) ≡ map tell (filter differs (map (pair f c) ks))
      tells-same [] = refl
      tells-same (k ∷ ks) =
          tell-cond (differs (pair g d k)) (pair g d k) (filter differs (map (pair g d) ks))
          ∙ (λ i. cond (same_test k i) (same_told k i ∷ tells-same ks i) (tells-same ks i))
          ∙ sym (tell-cond (differs (pair f c k)) (pair f c k) (filter differs (map (pair f c) ks)))

    module _ (secret : List ℕ) (first second : SnapKey) (now size most index : ℕ) (f g c d : WholeArray) (one : SameArray r f g) (two : SameArray r c d) where
      abbrev tell : Pair WholeBlock → ChangedToken
      tell = changed_entry secret first second now

      abbrev number : Pair WholeBlock → ℕ
      number p = p.index

      abbrev changes_page : List ChangedToken → List ℕ → Answer
      changes_page tokens is = ChangedList (take most tokens) (after now block_life) (next_page secret true first second now (slice_get is most)) size

      changes-are : (x y : WholeArray) → change_list secret first second now size x y most index ≡ changes_page (map tell (differences x y index)) (map number (differences x y index))
      changes-are x y = λ i. ChangedList (sym (take-map tell most (differences x y index)) i) (after now block_life) (next_page secret true first second now (sym (get-map number (differences x y index) most) i)) size

      test_same : (i : ℕ) → differs (pair g d i) ≡ differs (pair f c i)
      test_same i = differ-same _ _ _ _ (one.at i) (two.at i)

      told_same : {E : Type 0} (what : Pair WholeBlock → E) → ((i : ℕ) → what (pair g d i) ≡ what (pair f c i)) → map what (differences g d index) ≡ map what (differences f c index)
      told_same what same =
          ap (λ ks. map what (filter differs (map (pair g d) (filter (λ i. nat_le index i) ks)))) (either-same f g c d one two)
          ∙ tells-same what f g c d test_same same (filter (λ i. nat_le index i) (either_keys f c))

      pub changes-same : change_list secret first second now size g d most index ≡ change_list secret first second now size f c most index
      changes-same =
          changes-are g d
          ∙ (λ i. changes_page
          (told_same tell (λ j. λ k. record { index = j; first = token-same secret first now j _ _ (one.at j) k; second = token-same secret second now j _ _ (two.at j) k }) i)
          (told_same number (λ j. refl) i))
          ∙ sym (changes-are f c)
