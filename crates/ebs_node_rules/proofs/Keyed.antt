-- What stands in arrays after entries and copies are put in place.
use Rattle.std.proofs.Common.{◌≡◌, ℕ, ◌+◌, ◌<◌, Bool, true, false, ◌&&◌, ◌||◌, cond, eqb, ltb, leb, is_some, Less, Equal, Greater, Ordering, List, [], ◌∷◌, length, get_or, take, Option, Some, None, max, refl, sym, ap, subst, ◌∙◌, arith}
use Rattle.std.proofs.lemmas.Bool.{and_parts, ltb-true}
use Rattle.std.proofs.lemmas.Bool.Decides.{nat_tests}
use Rattle.std.proofs.lemmas.List.Folds.{list_all-map, list_all_more}
use Rattle.std.specs.List.{list_all, find}
use Rattle.std.specs.Option.{option_map}
use Rattle.std.specs.Ordering.{nat_cmp}
use Rattle.std.specs.Cmp.{nat_cmp_total}
use Rattle.std.specs.FinMap.Entries.{put, by_order}
use Rattle.std.specs.FinMap.{get, contains_key, insert, empty, entries, get-insert, len-empty, len-entries, entries-insert, nat_cmp-IsAntisymmetric}
use Rattle.ebs_model.specs.declared.array.Block.{Block}
use Rattle.ebs_checkpoints.specs.declared.nodes.EntryRow.{EntryRow}
use Rattle.ebs_checkpoints.specs.declared.nodes.CopyRow.{CopyRow}
use Rattle.ebs_node_rules.specs.inner.Nodes.{ascends}
use Rattle.ebs_node_rules.specs.Arrays.{Array, all_keys, with_entries, with_copies, is_copied}
use Rattle.ebs_node_rules.specs.inner.Lookups.{own_block}
use Rattle.ebs_node_rules.proofs.Marks.{alike}

no_items : {A : Type 0} (p : A → Bool) (es : List A) → length es ≡ 0 → list_all p es ≡ true
no_items p [] e = refl
no_items p (x ∷ es) e = absurd (omega arith)

-- every index of none passes
pub all-empty : (p : ℕ → Bool) → all_keys p empty ≡ true
all-empty p =
    list_all-map p (λ (e : ℕ × Block). e.0) (entries {R = nat_cmp} empty)
    ∙ no_items (λ (e : ℕ × Block). p e.0) (entries {R = nat_cmp} empty) (sym (len-entries {R = nat_cmp} empty) ∙ len-empty nat_cmp Block)

module _ (p : ℕ → Bool) (k : ℕ) (v : Block) where
  abbrev pass : List (ℕ × Block) → Bool
  pass es = list_all (λ (e : ℕ × Block). p e.0) es

  again : (a b : Bool) → (a && b) ≡ (a && (a && b))
  again true b = refl
  again false b = refl

  swap : (a b c : Bool) → (a && (b && c)) ≡ (b && (a && c))
  swap true true c = refl
  swap true false c = refl
  swap false true c = refl
  swap false false c = refl

  all-put : (es : List (ℕ × Block)) → pass (put nat_cmp k v es) ≡ (p k && pass es)
  all-put [] = refl
  all-put (e ∷ es) = by (nat_cmp k e.0) refl (all-put es)
    where
      by : (r : Ordering) → nat_cmp k e.0 ≡ r → pass (put nat_cmp k v es) ≡ (p k && pass es) → pass (by_order r ((k, v) ∷ e ∷ es) ((e.0, v) ∷ es) (e ∷ put nat_cmp k v es)) ≡ (p k && pass (e ∷ es))
      by Less is h = refl
      by Equal is h = again (p e.0) (pass es) ∙ ap (λ n. p n && (p e.0 && pass es)) (sym (nat_cmp-IsAntisymmetric k e.0 is))
      by Greater is h = ap (λ b. p e.0 && b) h ∙ swap (p e.0) (p k) (pass es)

  pub all-insert : (a : Array) → all_keys p (insert a k v) ≡ (p k && all_keys p a)
  all-insert a =
      list_all-map p (λ (e : ℕ × Block). e.0) (entries (insert a k v))
      ∙ ap pass (entries-insert nat_cmp_total a k v)
      ∙ all-put (entries a)
      ∙ ap (λ b. p k && b) (sym (list_all-map p (λ (e : ℕ × Block). e.0) (entries a)))

moved : (a b c : Bool) → (a && (b && c)) ≡ ((b && a) && c)
moved true true c = refl
moved true false c = refl
moved false true c = refl
moved false false c = refl

-- each index of the entries passes, and each that was there before
pub all-entries : (p : ℕ → Bool) (es : List EntryRow) (a : Array) → all_keys p (with_entries a es) ≡ (list_all (λ e. p e.index) es && all_keys p a)
all-entries p [] a = refl
all-entries p (e ∷ es) a = all-entries p es (insert a e.index e.block) ∙ ap (λ b. list_all (λ x. p x.index) es && b) (all-insert p e.index e.block a) ∙ moved (list_all (λ x. p x.index) es) (p e.index) (all_keys p a)

pub all-copies : (p : ℕ → Bool) (cs : List CopyRow) (a : Array) → all_keys p (with_copies a cs) ≡ (list_all (λ c. p c.index) cs && all_keys p a)
all-copies p [] a = refl
all-copies p (c ∷ cs) a = all-copies p cs (insert a c.index c.block) ∙ ap (λ b. list_all (λ x. p x.index) cs && b) (all-insert p c.index c.block a) ∙ moved (list_all (λ x. p x.index) cs) (p c.index) (all_keys p a)

joined : (b e : Bool) (x : Block) (o : Option Block) → (b || is_some (cond e (Some x) o)) ≡ ((e || b) || is_some o)
joined true true x o = refl
joined true false x o = refl
joined false true x o = refl
joined false false x o = refl

-- an index has a block where it has a copy or had one before
pub has-copies : (cs : List CopyRow) (a : Array) (q : ℕ) → contains_key (with_copies a cs) q ≡ (is_copied cs q || contains_key a q)
has-copies [] a q = refl
has-copies (c ∷ cs) a q =
    has-copies cs (insert a c.index c.block) q
    ∙ ap (λ o. is_copied cs q || is_some o) (get-insert nat_cmp_total a c.index c.block q ∙ ap (λ b. cond b (Some c.block) (get a q)) (alike q c.index))
    ∙ joined (is_copied cs q) (eqb c.index q) c.block (get a q)

-- the entry's own, and else what was there before
abbrev pub own_or : Option Block → Option Block → Option Block
own_or None o = o
own_or (Some x) o = Some x

none_at : (k : ℕ) (es : List EntryRow) → list_all (λ e. ltb k e.index) es ≡ true → own_block es k ≡ None
none_at k [] h = refl
none_at k (e ∷ es) h = by (eqb e.index k) refl (none_at k es (and_parts _ _ h).1)
  where
    by : (b : Bool) → eqb e.index k ≡ b → own_block es k ≡ None → option_map (λ (x : EntryRow). x.block) (cond b (Some e) (find (λ x. eqb x.index k) es)) ≡ None
    by true is none = let up = ltb-true k e.index (and_parts _ _ h).0 in absurd (grind (arith, nat_tests))
    by false is none = none

same_number : (m n : ℕ) → eqb m n ≡ true → m ≡ n
same_number m n t = grind (arith, nat_tests)

pub get-entries : (es : List EntryRow) (a : Array) (q : ℕ) → ascends (λ e. e.index) es ≡ true → get (with_entries a es) q ≡ own_or (own_block es q) (get a q)
get-entries [] a q h = refl
get-entries (e ∷ es) a q h =
    get-entries es (insert a e.index e.block) q (and_parts _ _ h).1
    ∙ ap (own_or (own_block es q)) (get-insert nat_cmp_total a e.index e.block q ∙ ap (λ b. cond b (Some e.block) (get a q)) (alike q e.index))
    ∙ by (eqb e.index q) refl
  where
    by : (b : Bool) → eqb e.index q ≡ b → own_or (own_block es q) (cond b (Some e.block) (get a q)) ≡ own_or (option_map (λ (x : EntryRow). x.block) (cond b (Some e) (find (λ x. eqb x.index q) es))) (get a q)
    by true is = ap (λ o. own_or o (Some e.block)) (none_at q es (subst (λ n. list_all (λ (x : EntryRow). ltb n x.index) es ≡ true) (same_number e.index q is) (and_parts _ _ h).0))
    by false is = refl

-- one above the greatest index, when one more has come
pub top_step : (top index limit : ℕ) → leb (max top (index + 1)) limit ≡ (leb top limit && ltb index limit)
top_step top index limit = grind (arith, nat_tests)

and_joined : (a b c : Bool) → ((a && b) && c) ≡ (a && (b && c))
and_joined true b c = refl
and_joined false b c = refl

pub top_more : (below top new : ℕ) (entries : List EntryRow) (i limit : ℕ) (d : EntryRow) → i < length entries → new ≡ max top ((get_or entries i d).index + 1)
    → leb top limit ≡ (leb below limit && list_all (λ e. ltb e.index limit) (take i entries)) → leb new limit ≡ (leb below limit && list_all (λ e. ltb e.index limit) (take (i + 1) entries))
top_more below top new entries i limit d l is h =
    ap (λ n. leb n limit) is
    ∙ top_step top (get_or entries i d).index limit
    ∙ ap (λ b. b && ltb (get_or entries i d).index limit) h
    ∙ and_joined (leb below limit) _ _
    ∙ ap (λ b. leb below limit && b) (sym (list_all_more (λ e. ltb e.index limit) entries i d l))
