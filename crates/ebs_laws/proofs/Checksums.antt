-- A checksum goes by the indexes that were put and by the bytes that are there.
use Rattle.std.proofs.Common.{◌≡◌, ◌≢◌, ℕ, Bool, true, false, cond, ◌||◌, ◌++◌, List, [], ◌∷◌, flat_map, Option, Some, sym, ap, ◌∙◌, refl}
use Rattle.std.proofs.lemmas.List.Concat.{flat_map-cons}
use Rattle.std.specs.List.{list_any}
use Rattle.std.specs.List.Sorted.{IsStrictlySortedBy}
use Rattle.std.specs.FinMap as fin
use Rattle.std.specs.FinMap.{nat_cmp-IsAntisymmetric}
use Rattle.std.specs.Ordering.{nat_cmp, eq_by_cmp}
use Rattle.std.specs.Cmp.{nat_cmp_total}
use Rattle.sha2.specs.Sha256.{sha256}
use Rattle.ebs_model.specs.declared.keys.Moment.{Moment}
use Rattle.ebs_model.specs.Arrays.{WholeBlock, WholeArray, digest_of, linear}
use Rattle.ebs_model.specs.Time.{Snapshot}
use Rattle.ebs_tables.proofs.MapEdits.{tied}
use Rattle.ebs_tables.proofs.TreeMaps.{entries-sorted}
use Rattle.ebs_laws.proofs.Maps.{get-itself, get-other, by_key}
use Rattle.ebs_laws.specs.Uploads.{put, checksum_of}

pub ascending : (s : Snapshot) → IsStrictlySortedBy nat_cmp (fin.keys s.row.put)
ascending s = entries-sorted nat_cmp s.row.put

-- what is equal at each member is equal over the list
flat_map-same : (f g : ℕ → List ℕ) (xs : List ℕ) → ((x : ℕ) → list_any (eq_by_cmp nat_cmp x) xs ≡ true → f x ≡ g x) → flat_map f xs ≡ flat_map g xs
flat_map-same f g [] h = refl
flat_map-same f g (x ∷ xs) h =
    flat_map-cons f x xs
    ∙ (λ i. h x (ap (λ b. b || list_any (eq_by_cmp nat_cmp x) xs) (tied nat_cmp_total x)) i ++ flat_map-same f g xs (λ y is. h y (ap (λ b. eq_by_cmp nat_cmp y x || b) is ∙ either (eq_by_cmp nat_cmp y x))) i)
    ∙ sym (flat_map-cons g x xs)
  where
    either : (b : Bool) → (b || true) ≡ true
    either true = refl
    either false = refl

pub bytes-alone : (s t : Snapshot) → s.row.put ≡ t.row.put → ((index : ℕ) → fin.contains_key s.row.put index ≡ true → digest_of sha256 (fin.get s.array index) ≡ digest_of sha256 (fin.get t.array index)) → checksum_of s ≡ checksum_of t
bytes-alone s t same h =
    ap sha256 (flat_map-same (λ index. digest_of sha256 (fin.get s.array index)) (λ index. digest_of sha256 (fin.get t.array index)) (fin.keys s.row.put) (λ index is. h index (fin.contains_key-keys s.row.put index ∙ is)))
    ∙ ap (λ indexes. linear sha256 t.array (fin.keys indexes)) same

-- the digest at an index after two puts
module _ (array : WholeArray) (i j : ℕ) (x y : WholeBlock) where
  abbrev both : WholeArray
  both = fin.insert (fin.insert array i x) j y

  digest-last : digest_of sha256 (fin.get both j) ≡ sha256 y.bytes
  digest-last = ap (digest_of sha256) (get-itself nat_cmp_total nat_cmp-IsAntisymmetric (fin.insert array i x) j y)

  digest-first : i ≢ j → digest_of sha256 (fin.get both i) ≡ sha256 x.bytes
  digest-first apart = ap (digest_of sha256) (get-other nat_cmp_total nat_cmp-IsAntisymmetric (fin.insert array i x) j y i apart ∙ get-itself nat_cmp_total nat_cmp-IsAntisymmetric array i x)

  digest-other : (k : ℕ) → k ≢ i → k ≢ j → digest_of sha256 (fin.get both k) ≡ digest_of sha256 (fin.get array k)
  digest-other k not_i not_j = ap (digest_of sha256) (get-other nat_cmp_total nat_cmp-IsAntisymmetric (fin.insert array i x) j y k not_j ∙ get-other nat_cmp_total nat_cmp-IsAntisymmetric array i x k not_i)

digests-swap : (array : WholeArray) (i j a b c d : ℕ) (bytes others : List ℕ) → i ≢ j → (k : ℕ)
    → digest_of sha256 (fin.get (fin.insert (fin.insert array i (record { stamp = a; bytes = bytes })) j (record { stamp = b; bytes = others })) k)
    ≡ digest_of sha256 (fin.get (fin.insert (fin.insert array j (record { stamp = c; bytes = others })) i (record { stamp = d; bytes = bytes })) k)
digests-swap array i j a b c d bytes others apart k =
    let one : WholeBlock = record { stamp = a; bytes = bytes } in
    let two : WholeBlock = record { stamp = b; bytes = others } in
    let three : WholeBlock = record { stamp = c; bytes = others } in
    let four : WholeBlock = record { stamp = d; bytes = bytes } in
    let left : ℕ → List ℕ = λ k. digest_of sha256 (fin.get (fin.insert (fin.insert array i one) j two) k) in
    let right : ℕ → List ℕ = λ k. digest_of sha256 (fin.get (fin.insert (fin.insert array j three) i four) k) in
    by_key nat_cmp_total nat_cmp-IsAntisymmetric (left k ≡ right k) k j
    (λ is. ap left is ∙ digest-last array i j one two ∙ sym (digest-first array j i three four (λ e. apart (sym e))) ∙ ap right (sym is))
    (λ not_j. by_key nat_cmp_total nat_cmp-IsAntisymmetric (left k ≡ right k) k i
    (λ is. ap left is ∙ digest-first array i j one two apart ∙ sym (digest-last array j i three four) ∙ ap right (sym is))
    (λ not_i. digest-other array i j one two k not_i not_j ∙ sym (digest-other array j i three four k not_j not_i)))

marks-swap : (m : fin.FinMap nat_cmp (Unit {0})) (i j : ℕ) → fin.insert (fin.insert m i tt) j tt ≡ fin.insert (fin.insert m j tt) i tt
marks-swap m i j = fin.same_map nat_cmp_total nat_cmp-IsAntisymmetric _ _ (λ q.
    fin.get-insert nat_cmp_total (fin.insert m i tt) j tt q ∙ ap (cond (eq_by_cmp nat_cmp q j) (Some tt)) (fin.get-insert nat_cmp_total m i tt q)
    ∙ at (eq_by_cmp nat_cmp q j) (eq_by_cmp nat_cmp q i) (fin.get m q)
    ∙ sym (fin.get-insert nat_cmp_total (fin.insert m j tt) i tt q ∙ ap (cond (eq_by_cmp nat_cmp q i) (Some tt)) (fin.get-insert nat_cmp_total m j tt q)))
  where
    at : (a b : Bool) (o : Option (Unit {0})) → cond a (Some tt) (cond b (Some tt) o) ≡ cond b (Some tt) (cond a (Some tt) o)
    at true true o = refl
    at true false o = refl
    at false true o = refl
    at false false o = refl

pub two-orders : (s : Snapshot) (now first second last : Moment) (a b c d i j : ℕ) (bytes others : List ℕ) → i ≢ j → checksum_of (put (put s now a i bytes) first b j others) ≡ checksum_of (put (put s second c j others) last d i bytes)
two-orders s now first second last a b c d i j bytes others apart =
    bytes-alone (put (put s now a i bytes) first b j others) (put (put s second c j others) last d i bytes) (marks-swap s.row.put i j)
    (λ index put. digests-swap s.array i j a b c d bytes others apart index)
