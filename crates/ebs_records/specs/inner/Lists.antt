-- Beside what is promised: texts and lists: how many, then each.
use Rattle.std.proofs.Common.{◌≡◌, ℕ, List, ◌++◌, length, take, drop, sym, ap, ◌∙◌, ◌^◌, ◌<◌, append_assoc, refl, [], ◌∷◌, arith}
use Rattle.std.specs.List.{flat_map, AllByRecursion}
use Rattle.std.proofs.lemmas.List.{take_at, drop_at}
use Rattle.ebs_records.specs.Fields.{IsDigest, digest, text, word, IsText, AreMembers, members}
use Rattle.ebs_records.specs.inner.Apart.{Apart}
use Rattle.ebs_records.specs.inner.Numbers.{apart_word}

pub apart_long_as : (n : ℕ) (v w x y : List ℕ) → length v ≡ n → length w ≡ n → v ++ x ≡ w ++ y → (v ≡ w) × (x ≡ y)
apart_long_as n v w x y a b e = (sym (take_at v x n a) ∙ ap (take n) e ∙ take_at w y n b, sym (drop_at v x n a) ∙ ap (drop n) e ∙ drop_at w y n b)

pub apart_digest : Apart IsDigest digest
apart_digest v w x y a b e = apart_long_as 32 v w x y a b e

-- the count and what follows it
pub counted : (count : ℕ) (after v rest : List ℕ) → count < 2 ^ 32 → length v < 2 ^ 32 → word count ++ after ≡ text v ++ rest → (count ≡ length v) × (after ≡ v ++ rest)
counted count after v rest a b e = apart_word count (length v) after (v ++ rest) a b (e ∙ append_assoc (word (length v)) v rest)

pub apart_text : Apart IsText text
apart_text v w x y a b e =
    let count = apart_word (length v) (length w) (v ++ x) (w ++ y) a.0 b.0 (sym (append_assoc (word (length v)) v x) ∙ e ∙ append_assoc (word (length w)) w y) in
    apart_long_as (length w) v w x y count.0 refl count.1

apart_each : {V : Type 0} (fits : V → Type 0) (spelled : V → List ℕ) → Apart fits spelled → (vs ws : List V) (x y : List ℕ) → AllByRecursion fits vs → AllByRecursion fits ws → length vs ≡ length ws → flat_map spelled vs ++ x ≡ flat_map spelled ws ++ y → (vs ≡ ws) × (x ≡ y)
apart_each fits spelled apart [] [] x y a b n e = (refl, e)
apart_each fits spelled apart [] (w ∷ ws) x y a b n e = absurd (omega (arith, n))
apart_each fits spelled apart (v ∷ vs) [] x y a b n e = absurd (omega (arith, n))
apart_each fits spelled apart (v ∷ vs) (w ∷ ws) x y a b n e =
    let first = apart v w (flat_map spelled vs ++ x) (flat_map spelled ws ++ y) a.0 b.0 (sym (append_assoc (spelled v) (flat_map spelled vs) x) ∙ e ∙ append_assoc (spelled w) (flat_map spelled ws) y) in
    let rest = apart_each fits spelled apart vs ws x y a.1 b.1 (omega (arith, n)) first.1 in
    (λ i. first.0 i ∷ rest.0 i, rest.1)

pub apart_members : {V : Type 0} (fits : V → Type 0) (spelled : V → List ℕ) → Apart fits spelled → Apart (AreMembers fits) (members spelled)
apart_members fits spelled apart v w x y a b e =
    let count = apart_word (length v) (length w) (flat_map spelled v ++ x) (flat_map spelled w ++ y) a.0 b.0 (sym (append_assoc (word (length v)) (flat_map spelled v) x) ∙ e ∙ append_assoc (word (length w)) (flat_map spelled w) y) in
    apart_each fits spelled apart v w x y a.1 b.1 count.0 count.1
