-- Items read one after another.
use Rattle.std.proofs.Common.{◌≡◌, ℕ, suc, ◌+◌, ◌<◌, List, [], ◌∷◌, ◌++◌, length, drop, get_or, Option, Some, None, refl, sym, ap, ◌∙◌, add-one, drop-cons, append_assoc}
use Rattle.std.specs.Option.{option_map}
use Rattle.std.proofs.lemmas.List.{append-nil}
use Rattle.serde_json.specs.Data.{Data}
use Rattle.serde_json.specs.View.{view, items_view}
use Rattle.serde_json.specs.declared.value.Value.{Value}
use Rattle.ebs_members.specs.Kinds.{all_of}

-- those so far, and those that follow
abbrev pub joined : {A : Type 0} → List A → Option (List A) → Option (List A)
joined xs others = option_map (λ more. xs ++ more) others

joined_none : {A : Type 0} (others : Option (List A)) → joined [] others ≡ others
joined_none None = refl
joined_none (Some xs) = refl

pub none_yet : {A : Type 0} (says : Data → Option A) (items : List Value) → joined [] (all_of says (items_view (drop 0 items))) ≡ all_of says (items_view items)
none_yet says items = joined_none (all_of says (items_view items))

joined_more : {A : Type 0} (xs : List A) (y : A) (others : Option (List A)) → joined xs (option_map (λ more. y ∷ more) others) ≡ joined (xs ++ y ∷ []) others
joined_more xs y None = refl
joined_more xs y (Some more) = ap Some (sym (append_assoc xs (y ∷ []) more))

rest_is : (items : List Value) (i : ℕ) (x : Value) → i < length items → x ≡ get_or items i x → drop i items ≡ x ∷ drop (i + 1) items
rest_is items i x below is = drop-cons items i x below ∙ ap (λ y. y ∷ drop (suc i) items) (sym is) ∙ rw add-one refl

pub one_more : {A : Type 0} (says : Data → Option A) (items : List Value) (i : ℕ) (x : Value) (xs : List A) (y : A) (whole : Option (List A)) → i < length items → x ≡ get_or items i x → Some y ≡ says (view x)
    → joined xs (all_of says (items_view (drop i items))) ≡ whole → joined (xs ++ y ∷ []) (all_of says (items_view (drop (i + 1) items))) ≡ whole
one_more says items i x xs y whole below is read before =
    let here : joined xs (all_of says (items_view (drop i items))) ≡ joined (xs ++ y ∷ []) (all_of says (items_view (drop (i + 1) items))) =
    ap (λ ys. joined xs (all_of says (items_view ys))) (rest_is items i x below is)
    ∙ rw (← read) (joined_more xs y (all_of says (items_view (drop (i + 1) items)))) in
    sym here ∙ before

pub one_bad : {A : Type 0} (says : Data → Option A) (items : List Value) (i : ℕ) (x : Value) (xs : List A) (whole : Option (List A)) → i < length items → x ≡ get_or items i x → None ≡ says (view x)
    → joined xs (all_of says (items_view (drop i items))) ≡ whole → None ≡ whole
one_bad says items i x xs whole below is read before =
    let here : joined xs (all_of says (items_view (drop i items))) ≡ None = ap (λ ys. joined xs (all_of says (items_view ys))) (rest_is items i x below is) ∙ rw (← read) refl in
    sym here ∙ before

pub all_read : {A : Type 0} (says : Data → Option A) (items : List Value) (n : ℕ) (xs : List A) (whole : Option (List A)) → drop n items ≡ [] → joined xs (all_of says (items_view (drop n items))) ≡ whole → Some xs ≡ whole
all_read says items n xs whole none before =
    let here : joined xs (all_of says (items_view (drop n items))) ≡ Some xs = ap (λ ys. joined xs (all_of says (items_view ys))) none ∙ ap Some (append-nil xs) in
    sym here ∙ before
