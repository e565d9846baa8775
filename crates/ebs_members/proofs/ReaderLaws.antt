-- What counts of fields and pairs, and what doesn't.
use Rattle.std.proofs.Common.{◌≡◌, ℕ, Bool, true, false, ◌||◌, List, [], ◌∷◌, ◌++◌, Some, refl, ap, inl, inr}
use Rattle.std.specs.Prelude.{find}
use Rattle.std.specs.Option.{option_map}
use Rattle.std.specs.List.{list_any}
use Rattle.std.specs.Str.{bytes_eq, str_eq_ignore_ascii_case, str_to_ascii_lowercase}
use Rattle.std.proofs.lemmas.Bool.{cases_Bool}
use Rattle.std.proofs.lemmas.Slice.Eq.{bytes_eq-Decides}
use Rattle.ebs_http.specs.declared.headers.Header.{Header}
use Rattle.ebs_http.specs.Messages.{is_named}
use Rattle.ebs_members.specs.inner.Laws.{AnyCase, OtherField, FirstField, OtherPair, FirstPair, is_pair_named}

-- an item that fails the test changes nothing of what is found
find_past : {A : Type 0} (p : A → Bool) (x : A) (before after : List A) → p x ≡ false → find p (before ++ x ∷ after) ≡ find p (before ++ after)
find_past p x [] after h = rw h refl
find_past p x (y ∷ before) after h = elim (cases_Bool (p y)) [
  | inl at ↦ rw at refl
  | inr past ↦ rw past (find_past p x before after h)
]

neither : (a b : Bool) → (a || b) ≡ false → (a ≡ false) × (b ≡ false)
neither true b h = cc
neither false b h = (refl, h)

find_here : {A : Type 0} (p : A → Bool) (x : A) (before after : List A) → list_any p before ≡ false → p x ≡ true → find p (before ++ x ∷ after) ≡ Some x
find_here p x [] after none h = rw h refl
find_here p x (y ∷ before) after none h =
    let n = neither (p y) (list_any p before) none in
    rw n.0 (find_here p x before after n.1 h)

pub other_field : OtherField
other_field name field before after h = ap (option_map (λ (f : Header). f.value)) (find_past (is_named name) field before after h)

pub first_field : FirstField
first_field name field before after none h = ap (option_map (λ (f : Header). f.value)) (find_here (is_named name) field before after none h)

abbrev value_of : List ℕ × List ℕ → List ℕ
value_of pair = pair.1

pub other_pair : OtherPair
other_pair name pair before after h = ap (option_map value_of) (find_past (is_pair_named name) pair before after h)

pub first_pair : FirstPair
first_pair name pair before after none h = ap (option_map value_of) (find_here (is_pair_named name) pair before after none h)

-- names that are the same in small letters name the same fields
same_small : (name other : List ℕ) → str_eq_ignore_ascii_case name other ≡ true → str_to_ascii_lowercase name ≡ str_to_ascii_lowercase other
same_small name other h = (bytes_eq-Decides (str_to_ascii_lowercase name) (str_to_ascii_lowercase other)).0 h

pub any_case : AnyCase
any_case name other fields h = ap (λ small. option_map (λ (f : Header). f.value) (find (λ (f : Header). bytes_eq (str_to_ascii_lowercase f.name) small) fields)) (same_small name other h)
