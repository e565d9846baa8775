-- What holds of the readers, whatever the call: what counts of a header field and of a query, and what doesn't.
use Rattle.std.specs.Prelude.{◌≡◌, ℕ, true, List, false, ◌∷◌, ◌++◌, Some, Bool}
use Rattle.std.specs.List.{list_any}
use Rattle.std.specs.Str.{str_eq_ignore_ascii_case, bytes_eq}
use Rattle.ebs_http.specs.declared.headers.Header.{Header}
use Rattle.ebs_members.specs.Sources.{header, query_value}
use Rattle.ebs_http.specs.Messages.{is_named}

-- two names that differ in case alone find the same field
abbrev pub AnyCase : Type 0
AnyCase = (name other : List ℕ) (fields : List Header) → str_eq_ignore_ascii_case name other ≡ true → header name fields ≡ header other fields

-- a field of another name changes nothing, wherever it stands
abbrev pub OtherField : Type 0
OtherField = (name : List ℕ) (field : Header) (before after : List Header) → is_named name field ≡ false → header name (before ++ field ∷ after) ≡ header name (before ++ after)

-- of fields of one name the first counts
abbrev pub FirstField : Type 0
FirstField = (name : List ℕ) (field : Header) (before after : List Header) → list_any (is_named name) before ≡ false → is_named name field ≡ true
    → header name (before ++ field ∷ after) ≡ Some field.value

abbrev pub is_pair_named : List ℕ → List ℕ × List ℕ → Bool
is_pair_named name pair = bytes_eq pair.0 name

-- a pair of another name changes nothing, wherever it stands
abbrev pub OtherPair : Type 0
OtherPair = (name : List ℕ) (pair : List ℕ × List ℕ) (before after : List (List ℕ × List ℕ)) → is_pair_named name pair ≡ false
    → query_value name (before ++ pair ∷ after) ≡ query_value name (before ++ after)

-- of pairs of one name the first counts
abbrev pub FirstPair : Type 0
FirstPair = (name : List ℕ) (pair : List ℕ × List ℕ) (before after : List (List ℕ × List ℕ)) → list_any (is_pair_named name) before ≡ false → is_pair_named name pair ≡ true
    → query_value name (before ++ pair ∷ after) ≡ Some pair.1
