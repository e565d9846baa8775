-- What a body is.
use Rattle.std.proofs.Common.{◌≡◌, ℕ, true, false, List, Some, None, refl, is_some, inl, inr}
use Rattle.std.specs.Str.{is_utf8, IsUtf8}
use Rattle.std.proofs.lemmas.Bool.{cases_Bool}
use Rattle.std.proofs.lemmas.Str.{IsUtf8-from_is_utf8, is_utf8-from_IsUtf8}
use Rattle.serde_json.specs.Data.{Data, null, boolean, number, string, array, object}
use Rattle.serde_json.specs.Read.{read}
use Rattle.serde_json.specs.Find.{as_object}
use Rattle.ebs_members.specs.Sources.{json_of, object_only}

pub json_read : (bytes : List ℕ) (d : Data) → IsUtf8 bytes → read bytes ≡ Some d → json_of bytes ≡ Some d
unfolding json_of
json_read bytes d text is = rw (is_utf8-from_IsUtf8 bytes text, is) refl

pub json_none : (bytes : List ℕ) → (IsUtf8 bytes → read bytes ≡ None) → json_of bytes ≡ None
unfolding json_of
json_none bytes h = elim (cases_Bool (is_utf8 bytes)) [
  | inl text ↦ rw (text, h (IsUtf8-from_is_utf8 bytes text)) refl
  | inr other ↦ rw other refl
]

pub is_object_true : (d : Data) → is_some (as_object d) ≡ true → object_only d ≡ Some d
is_object_true null h = cc
is_object_true (boolean b) h = cc
is_object_true (number n) h = cc
is_object_true (string s) h = cc
is_object_true (array ds) h = cc
is_object_true (object ms) h = refl

pub is_object_false : (d : Data) → is_some (as_object d) ≡ false → object_only d ≡ None
is_object_false null h = refl
is_object_false (boolean b) h = refl
is_object_false (number n) h = refl
is_object_false (string s) h = refl
is_object_false (array ds) h = refl
is_object_false (object ms) h = cc
