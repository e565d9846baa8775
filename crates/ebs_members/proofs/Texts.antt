-- Texts in UTF-8.
use Rattle.std.proofs.Common.{◌≡◌, ℕ, List, Some, None, refl, inl, inr}
use Rattle.std.specs.Str.{is_utf8, IsUtf8}
use Rattle.std.proofs.lemmas.Bool.{cases_Bool}
use Rattle.std.proofs.lemmas.Str.{IsUtf8-from_is_utf8, is_utf8-from_IsUtf8}
use Rattle.ebs_members.specs.Kinds.{keep_if}

pub utf8_kept : (bytes : List ℕ) → IsUtf8 bytes → keep_if is_utf8 (Some bytes) ≡ Some bytes
utf8_kept bytes text = rw (is_utf8-from_IsUtf8 bytes text) refl

pub utf8_dropped : (bytes : List ℕ) → (IsUtf8 bytes → ⊥) → keep_if is_utf8 (Some bytes) ≡ None
utf8_dropped bytes other = elim (cases_Bool (is_utf8 bytes)) [
  | inl text ↦ absurd (other (IsUtf8-from_is_utf8 bytes text))
  | inr otherwise ↦ rw otherwise refl
]
