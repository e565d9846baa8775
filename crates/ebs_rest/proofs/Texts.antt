-- A path in UTF-8 is read as it is.
use Rattle.std.proofs.Common.{◌≡◌, ℕ, List, Some, None, ◌∙◌, sym, subst, inl, inr}
use Rattle.std.specs.Str.{is_utf8}
use Rattle.std.proofs.lemmas.Bool.{cases_Bool}
use Rattle.std.specs.Str.Lossy.{utf8_lossy}
use Rattle.std.proofs.lemmas.Str.{IsUtf8-from_is_utf8, utf8_lossy-IsUtf8}
use Rattle.ebs_http.specs.declared.message.Message.{Message}
use Rattle.ebs_members.specs.Sources.{path_of}
use Rattle.ebs_members.specs.Kinds.{keep_if}
use Rattle.ebs_rest.specs.CallOf.{route_of}
use Rattle.ebs_rest.specs.inner.Memory.{MakesBy}

pub lossy_kept : (bytes text : List ℕ) → Some text ≡ keep_if is_utf8 (Some bytes) → utf8_lossy bytes ≡ text
lossy_kept bytes text h = elim (cases_Bool (is_utf8 bytes)) [
  | inl good ↦
      let same : Some text ≡ Some bytes = rw good at h in
      let e : bytes ≡ text = cc in
      utf8_lossy-IsUtf8 bytes (IsUtf8-from_is_utf8 bytes good) ∙ e
  | inr bad ↦ let no : Some text ≡ None = rw bad at h in cc
]

-- what a message makes is what it makes by its path
pub makes_by_path : (message : Message) (path : List ℕ) → path_of message.target ≡ path → MakesBy (route_of path) message → MakesBy (route_of (path_of message.target)) message
makes_by_path message path is made = subst (λ (p : List ℕ). MakesBy (route_of p) message) (sym is) made
