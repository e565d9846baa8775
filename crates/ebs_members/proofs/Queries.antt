-- Where there is nothing to decode nothing is found.
use Rattle.std.proofs.Common.{◌≡◌, ◌==◌, ℕ, true, List, [], ◌∷◌, length, codes, None, refl, IfErr, arith}
use Rattle.form_urlencoded.specs.Form.{raw_pairs, split}
use Rattle.serde_json.specs.Read.{read}
use Rattle.serde_json.proofs.OnLiterals.{serde_json_on_literals}
use Rattle.ebs_members.proofs.Objects.{json_none}
use Rattle.std.specs.declared.result.Result.{Result}
use Rattle.std.specs.declared.result.Result.TheVariants.{Ok, Err}
use Rattle.ebs_model.specs.declared.answer.Refusal.TheVariants.{BadParameter}
use Rattle.ebs_members.specs.Sources.{need, in_query, pairs_of, body_of}
use Rattle.ebs_members.specs.inner.Outcome.{RanOut}
use Rattle.ebs_members.specs.inner.Memory.{IsThere, IsGiven}
use Rattle.ebs_members.specs.declared.members.Wrong.{Wrong}

pub no_pairs : (query : List ℕ) → (length query == 0) ≡ true → [] ≡ pairs_of query
unfolding raw_pairs split
no_pairs [] h = refl
no_pairs (b ∷ query) h = grind arith

none_read : read [] ≡ None
unfolding serde_json_on_literals
none_read = refl

pub no_body : (bytes : List ℕ) → (length bytes == 0) ≡ true → need (codes "body") (body_of bytes) ≡ Err (BadParameter (codes "body"))
no_body [] h = rw (json_none [] (λ _. none_read)) refl
no_body (b ∷ bytes) h = grind arith

pub there_given : (name query : List ℕ) → IsThere (in_query (pairs_of query) name) → IsGiven query
unfolding raw_pairs split
there_given name [] there e = there
there_given name (b ∷ query) there e = cc

pub wants_less : {A P Q : Type 0} (r : Result A Wrong) → IfErr r (λ e. RanOut e → P) → (P → Q) → IfErr r (λ e. RanOut e → Q)
wants_less (Ok x) h f = tt
wants_less (Err e) h f = λ out. f (h out)
