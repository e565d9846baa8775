use Rattle.std.proofs.Common.{◌≡◌, ℕ, arith, cond, true, nat_le, List, [], refl, ◌∷◌, ◌++◌, ap, sym, ◌∙◌, append_assoc, append-nil}
use Rattle.std.specs.Prelude.{flat_map}
use Rattle.std.specs.Map.{keys_of}
use Rattle.std.proofs.lemmas.Bool.Decides.{nat_tests}
use Rattle.std.specs.List.{filter}
use Rattle.std.specs.Option.{option_copied}
use Rattle.std.specs.FinMap as map
use Rattle.std.proofs.lemmas.List.Concat.{flat_map-cons}
use Rattle.sha2.specs.Sha256.{sha256}
use Rattle.ebs_model.specs.inner.Digests.{kept_digest}
use Rattle.ebs_tables.specs.Full.{full}
use Rattle.ebs_model.proofs.array.linear_checksum.Goals as goal

fed_one : {U : Type 0} (f : ℕ → List ℕ) (fed d : List ℕ) (index : ℕ) (u : U) (old rest : List (ℕ × U)) (all : List ℕ) → old ≡ (index, u) ∷ rest → d ≡ f index
    → fed ++ flat_map f (keys_of old) ≡ all → (fed ++ d) ++ flat_map f (keys_of rest) ≡ all
fed_one f fed d index u old rest all is d_is h =
    append_assoc fed d (flat_map f (keys_of rest))
    ∙ ap (λ (x : List ℕ). fed ++ (x ++ flat_map f (keys_of rest))) d_is
    ∙ ap (λ (x : List ℕ). fed ++ x) (sym (flat_map-cons f index (keys_of rest)))
    ∙ ap (λ es. fed ++ flat_map f (keys_of es)) (sym is)
    ∙ h

pub loop-index-preserved : goal.loop-index-preserved
loop-index-preserved c =
    let inv = c.loop-index.invariant in
    (inv.0 ++ kept_digest (option_copied c.get.result), c.add_digest.ensures inv.0 inv.1, fed_one _ inv.0 _ _ _ _ _ _ c.in-Some.ensures.steps (ap kept_digest c.get.ensures) inv.2)

at_zero : (n : ℕ) → nat_le 0 n ≡ true
at_zero n = grind (arith, nat_tests)

-- all indexes are at 0 or above it
from_none : {X : Type 0} (es : List (ℕ × X)) → filter (λ e. nat_le 0 e.0) es ≡ es
from_none [] = refl
from_none (e ∷ es) = (λ i. cond (at_zero e.0 i) (e ∷ from_none es i) (from_none es i))

pub returns : goal.returns
returns c =
    let f : ℕ → List ℕ = λ index. kept_digest (map.get (full c.args.array.now) index) in
    let given = c.into_iter-index-iterator.ensures.into_iter_gives ∙ c.from-index-items.ensures.values ∙ from_none (map.entries (full c.args.put.now)) in
    let inv = c.loop-index.invariant in
    c.finalize.ensures inv.0 inv.1
    ∙ ap sha256 (sym (append-nil inv.0)
    ∙ ap (λ rest. inv.0 ++ flat_map f (keys_of rest)) (sym c.in-None.ensures.steps.0)
    ∙ inv.2
    ∙ ap (λ es. flat_map f (keys_of es)) given)
