use Rattle.std.proofs.Common.{◌≡◌, ℕ, List, ◌∷◌, ◌++◌, ap, sym, ◌∙◌, append_assoc, append-nil}
use Rattle.std.specs.Prelude.{flat_map}
use Rattle.std.specs.Map.{keys_of}
use Rattle.std.specs.FinMap as map
use Rattle.std.proofs.lemmas.List.Concat.{flat_map-cons}
use Rattle.sha2.specs.Sha256.{sha256}
use Rattle.ebs_tables.specs.Full.{full}
use Rattle.ebs_model.specs.inner.Digests.{kept_digest}
use Rattle.ebs_lineage.specs.Lines.{array}
use Rattle.ebs_kept.proofs.Live.{all-blocks}
use Rattle.ebs_kept.proofs.AsKept.{linear-blocks}
use Rattle.ebs_kept.proofs.checksums.linear_of.Goals as goal

one_more : {U : Type 0} (f : ℕ → List ℕ) (fed d : List ℕ) (index : ℕ) (u : U) (old rest : List (ℕ × U)) (all : List ℕ) → old ≡ (index, u) ∷ rest → d ≡ f index
    → fed ++ flat_map f (keys_of old) ≡ all → (fed ++ d) ++ flat_map f (keys_of rest) ≡ all
one_more f fed d index u old rest all is found h =
    append_assoc fed d (flat_map f (keys_of rest))
    ∙ ap (λ (x : List ℕ). fed ++ (x ++ flat_map f (keys_of rest))) found
    ∙ ap (λ (x : List ℕ). fed ++ x) (sym (flat_map-cons f index (keys_of rest)))
    ∙ ap (λ es. fed ++ flat_map f (keys_of es)) (sym is)
    ∙ h

pub loop-index-preserved : goal.loop-index-preserved
loop-index-preserved c =
    let inv = c.loop-index.invariant in
    (inv.0 ++ kept_digest c.find.result, c.add_digest.ensures inv.0 inv.1, one_more _ inv.0 _ _ _ _ _ _ c.in-Some.ensures.steps (ap kept_digest c.find.ensures) inv.2)

pub returns : goal.returns
returns c =
    let blocks = array c.args.lineage.now.table.nodes c.args.node.number in
    let f : ℕ → List ℕ = λ index. kept_digest (map.get blocks index) in
    let given = c.into_iter-index-iterator.ensures.into_iter_gives ∙ c.from-index-items.ensures.values ∙ all-blocks (map.entries (full c.args.put.now)) in
    let inv = c.loop-index.invariant in
    c.finalize.ensures inv.0 inv.1
    ∙ ap sha256 (sym (append-nil inv.0)
    ∙ ap (λ rest. inv.0 ++ flat_map f (keys_of rest)) (sym c.in-None.ensures.steps.0)
    ∙ inv.2
    ∙ ap (λ es. flat_map f (keys_of es)) given)
    ∙ linear-blocks blocks (map.keys (full c.args.put.now))
