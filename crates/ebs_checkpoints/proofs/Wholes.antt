-- A checkpoint that is all of the bytes.
use Rattle.std.proofs.Common.{◌≡◌, ℕ, suc, arith, Bool, false, eqb, List, [], ◌∷◌, ◌++◌, length, Err, sym, subst, ◌∙◌}
use Rattle.std.proofs.lemmas.Bool.Decides.{nat_tests}
use Rattle.std.proofs.lemmas.List.{append-nil}
use Rattle.ebs_records.specs.declared.codec.Unread.TheVariants.{Malformed}
use Rattle.ebs_records.specs.declared.records.Read.TheVariants.{NoValue}
use Rattle.ebs_records.specs.inner.Reading.{Reads}
use Rattle.ebs_records.specs.inner.Whole.{Spells}
use Rattle.ebs_checkpoints.specs.declared.checkpoint.Checkpoint.{Checkpoint}
use Rattle.ebs_checkpoints.specs.Checkpoints.{HasSpelling, spelled}
use Rattle.ebs_checkpoints.specs.inner.Checkpoints.{apart_checkpoint}
use Rattle.ebs_checkpoints.specs.inner.Whole.{judged}

pub read_whole : (bytes rest : List ℕ) (v : Checkpoint) → HasSpelling v → bytes ≡ spelled v ++ rest → Spells HasSpelling spelled bytes (judged v (eqb (length rest) 0))
read_whole bytes [] v fits is = (fits, is ∙ append-nil (spelled v))
read_whole bytes (b ∷ rest) v fits is = subst (λ (long : Bool). Spells HasSpelling spelled bytes (judged v long)) (sym (more (length rest)))
    (λ w f e. cons_nil (apart_checkpoint v w (b ∷ rest) [] fits f (sym is ∙ e ∙ sym (append-nil (spelled w)))).1)
  where
    cons_nil : b ∷ rest ≡ [] → ⊥
    cons_nil e = cc

    more : (n : ℕ) → eqb (suc n) 0 ≡ false
    more n = grind (arith, nat_tests)

pub read_none : (bytes new : List ℕ) → Reads HasSpelling spelled bytes new (Err Malformed) → Spells HasSpelling spelled bytes NoValue
read_none bytes new h v f e = h v [] f (e ∙ sym (append-nil (spelled v)))
