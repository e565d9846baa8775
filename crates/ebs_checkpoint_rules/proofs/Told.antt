-- What is told of bytes whose checkpoint was judged.
use Rattle.std.proofs.Common.{◌≡◌, ℕ, inl, inr, List, [], ◌++◌, refl, sym, ap, subst, ◌∙◌}
use Rattle.ebs_records.specs.declared.records.Read.{Read}
use Rattle.ebs_records.specs.declared.records.Read.TheVariants.{Value, NoValue, Memory}
use Rattle.ebs_records.specs.inner.Whole.{Spells}
use Rattle.ebs_checkpoints.specs.declared.checkpoint.Checkpoint.{Checkpoint}
use Rattle.ebs_checkpoints.specs.Checkpoints.{HasSpelling, spelled}
use Rattle.ebs_checkpoints.specs.inner.Checkpoints.{apart_checkpoint}
use Rattle.ebs_node_rules.specs.inner.Nodes.{EachBearsName}
use Rattle.ebs_checkpoint_rules.specs.Rules.{HasRules, IsCheckpoint}
use Rattle.ebs_checkpoint_rules.specs.inner.Rules.{IsJudged, IfValue, WrittenIsRead}

same : (v w : Checkpoint) → HasSpelling v → HasSpelling w → spelled v ≡ spelled w → v ≡ w
same v w f g e = (apart_checkpoint v w [] [] f g (ap (λ (bytes : List ℕ). bytes ++ []) e)).0

pub told : (bytes : List ℕ) (point : Checkpoint) (read : Read Checkpoint) → HasSpelling point → bytes ≡ spelled point → IsJudged point read → Spells IsCheckpoint spelled bytes read
told bytes point (Value v) fits is judged =
    (record { spelling = subst HasSpelling (sym judged.0) fits; rules = subst HasRules (sym judged.0) judged.1 }, is ∙ ap spelled (sym judged.0))
told bytes point NoValue fits is judged = λ v of e. judged (subst HasRules (same v point of.spelling fits (sym e ∙ is)) of.rules)
told bytes point Memory fits is judged = tt

pub bears : (point : Checkpoint) (read : Read Checkpoint) → IsJudged point read → IfValue read EachBearsName
bears point (Value v) judged = subst EachBearsName (sym judged.0) judged.2
bears point NoValue judged = tt
bears point Memory judged = tt

pub back : WrittenIsRead
back point (Value v) is told = inr (ap Value (same v point told.0.spelling is.spelling (sym told.1)))
back point NoValue is told = absurd (told point is refl)
back point Memory is told = inl refl
