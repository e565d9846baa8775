-- The paths fit one router.
use Rattle.std.proofs.Common.{◌≡◌, true, [], refl, sym, subst, ap, ◌∙◌}
use Rattle.std.specs.Prelude.{fold}
use Rattle.matchit.proofs.OnLiterals.{matchit_on_literals}
use Rattle.ebs_rest.specs.CallOf.{table, Routed, with_path, rows}
use Rattle.ebs_rest.specs.inner.Router.{all_fit}

paths_fit : all_fit [] table ≡ true
unfolding matchit_on_literals
paths_fit = refl

pub fits_empty : (old : Routed) → old ≡ [] → all_fit old table ≡ true
fits_empty old e = subst (λ (r : Routed). all_fit r table ≡ true) (sym e) paths_fit

pub built_rows : (old new : Routed) → old ≡ [] → new ≡ fold with_path old table → new ≡ rows
unfolding rows
built_rows old new e h = h ∙ ap (λ (r : Routed). fold with_path r table) e
