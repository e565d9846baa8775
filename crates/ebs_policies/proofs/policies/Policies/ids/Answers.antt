use Rattle.std.proofs.Common.{◌≡◌, map, Result, Ok, Err, IfOk, List, ap, ◌∙◌}
use Rattle.ebs_model.specs.declared.keys.AnyKey.{AnyKey}
use Rattle.ebs_model.specs.declared.keys.AnyKey.TheVariants as any
use Rattle.ebs_model.specs.declared.keys.PolicyKey.{PolicyKey}
use Rattle.ebs_model.specs.declared.policy.Policy.{Policy}
use Rattle.ebs_policies.proofs.policies.Policies.ids.Goals as goal

along : {E : Type 0} (r : Result (List AnyKey) E) (xs ys : List AnyKey) → xs ≡ ys → IfOk r (λ ids. ids ≡ xs) → IfOk r (λ ids. ids ≡ ys)
along (Ok ids) xs ys is h = h ∙ is
along (Err e) xs ys is h = tt

pub returns : goal.returns
returns c = along c.ids_of.result _ _ (ap (map (λ (e : PolicyKey × Policy). any.Policy e.0)) c.all.ensures) c.ids_of.ensures
