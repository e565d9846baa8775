-- The policies of a store as ids.
use Rattle.std.proofs.Common.{◌≡◌, List, [], ◌∷◌, map, refl, ap}
use Rattle.ebs_model.specs.declared.keys.AnyKey.{AnyKey}
use Rattle.ebs_model.specs.declared.keys.AnyKey.TheVariants as any
use Rattle.ebs_model.specs.declared.keys.PolicyKey.{PolicyKey}
use Rattle.ebs_model.specs.declared.policy.Policy.{Policy}

pub listed : (entries : List (PolicyKey × Policy)) → map (λ (e : PolicyKey × Policy). any.Policy e.0) entries ≡ map any.Policy (map (λ (e : PolicyKey × Policy). e.0) entries)
listed [] = refl
listed (e ∷ entries) = ap (λ (ids : List AnyKey). any.Policy e.0 ∷ ids) (listed entries)
