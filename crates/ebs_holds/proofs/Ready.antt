-- What is ready stays so.
use Rattle.std.proofs.Common.{◌≡◌, List, [], ◌∷◌, ◌∙◌}
use Rattle.ebs_model.specs.declared.keys.AnyKey.{AnyKey}
use Rattle.ebs_model.specs.declared.keys.AnyKey.TheVariants.{Snap, Vol, Rule, Policy}
use Rattle.ebs_holds.specs.declared.holder.Holder.{Holder}
use Rattle.ebs_holds.specs.Holders.{of_snap}
use Rattle.ebs_holds.specs.Holds.{Holding, is_ready}
use Rattle.ebs_holds.specs.Changes.{IsReadyOne, AreReady}

module _ (h k : Holding) (same : (q : Holder) → is_ready k q ≡ is_ready h q) where
  one_ready : (id : AnyKey) → IsReadyOne h id → IsReadyOne k id
  one_ready (Snap key) r = same (of_snap key) ∙ r
  one_ready (Vol key) r = tt
  one_ready (Rule key) r = tt
  one_ready (Policy key) r = tt

  pub still_ready : (ids : List AnyKey) → AreReady h ids → AreReady k ids
  still_ready [] r = tt
  still_ready (id ∷ ids) r = (one_ready id r.0, still_ready ids r.1)
