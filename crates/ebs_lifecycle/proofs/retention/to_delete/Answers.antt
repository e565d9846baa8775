use Rattle.std.proofs.Common.{◌∙◌, ap, subst, not, ◌&&◌, List}
use Rattle.ebs_model.specs.declared.keys.SnapKey.{SnapKey}
use Rattle.ebs_model.specs.declared.policy.Made.{Made}
use Rattle.ebs_model.specs.Retention.{is_picked}
use Rattle.ebs_lifecycle.specs.Retention.{AreInOrder, keys_of}
use Rattle.ebs_lifecycle.proofs.Oldest.{keys_twice}
use Rattle.ebs_lifecycle.proofs.OneOrder.{in_there}
use Rattle.ebs_lifecycle.proofs.retention.to_delete.Goals as goal

pub returns-clause-ended : goal.returns-clause-ended
returns-clause-ended c =
    let picks = is_picked c.args.policy.now.retain c.args.made.now c.args.now.second in
    let goes = λ (m : Made). not m.locked && not m.archived in
    let keys = c.in_ok-ended.ensures ∙ ap (λ (ms : List Made). keys_of goes ms) c.as_slice.ensures.value ∙ keys_twice picks goes c.in_ok-picked.picked.items c.args.made.now c.in_ok-picked.ensures in
    subst (λ (ks : List SnapKey). AreInOrder ks c.in_ok-in_order.field-0) keys c.in_ok-in_order.ensures

pub returns-clause-released : goal.returns-clause-released
returns-clause-released c =
    let picks = is_picked c.args.policy.now.retain c.args.made.now c.args.now.second in
    let goes = λ (m : Made). m.locked in
    let keys = c.in_ok-released.ensures ∙ ap (λ (ms : List Made). keys_of goes ms) c.as_slice-2.ensures.value ∙ keys_twice picks goes c.in_ok-picked.picked.items c.args.made.now c.in_ok-picked.ensures in
    subst (λ (ks : List SnapKey). AreInOrder ks c.in_ok-in_order-2.field-0) keys c.in_ok-in_order-2.ensures

pub returns-clause-ended_there : goal.returns-clause-ended_there
returns-clause-ended_there c = in_there _ c.args.made.now _ (returns-clause-ended c)

pub returns-clause-released_there : goal.returns-clause-released_there
returns-clause-released_there c = in_there _ c.args.made.now _ (returns-clause-released c)
