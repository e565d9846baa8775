use Rattle.std.proofs.Common.{◌++◌, ap, ◌∙◌}
use Rattle.ebs_model.specs.Retention.{is_ended, is_released}
use Rattle.ebs_lifecycle.specs.Retention.{keys_of}
use Rattle.ebs_catalog.specs.Runs.{snaps_of}
use Rattle.ebs_catalog.proofs.Picked.{moved}
use Rattle.ebs_catalog.proofs.runs.add_picked.Goals as goal

pub returns-clause-ended : goal.returns-clause-ended
returns-clause-ended c =
    let made = c.args.made.now in
    let old = c.args.ended.now.items in
    moved old (keys_of (is_ended c.args.policy.now.retain made c.args.at.second) made) c.add_keys.new.keys.items c.in_ok-picked.picked.ended c.in_ok-picked.ensures.ended (c.in_ok-add_keys.ensures ∙ ap (λ ids. old ++ snaps_of ids) c.as_slice.ensures)

pub returns-clause-released : goal.returns-clause-released
returns-clause-released c =
    let made = c.args.made.now in
    let old = c.args.released.now.items in
    moved old (keys_of (is_released c.args.policy.now.retain made c.args.at.second) made) c.add_keys-2.new.keys.items c.in_ok-picked.picked.released c.in_ok-picked.ensures.released (c.in_ok-add_keys-2.ensures ∙ ap (λ ids. old ++ snaps_of ids) c.as_slice-2.ensures)
