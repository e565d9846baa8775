use Rattle.std.proofs.Common.{◌≡◌}
use Rattle.ebs_tables.specs.Seen.{seen}
use Rattle.ebs_model.specs.declared.keys.VolKey.{VolKey}
use Rattle.ebs_model.specs.Keys.{vol_cmp}
use Rattle.ebs_catalog.specs.Runs.{group, added_rows}
use Rattle.ebs_catalog.proofs.runs.add_rows.Given as goal

-- the groups so far, with the rows that are still to come, have all
abbrev pub invariant-loop-key : goal.invariant-loop-key
invariant-loop-key l =
    (v : VolKey) → added_rows l.policy l.from l.until l.at.second v l.key-iterator (group (seen vol_cmp l.groups) v) ≡ added_rows l.policy l.from l.until l.at.second v l.initial.key-iterator (group (seen vol_cmp l.initial.groups) v)
