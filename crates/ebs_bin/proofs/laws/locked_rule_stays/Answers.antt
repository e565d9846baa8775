use Rattle.std.proofs.Common.{sym, subst}
use Rattle.ebs_model.specs.Rules.{no_rules}
use Rattle.ebs_bin.specs.BinLaws.{after}
use Rattle.ebs_bin.proofs.Stays.{IsShut, all_stay, numbered_after, numbered_none}
use Rattle.ebs_bin.proofs.laws.locked_rule_stays.Goals as goal

pub returns : goal.returns
returns c account first before gs key rule delay e l h =
    let start = no_rules first in
    let s = all_stay account gs (after account start before) key rule (numbered_after account before start (numbered_none first)) e (subst IsShut (sym l) tt) h in
    (s.kept, s.is, s.alike.days, s.alike.tags, s.alike.description)
