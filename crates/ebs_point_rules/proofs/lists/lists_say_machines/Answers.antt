use Rattle.ebs_point_rules.proofs.Entries.{lists-say, lists-ascend}
use Rattle.ebs_point_rules.proofs.lists.lists_say_machines.Goals as goal

pub returns-clause-says : goal.returns-clause-says
returns-clause-says c = lists-say

pub returns-clause-ascend : goal.returns-clause-ascend
returns-clause-ascend c = lists-ascend
