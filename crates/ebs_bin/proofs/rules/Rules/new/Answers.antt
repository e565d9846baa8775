use Rattle.std.proofs.Common.{ap, ◌∙◌}
use Rattle.std.specs.Cmp.{nat_cmp_total}
use Rattle.std.specs.FinMap.{nat_cmp-IsAntisymmetric}
use Rattle.ebs_tables.specs.Full.{full}
use Rattle.ebs_tables.proofs.FullLaws.{full-empty}
use Rattle.ebs_bin.proofs.rules.Rules.new.Goals as goal

pub returns-clause-rules : goal.returns-clause-rules
returns-clause-rules c =
    let none = ap full c.new.ensures ∙ full-empty nat_cmp_total nat_cmp-IsAntisymmetric in
    λ i. record { rules = none i; next = c.args.first }
