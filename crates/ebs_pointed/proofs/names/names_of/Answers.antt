use Rattle.std.proofs.Common.{ap, ◌∙◌}
use Rattle.std.specs.FinMap.{contains_key}
use Rattle.ebs_node_rules.specs.Nodes.{names}
use Rattle.ebs_node_rules.specs.inner.Lookups.{set_of}
use Rattle.ebs_node_rules.proofs.Marks.{marks}
use Rattle.ebs_pointed.proofs.names.names_of.Goals as goal

pub returns : goal.returns
returns c = λ q. ap (λ s. contains_key s q) (c.in_ok-named.ensures ∙ ap set_of (c.as_slice.ensures.value ∙ c.in_ok-numbers.ensures)) ∙ marks (names c.args.snapshots.now c.args.volumes.now) q
