use Rattle.std.proofs.Common.{◌∙◌}
use Rattle.ebs_row_rules.proofs.Digests.{one_digest}
use Rattle.ebs_row_rules.proofs.stamps.have_one_digest.Goals as goal

pub returns : goal.returns
returns c = c.have_digests.ensures ∙ one_digest c.in_ok-found.found c.args.blocks.now c.in_ok-found.ensures
