use Rattle.std.proofs.Common.{is_some, sym, ap, ◌∙◌}
use Rattle.ebs_lineage.specs.Kin.{with_place}
use Rattle.ebs_lineage.proofs.Relinking.{relinked-is, relinked-none}
use Rattle.ebs_lineage.proofs.kin.Kin.set_place.Goals as goal

pub returns-in_default-clause-links : goal.returns-in_default-clause-links
returns-in_default-clause-links c = sym (relinked-none c.args.self.now.links c.args.number (with_place c.args.place) (sym (c.in_default.ensures ∙ c.get.ensures)))

pub set-requires : goal.set-requires
set-requires c = ap is_some (sym (c.in-Some.ensures ∙ c.get.ensures))

pub returns-clause-links : goal.returns-clause-links
returns-clause-links c = c.set.ensures.links ∙ sym (relinked-is c.args.self.now.links c.args.number (with_place c.args.place) c.in-Some.link (sym (c.in-Some.ensures ∙ c.get.ensures)))
