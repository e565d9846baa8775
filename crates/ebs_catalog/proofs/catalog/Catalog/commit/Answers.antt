use Rattle.std.proofs.Common.{◌≤◌, sym, ap, subst, ◌∙◌}
use Rattle.ebs_catalog.specs.Held.{Held, stale}
use Rattle.ebs_catalog.proofs.catalog.Catalog.commit.Goals as goal

pub reach-requires : goal.reach-requires
reach-requires c = subst (λ n. n ≤ c.args.change.at.second) (sym c.commit_change.ensures.latest) c.requires.later

pub returns-clause-stale : goal.returns-clause-stale
returns-clause-stale c = ap (λ (h : Held). stale h c.args.change.at.second) c.reach.ensures ∙ c.commit_change.ensures.stale
