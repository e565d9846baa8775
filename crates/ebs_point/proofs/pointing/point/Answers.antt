use Rattle.std.proofs.Common.{sym, subst}
use Rattle.ebs_holds.specs.Holds.{Holding, nodes_in}
use Rattle.ebs_catalog.specs.Held.{Held, rows_in}
use Rattle.ebs_collect.specs.Slices.{IsCounted}
use Rattle.ebs_kept.specs.inner.Parts.{Shows}
use Rattle.ebs_kept.specs.inner.Nodes.{HaveNodes}
use Rattle.ebs_point.proofs.pointing.point.Goals as goal

pub point_of-requires : goal.point_of-requires
point_of-requires c =
    let kept = c.args.kept.now in
    record {
      shows = subst (λ (p : Held × Holding). Shows kept.machine (rows_in p.0) p.1) (λ i. (sym c.catalog-catalog.ensures i, sym c.holdings-holdings.ensures i)) c.shows_parts.ensures;
      held = c.keeps_holders.ensures;
      later = c.requires.later;
      early = c.requires.early;
      lawful = c.requires.lawful;
      arrays = c.requires.arrays;
      stamps = c.requires.stamps;
      placed = c.keeps_places.ensures;
      nodes = subst (λ (p : Held × Holding). HaveNodes c.args.at.second (rows_in p.0) p.1) (λ i. (sym c.catalog-catalog.ensures i, sym c.holdings-holdings.ensures i)) c.requires.nodes;
      counted = subst (λ (h : Holding). IsCounted c.args.slots.now (nodes_in h)) (sym c.holdings-holdings.ensures) c.requires.counted;
      area = c.requires.area;
    }
