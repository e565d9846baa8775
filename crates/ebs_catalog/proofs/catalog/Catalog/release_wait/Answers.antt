use Rattle.std.proofs.Common.{◌≡◌, Option, sym, subst}
use Rattle.std.specs.FinMap.{FinMap, contains_key}
use Rattle.ebs_tables.specs.Full.{full, slots_of}
use Rattle.ebs_model.specs.Keys.{snap_cmp}
use Rattle.ebs_model.specs.inner.Orders.{snaps_total, exact_snaps}
use Rattle.ebs_catalog.specs.Held.{Held}
use Rattle.ebs_catalog.proofs.RowsKept.{released-free, released-others}
use Rattle.ebs_catalog.proofs.catalog.Catalog.release_wait.Goals as goal

pub returns-clause-free : goal.returns-clause-free
returns-clause-free c = subst (λ (m : FinMap snap_cmp (Option (Unit {0}))). contains_key m c.args.key.now ≡ contains_key (full m) c.args.key.now) (sym c.release.ensures.slots) (released-free snaps_total exact_snaps _ c.args.key.now)

pub returns-clause-others : goal.returns-clause-others
returns-clause-others c = λ other h.
    let before = subst (λ (x : Held). contains_key x.waits other ≡ contains_key (full x.waits) other) (sym c.self.view_is) h in
    subst (λ (m : FinMap snap_cmp (Option (Unit {0}))). contains_key m other ≡ contains_key (full m) other) (sym c.release.ensures.slots)
    (released-others snaps_total exact_snaps (slots_of snap_cmp c.self.inside.waits) c.args.key.now other before)
