use Rattle.std.proofs.Common.{◌≡◌, Option, sym, subst}
use Rattle.std.specs.Ordering.{nat_cmp}
use Rattle.std.specs.FinMap.{FinMap, contains_key}
use Rattle.ebs_tables.specs.Full.{full}
use Rattle.ebs_model.specs.Keys.{snap_cmp}
use Rattle.ebs_model.specs.inner.Orders.{snaps_total, exact_snaps}
use Rattle.ebs_catalog.specs.declared.rows.KeptRow.{KeptRow}
use Rattle.ebs_catalog.proofs.RowsKept.{released-free}
use Rattle.std.specs.Cmp.{nat_cmp_total}
use Rattle.std.specs.FinMap.{nat_cmp-IsAntisymmetric}
use Rattle.ebs_catalog.specs.declared.rows.AccountRow.{AccountRow}
use Rattle.ebs_catalog.proofs.catalog.Catalog.release_start.Goals as goal

pub returns-clause-free : goal.returns-clause-free
returns-clause-free c = (
  subst (λ (m : FinMap snap_cmp (Option KeptRow)). contains_key m c.args.key.now ≡ contains_key (full m) c.args.key.now) (sym c.release.ensures.slots) (released-free snaps_total exact_snaps _ c.args.key.now),
  (
    subst (λ (m : FinMap nat_cmp (Option AccountRow)). contains_key m c.args.key.now.account ≡ contains_key (full m) c.args.key.now.account) (sym c.release-2.ensures.slots) (released-free nat_cmp_total nat_cmp-IsAntisymmetric _ c.args.key.now.account),
    subst (λ (m : FinMap snap_cmp (Option (Unit {0}))). contains_key m c.args.key.now ≡ contains_key (full m) c.args.key.now) (sym c.release-3.ensures.slots) (released-free snaps_total exact_snaps _ c.args.key.now),
  ),
)
