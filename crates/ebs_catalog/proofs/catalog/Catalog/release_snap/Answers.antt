use Rattle.std.proofs.Common.{◌≡◌, Option, Some, sym, subst}
use Rattle.std.specs.Ordering.{nat_cmp}
use Rattle.std.specs.Cmp.{nat_cmp_total}
use Rattle.std.specs.FinMap.{nat_cmp-IsAntisymmetric, FinMap, contains_key}
use Rattle.ebs_tables.specs.Full.{full, slots_of}
use Rattle.ebs_model.specs.Keys.{snap_cmp}
use Rattle.ebs_model.specs.inner.Orders.{snaps_total, exact_snaps}
use Rattle.ebs_catalog.specs.declared.rows.KeptRow.{KeptRow}
use Rattle.ebs_catalog.specs.declared.rows.AccountRow.{AccountRow}
use Rattle.ebs_catalog.specs.Held.{Held, FreeSnap}
use Rattle.ebs_catalog.proofs.RowsKept.{released-free, released-others}
use Rattle.ebs_catalog.proofs.catalog.Catalog.release_snap.Goals as goal

pub returns-clause-free : goal.returns-clause-free
returns-clause-free c = (
  subst (λ (m : FinMap snap_cmp (Option KeptRow)). contains_key m c.args.key.now ≡ contains_key (full m) c.args.key.now) (sym c.release.ensures.slots) (released-free snaps_total exact_snaps _ c.args.key.now),
  subst (λ (m : FinMap nat_cmp (Option AccountRow)). contains_key m c.args.key.now.account ≡ contains_key (full m) c.args.key.now.account) (sym c.release-2.ensures.slots) (released-free nat_cmp_total nat_cmp-IsAntisymmetric _ c.args.key.now.account),
)

pub returns-clause-others : goal.returns-clause-others
returns-clause-others c = λ other h.
    let before = subst (λ (x : Held). FreeSnap x (Some other)) (sym c.self.view_is) h in (
      subst (λ (m : FinMap snap_cmp (Option KeptRow)). contains_key m other ≡ contains_key (full m) other) (sym c.release.ensures.slots)
          (released-others snaps_total exact_snaps (slots_of snap_cmp c.self.inside.snaps) c.args.key.now other before.0),
      subst (λ (m : FinMap nat_cmp (Option AccountRow)). contains_key m other.account ≡ contains_key (full m) other.account) (sym c.release-2.ensures.slots)
          (released-others nat_cmp_total nat_cmp-IsAntisymmetric (slots_of nat_cmp c.self.inside.owns) c.args.key.now.account other.account before.1),
    )
