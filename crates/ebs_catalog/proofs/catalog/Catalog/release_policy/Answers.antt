use Rattle.std.proofs.Common.{◌≡◌, Option, sym, subst}
use Rattle.std.specs.Ordering.{nat_cmp}
use Rattle.std.specs.Cmp.{nat_cmp_total}
use Rattle.std.specs.FinMap.{nat_cmp-IsAntisymmetric, FinMap, contains_key}
use Rattle.ebs_tables.specs.Full.{full}
use Rattle.ebs_catalog.specs.declared.rows.AccountRow.{AccountRow}
use Rattle.ebs_catalog.proofs.RowsKept.{released-free}
use Rattle.ebs_catalog.proofs.catalog.Catalog.release_policy.Goals as goal

pub returns-clause-free : goal.returns-clause-free
returns-clause-free c = (
  c.release.ensures.free,
  subst (λ (m : FinMap nat_cmp (Option AccountRow)). contains_key m c.args.key.now.account ≡ contains_key (full m) c.args.key.now.account) (sym c.release-2.ensures.slots) (released-free nat_cmp_total nat_cmp-IsAntisymmetric _ c.args.key.now.account),
)
