use Rattle.std.proofs.Common.{cond, sym, ap, ◌∙◌}
use Rattle.std.specs.Ordering.{nat_cmp}
use Rattle.std.specs.FinMap.{len, empty, len-empty}
use Rattle.ebs_tables.specs.Full.{full}
use Rattle.ebs_model.specs.Time.{is_failed}
use Rattle.ebs_model.specs.declared.rows.RowStatus.{RowStatus}
use Rattle.ebs_catalog.proofs.decides.put_count.Goals as goal

pub returns-in-Failed : goal.returns-in-Failed
returns-in-Failed c = sym (ap (λ (s : RowStatus). len (cond (is_failed s) empty (full c.args.kept.now.put))) (sym c.status_at.ensures ∙ c.in-Failed.is) ∙ len-empty nat_cmp (Unit {0}))
