use Rattle.std.proofs.Common.{sym, ap, ◌∙◌}
use Rattle.std.specs.FinMap.{get}
use Rattle.ebs_tables.specs.Full.{full}
use Rattle.ebs_catalog.specs.Held.{Held}
use Rattle.ebs_catalog.specs.Sound.{rows_at}
use Rattle.ebs_catalog.proofs.catalog.Catalog.rows_of.Goals as goal

pub returns-in-Some : goal.returns-in-Some
returns-in-Some c = sym (ap rows_at (ap (λ (h : Held). get (full h.owns) c.args.account) (sym c.self.view_is) ∙ sym c.in-Some.ensures))

pub returns-in-None : goal.returns-in-None
returns-in-None c = sym (ap rows_at (ap (λ (h : Held). get (full h.owns) c.args.account) (sym c.self.view_is) ∙ sym c.in-None.ensures))
