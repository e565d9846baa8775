use Rattle.std.proofs.Common.{Some, not, sym, ap, ◌∙◌}
use Rattle.ebs_tables.specs.Full.{full}
use Rattle.ebs_catalog.specs.Held.{Held}
use Rattle.ebs_catalog.specs.Starts.{is_new}
use Rattle.ebs_catalog.proofs.catalog.Catalog.is_new.Goals as goal

pub returns-in-Some : goal.returns-in-Some
returns-in-Some c =
    ap not c.contains.ensures
    ∙ ap (λ (h : Held). is_new (full h.tokens) (Some c.in-Some.token)) c.self.view_is
    ∙ ap (is_new (full c.args.self.now.tokens)) (sym c.in-Some.is)
