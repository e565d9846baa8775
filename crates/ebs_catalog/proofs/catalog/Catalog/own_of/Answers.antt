use Rattle.std.proofs.Common.{Option, sym, ap, ◌∙◌}
use Rattle.std.specs.Prelude.{unwrap_or}
use Rattle.std.specs.Option.{option_map}
use Rattle.std.specs.FinMap.{get}
use Rattle.ebs_tables.specs.Full.{full}
use Rattle.ebs_catalog.specs.Held.{Held, own_in}
use Rattle.std.specs.Cmp.{nat_cmp_total}
use Rattle.ebs_model.specs.declared.rows.Own.{Own}
use Rattle.ebs_model.specs.Rows.{no_own}
use Rattle.ebs_model.proofs.Values.{get-map_values}
use Rattle.ebs_catalog.proofs.catalog.Catalog.own_of.Goals as goal

pub returns-in-Some : goal.returns-in-Some
returns-in-Some c =
    let at = ap (λ (h : Held). get (full h.owns) c.args.account) (sym c.self.view_is) ∙ sym c.in-Some.ensures in
    sym (ap (λ (o : Option Own). unwrap_or o no_own) (get-map_values nat_cmp_total own_in (full c.args.self.now.owns) c.args.account ∙ ap (option_map own_in) at))

pub returns-in-None : goal.returns-in-None
returns-in-None c =
    let at = ap (λ (h : Held). get (full h.owns) c.args.account) (sym c.self.view_is) ∙ sym c.in-None.ensures in
    c.no_own.ensures ∙ sym (ap (λ (o : Option Own). unwrap_or o no_own) (get-map_values nat_cmp_total own_in (full c.args.self.now.owns) c.args.account ∙ ap (option_map own_in) at))
