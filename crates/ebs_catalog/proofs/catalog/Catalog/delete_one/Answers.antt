use Rattle.std.proofs.Common.{not, sym, ap, ◌∙◌}
use Rattle.std.specs.List.{filter}
use Rattle.ebs_model.specs.declared.keys.AnyKey.{AnyKey}
use Rattle.ebs_catalog.specs.Held.{stale}
use Rattle.ebs_catalog.specs.PolicyCalls.{is_id}
use Rattle.ebs_catalog.proofs.Commits.{filter-all}
use Rattle.ebs_catalog.proofs.catalog.Catalog.delete_one.Goals as goal

pub returns-in-Vol-clause-stale : goal.returns-in-Vol-clause-stale
returns-in-Vol-clause-stale c = let before = stale c.args.self.now c.args.at.second in sym (filter-all before) ∙ ap (λ (id : AnyKey). filter (λ other. not (is_id other id)) before) (sym c.in-Vol.is)

pub returns-in-Rule-clause-stale : goal.returns-in-Rule-clause-stale
returns-in-Rule-clause-stale c = let before = stale c.args.self.now c.args.at.second in sym (filter-all before) ∙ ap (λ (id : AnyKey). filter (λ other. not (is_id other id)) before) (sym c.in-Rule.is)

pub returns-in-Policy-clause-stale : goal.returns-in-Policy-clause-stale
returns-in-Policy-clause-stale c = let before = stale c.args.self.now c.args.at.second in sym (filter-all before) ∙ ap (λ (id : AnyKey). filter (λ other. not (is_id other id)) before) (sym c.in-Policy.is)
