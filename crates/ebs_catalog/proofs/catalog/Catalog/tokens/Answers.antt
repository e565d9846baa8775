use Rattle.std.proofs.Common.{ap, ◌∙◌}
use Rattle.std.specs.List.{filter}
use Rattle.std.specs.Ordering.{is_le}
use Rattle.std.specs.FinMap.{entries}
use Rattle.ebs_tables.specs.Full.{held}
use Rattle.ebs_model.specs.Keys.{token_cmp}
use Rattle.ebs_catalog.specs.Held.{Held, rows_in}
use Rattle.ebs_catalog.proofs.Tokens.{first_token}
use Rattle.ebs_catalog.proofs.AllRows.{all-kept, least-token}
use Rattle.ebs_catalog.proofs.catalog.Catalog.tokens.Goals as goal

pub returns : goal.returns
returns c =
    let m = held token_cmp c.self.inside.tokens in
    let first = c.first_token.ensures ∙ ap first_token c.new.ensures in
    c.from.ensures.values ∙ (λ i. filter (λ e. is_le (token_cmp (first i) e.0)) (entries m)) ∙ all-kept _ (λ e. least-token e.0) (entries m) ∙ ap (λ (h : Held). entries (rows_in h).tokens) c.self.view_is
