use Rattle.std.proofs.Common.{ap, ◌∙◌}
use Rattle.std.specs.List.{filter}
use Rattle.std.specs.Map.{lookup}
use Rattle.std.specs.Ordering.{is_le, is_gt}
use Rattle.std.specs.FinMap.{entries, get}
use Rattle.ebs_tables.specs.Seen.{is_within}
use Rattle.ebs_tables.specs.Full.{full, held}
use Rattle.ebs_model.specs.Keys.{token_cmp}
use Rattle.ebs_catalog.specs.Held.{Held}
use Rattle.ebs_catalog.specs.Tokens.{is_token}
use Rattle.ebs_catalog.proofs.Tokens.{first_token, token, in_order, token-until, token-from}
use Rattle.ebs_catalog.proofs.catalog.Catalog.tokens_from.Goals as goal

pub returns-in-Some : goal.returns-in-Some
returns-in-Some c = λ text.
    let account = c.args.account in
    let m = held token_cmp c.self.inside.tokens in
    let next = c.first_token.ensures ∙ ap first_token c.in-Some.ensures in
    ap (lookup (is_token account text)) (c.until.ensures.values ∙ (λ i. filter (λ e. is_within token_cmp (c.first_token-start.ensures i) (next i) e.0) (entries m)))
    ∙ token-until account m text
    ∙ ap (λ (h : Held). get (full h.tokens) (token account text)) c.self.view_is

pub returns : goal.returns
returns c = λ text.
    let account = c.args.account in
    let m = held token_cmp c.self.inside.tokens in
    ap (lookup (is_token account text)) (c.from.ensures.values ∙ (λ i. filter (λ e. is_le (token_cmp (c.first_token-start.ensures i) e.0)) (entries m)))
    ∙ token-from account m text
    ∙ ap (λ (h : Held). get (full h.tokens) (token account text)) c.self.view_is

pub until-requires : goal.until-requires
until-requires c =
    (λ i. is_gt (token_cmp (c.first_token-start.ensures i) (c.first_token.ensures i)))
    ∙ ap (λ n. is_gt (token_cmp (first_token c.args.account) (first_token n))) c.in-Some.ensures
    ∙ in_order c.args.account
