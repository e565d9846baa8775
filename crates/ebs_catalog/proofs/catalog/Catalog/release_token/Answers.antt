use Rattle.std.proofs.Common.{◌≡◌, Option, sym, subst}
use Rattle.std.specs.FinMap.{FinMap, contains_key}
use Rattle.ebs_tables.specs.Full.{full, slots_of}
use Rattle.ebs_model.specs.declared.rows.TokenRow.{TokenRow}
use Rattle.ebs_model.specs.Keys.{token_cmp}
use Rattle.ebs_model.specs.inner.Orders.{tokens_total, exact_tokens}
use Rattle.ebs_catalog.specs.Held.{FreeToken}
use Rattle.ebs_catalog.proofs.RowsKept.{released-free}
use Rattle.ebs_catalog.proofs.catalog.Catalog.release_token.Goals as goal

pub returns-in-Some-clause-free : goal.returns-in-Some-clause-free
returns-in-Some-clause-free c =
    let key = c.in-Some.token.key in
    subst (FreeToken (slots_of token_cmp c.release.new.self)) (sym c.in-Some.is)
    (subst (λ (m : FinMap token_cmp (Option TokenRow)). contains_key m key ≡ contains_key (full m) key) (sym c.release.ensures.slots) (released-free tokens_total exact_tokens _ key))
