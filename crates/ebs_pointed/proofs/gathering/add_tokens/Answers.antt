use Rattle.std.proofs.Common.{[], ◌∷◌, ◌++◌, refl, sym, ap, subst, ◌∙◌}
use Rattle.std.specs.List.{AllByRecursion}
use Rattle.ebs_model.specs.declared.keys.TokenKey.{TokenKey}
use Rattle.ebs_model.specs.declared.rows.TokenRow.{TokenRow}
use Rattle.ebs_model.specs.inner.Orders.{tokens_total}
use Rattle.ebs_lawful.proofs.Maps.{each-entry}
use Rattle.ebs_catalog.specs.Held.{rows_in}
use Rattle.ebs_point_rules.specs.Values.{HasTokenValues}
use Rattle.ebs_pointed.specs.Accounts.{IsFirst, of_token, with_token}
use Rattle.ebs_pointed.proofs.Changing.{one_gathered, row_kept}
use Rattle.ebs_pointed.proofs.Listing.{all_more}
use Rattle.ebs_pointed.proofs.gathering.add_tokens.Goals as goal

pub loop-key-init : goal.loop-key-init
loop-key-init c = record {
  rows = refl;
  first = subst (AllByRecursion (λ (e : TokenKey × TokenRow). IsFirst e.1.first)) (sym (c.into_iter-key-iterator.ensures.into_iter_gives ∙ c.tokens-key-items.ensures))
      (each-entry tokens_total (rows_in c.args.catalog.now).tokens (λ e. IsFirst e.1.first) (λ e found. c.requires e.0 e.1 found));
  values = λ have. have;
}

pub loop-key-preserved-in_ok-insert : goal.loop-key-preserved-in_ok-insert
loop-key-preserved-in_ok-insert c =
    let e : TokenKey × TokenRow = (c.in-Some.key.now, c.in-Some.used.now) in
    let account = c.in-Some.key.now.account in
    let row = c.take-row.result in
    record {
      rows = one_gathered of_token with_token c.args.found.now c.loop-key.found c.take-row.new.found c.insert.new.self c.number.result e c.loop-key.key-iterator c.next.new.self c.into_iter-key-iterator.result
          c.in-Some.ensures.steps c.number.ensures.value c.take-row.ensures.rest c.in_ok-insert.ensures.ok
          (ap (λ tokens. record row { tokens = tokens }) (c.in_ok-push.ensures.ok ∙ ap (λ t. row.tokens ++ t ∷ []) c.in_ok-token.ensures.point) ∙ ap (λ r. with_token r e) c.take-row.ensures.row) c.loop-key.invariant.rows;
      first = (subst (AllByRecursion (λ (e : TokenKey × TokenRow). IsFirst e.1.first)) c.in-Some.ensures.steps c.loop-key.invariant.first).1;
      values = λ have.
          let kept = c.loop-key.invariant.values have in
          let is = c.take-row.ensures.values kept in
          row_kept c.loop-key.found c.take-row.new.found c.insert.new.self c.number.result account c.number.ensures.value c.take-row.ensures.rest c.in_ok-insert.ensures.ok kept
          (record { account = is.account; tokens = all_more HasTokenValues row.tokens c.push.new.self c.in_ok-token.token c.in_ok-push.ensures.ok is.tokens c.in_ok-token.ensures.values });
    }

pub loop-key-preserved : goal.loop-key-preserved
loop-key-preserved c =
    let e : TokenKey × TokenRow = (c.in-Some.key.now, c.in-Some.used.now) in
    let account = c.in-Some.key.now.account in
    let row = c.take-row.result in
    record {
      rows = one_gathered of_token with_token c.args.found.now c.loop-key.found c.take-row.new.found c.insert.new.self c.number.result e c.loop-key.key-iterator c.next.new.self c.into_iter-key-iterator.result
          c.in-Some.ensures.steps c.number.ensures.value c.take-row.ensures.rest c.in_ok-insert.ensures.ok
          (ap (λ tokens. record row { tokens = tokens }) (c.in_ok-push.ensures.ok ∙ ap (λ t. row.tokens ++ t ∷ []) c.in_ok-token.ensures.point) ∙ ap (λ r. with_token r e) c.take-row.ensures.row) c.loop-key.invariant.rows;
      first = (subst (AllByRecursion (λ (e : TokenKey × TokenRow). IsFirst e.1.first)) c.in-Some.ensures.steps c.loop-key.invariant.first).1;
      values = λ have.
          let kept = c.loop-key.invariant.values have in
          let is = c.take-row.ensures.values kept in
          row_kept c.loop-key.found c.take-row.new.found c.insert.new.self c.number.result account c.number.ensures.value c.take-row.ensures.rest c.in_ok-insert.ensures.ok kept
          (record { account = is.account; tokens = all_more HasTokenValues row.tokens c.push.new.self c.in_ok-token.token c.in_ok-push.ensures.ok is.tokens c.in_ok-token.ensures.values });
    }
