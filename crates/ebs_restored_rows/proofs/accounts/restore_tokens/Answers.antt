use Rattle.std.proofs.Common.{Some, refl, sym, ap, subst, ◌∙◌, true, ◌≡◌}
use Rattle.std.proofs.lemmas.List.Elements.{All-pop}
use Rattle.std.specs.FinMap.{contains_key, insert}
use Rattle.ebs_model.specs.declared.keys.TokenKey.{TokenKey}
use Rattle.ebs_model.specs.declared.rows.TokenRow.{TokenRow}
use Rattle.ebs_model.specs.Rows.{Rows}
use Rattle.ebs_checkpoints.specs.declared.owned.TokenPoint.{TokenPoint}
use Rattle.ebs_catalog.specs.Held.{rows_in}
use Rattle.ebs_restored_rows.specs.Placed.{put_all, with_token}
use Rattle.ebs_restored_rows.specs.Restores.{MayRestoreTokens}
use Rattle.ebs_restored_rows.proofs.Putting.{put-next}
use Rattle.ebs_restored_rows.proofs.accounts.restore_tokens.Goals as goal

pub token-preserved : goal.token-preserved
token-preserved c =
    let before : Rows = rows_in c.token.catalog in
    let rest = c.pop.new.self.items in
    let popped = All-pop (λ (t : TokenPoint). contains_key before.own c.args.account ≡ true) c.token.rows.items rest (Some c.in-Some.token) c.in-Some.ensures.items c.token.invariant.may in
    record {
      may = subst (λ (r : Rows). MayRestoreTokens r.own c.args.account rest) (sym c.in_ok-restore_token.ensures.rows) popped.0;
      rows = put-next (with_token c.args.account) before (rows_in c.restore_token.new.self) c.token.rows.items rest c.in-Some.token _ c.in-Some.ensures.items (c.in_ok-restore_token.ensures.rows ∙ ap (λ (e : TokenKey × TokenRow). record before { tokens = insert before.tokens e.0 e.1 }) c.token_entry-key.ensures) c.token.invariant.rows;
      latest = c.restore_token.ensures.latest ∙ c.token.invariant.latest;
    }

pub token-init : goal.token-init
token-init c = record {
  may = subst (MayRestoreTokens (rows_in c.args.catalog.now).own c.args.account) (sym c.into_vec-rows.ensures) c.requires;
  rows = ap (put_all (with_token c.args.account) (rows_in c.args.catalog.now)) c.into_vec-rows.ensures;
  latest = refl;
}
