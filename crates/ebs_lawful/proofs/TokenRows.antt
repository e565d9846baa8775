-- Client tokens, through each change.
use Rattle.std.proofs.Common.{◌≡◌, inl, inr, ℕ, ◌≤◌, true, List, Option, Some, None, refl, sym, subst}
use Rattle.std.specs.FinMap.{FinMap, get}
use Rattle.ebs_model.specs.declared.keys.SnapKey.{SnapKey}
use Rattle.ebs_model.specs.declared.keys.TokenKey.{TokenKey}
use Rattle.ebs_model.specs.declared.keys.Moment.{Moment}
use Rattle.ebs_model.specs.declared.tags.Tag.{Tag}
use Rattle.ebs_model.specs.declared.rows.TokenRow.{TokenRow}
use Rattle.ebs_model.specs.declared.request.Request.{Request}
use Rattle.ebs_model.specs.declared.request.Request.TheVariants.{StartSnapshot, CreateVolume}
use Rattle.ebs_model.specs.Keys.{token_cmp}
use Rattle.ebs_model.specs.inner.Orders.{tokens_total, exact_tokens}
use Rattle.ebs_model.specs.Quotas.{last_second}
use Rattle.ebs_model.specs.Limits.{is_size, is_description, are_tags, is_token_given, bad_create, bad_start, bad_member}
use Rattle.ebs_model.specs.Rows.{Rows}
use Rattle.ebs_model.specs.Calls.Start.{next_key, with_token}
use Rattle.ebs_model.specs.Calls.Volume.{next_volume}
use Rattle.ebs_model.proofs.RunLaws.{run-beside}
use Rattle.ebs_lawful.specs.Snapshots.{AreSnapRows}
use Rattle.ebs_lawful.specs.Tokens.{Gives, IsToken, AreTokens}
use Rattle.ebs_lawful.proofs.Maps.{Each, each-insert}
use Rattle.ebs_lawful.proofs.Members.{both}
use Rattle.ebs_lawful.proofs.Effects.{IsMadeSize, IsEffect, left_all, altered, taken_out, started, snapped, created, dropped, commanded, planned, unplanned, ran}

module _ (rows : Rows) (at : Moment) (account : ℕ) (early : at.second ≤ last_second) (snaps : AreSnapRows rows) (tokens : AreTokens rows) where
  made-size : (size : ℕ) → IsMadeSize rows size → is_size size ≡ true
  made-size size (inl fits) = fits
  made-size size (inr of) = subst (λ (n : ℕ). is_size n ≡ true) (sym of.3) (snaps of.0 of.1 of.2).size

  -- a token that a call within its limits gives
  added : (account number : ℕ) (first : Request) (token : Option (List ℕ)) → is_token_given token ≡ true → ((text : List ℕ) → token ≡ Some text → Gives text first) → bad_member first ≡ None
      → Each IsToken (with_token rows.tokens at account number first token)
  added account number first None given gives members = tokens
  added account number first (Some text) given gives members =
      each-insert IsToken tokens_total exact_tokens rows.tokens tokens (record { account = account; text = text }) (record { at = at; first = first; number = number })
      (record { text = given; at = early; gives = gives text refl; within = members })

  started-token : (description : Option (List ℕ)) (tags : List Tag) (token : Option (List ℕ)) (timeout : ℕ) → bad_start description tags token timeout ≡ None → is_token_given token ≡ true
  started-token description tags token timeout e = (both (is_token_given token) _ _ (both (are_tags tags) _ _ (both (is_description description) _ _ e).1).1).0

  created-token : (origin : Option SnapKey) (size : ℕ) (tags : List Tag) (token : Option (List ℕ)) → bad_create origin (Some size) tags token ≡ None → is_token_given token ≡ true
  created-token None size tags token e = (both (is_token_given token) _ _ (both _ _ _ e).1).0
  created-token (Some origin) size tags token e = (both (is_token_given token) _ _ (both _ _ _ e).1).0

  pub tokens-kept : (new : Rows) → IsEffect rows at account new → AreTokens new
  tokens-kept new (left_all is) = subst AreTokens (sym is) tokens
  tokens-kept new (altered key row next there how is) = subst AreTokens (sym is) tokens
  tokens-kept new (taken_out key is) = subst AreTokens (sym is) tokens
  tokens-kept new (started size parent description tags token timeout of is) =
      subst AreTokens (sym is) (added account (next_key rows account).number (StartSnapshot size parent description tags token timeout) token (started-token description tags token timeout of.members) (λ text e. (e, of.sized)) of.members)
  tokens-kept new (snapped volume row description tags of is) = subst AreTokens (sym is) tokens
  tokens-kept new (created origin size tags token of is) =
      subst AreTokens (sym is) (added account (next_volume rows account).number (CreateVolume origin (Some size) tags token) token (created-token origin size tags token of.members) (λ text e. (e, made-size size of.sized)) of.members)
  tokens-kept new (dropped key is) = subst AreTokens (sym is) tokens
  tokens-kept new (commanded command change fits taken is) = subst AreTokens (sym is) tokens
  tokens-kept new (planned targets hours time retain add of is) = subst AreTokens (sym is) tokens
  tokens-kept new (unplanned key is) = subst AreTokens (sym is) tokens
  tokens-kept new (ran key p of is) = subst AreTokens (sym is) (subst (λ (m : FinMap token_cmp TokenRow). (q : TokenKey) (x : TokenRow) → get m q ≡ Some x → IsToken q x) (sym (run-beside rows at key p).1.0) tokens)
