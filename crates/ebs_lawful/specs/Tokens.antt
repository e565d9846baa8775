-- Client tokens, and the calls that used them first.
use Rattle.std.specs.Prelude.{ℕ, ◌≡◌, true, List, Option, None, Some}
use Rattle.std.specs.FinMap.{get}
use Rattle.ebs_model.specs.declared.keys.TokenKey.{TokenKey}
use Rattle.ebs_model.specs.declared.rows.TokenRow.{TokenRow}
use Rattle.ebs_model.specs.declared.request.Request.{Request}
use Rattle.ebs_model.specs.declared.request.Request.TheVariants.{StartSnapshot, CreateVolume}
use Rattle.ebs_model.specs.Limits.{is_size, is_client_token, bad_member}
use Rattle.ebs_model.specs.Rows.{Rows}
use Rattle.ebs_lawful.specs.Ends.{IsMoment}

-- a size that is stated, and can be an image's
abbrev pub HasSize : Option ℕ → Type 0
HasSize None = ⊥
HasSize (Some size) = is_size size ≡ true

-- the call gave this token: a start, or a creation with the size that was made
abbrev pub Gives : List ℕ → Request → Type 0
Gives text (StartSnapshot size parent description tags token timeout) = (token ≡ Some text) × (is_size size ≡ true)
Gives text (CreateVolume origin size tags token) = (token ≡ Some text) × HasSize size
Gives text request = ⊥

-- the token is one that a call can give, and was first used at a moment by an accepted call within its limits
pub record IsToken (key : TokenKey) (row : TokenRow) : Type 0 where
  pub text : is_client_token key.text ≡ true
  pub at : IsMoment row.at
  pub gives : Gives key.text row.first
  pub within : bad_member row.first ≡ None

abbrev pub AreTokens : Rows → Type 0
AreTokens rows = (key : TokenKey) (row : TokenRow) → get rows.tokens key ≡ Some row → IsToken key row
