-- What a checkpoint has of accounts: a row for each that has made something or used a client token.
use Rattle.std.specs.Prelude.{◌≡◌, ℕ, ◌≤◌, ◌+◌, List, [], ◌∷◌, ◌++◌, Option, None, Some}
use Rattle.std.specs.Option.{unwrap_or}
use Rattle.std.specs.Ordering.{nat_cmp}
use Rattle.std.specs.FinMap as map
use Rattle.ebs_model.specs.declared.keys.TokenKey.{TokenKey}
use Rattle.ebs_model.specs.declared.rows.Own.{Own}
use Rattle.ebs_model.specs.declared.rows.TokenRow.{TokenRow}
use Rattle.ebs_model.specs.declared.request.Request.{Request}
use Rattle.ebs_model.specs.declared.request.Request.TheVariants.{StartSnapshot, CreateVolume}
use Rattle.ebs_model.specs.Rows.{Rows}
use Rattle.ebs_model.specs.Rules.{Book}
use Rattle.ebs_records.specs.declared.record.Record.TheVariants.{Accepted}
use Rattle.ebs_checkpoints.specs.declared.owned.AccountRow.{AccountRow}
use Rattle.ebs_checkpoints.specs.declared.owned.TokenPoint.{TokenPoint}
use Rattle.ebs_point_rules.specs.Values.{HasAccountValues}

-- a call that a client token can be given with
abbrev pub IsFirst : Request → Type 0
IsFirst (StartSnapshot size parent description tags token timeout) = Unit {0}
IsFirst (CreateVolume origin size tags token) = Unit {0}
IsFirst request = ⊥

-- each account has made something, where it has a row or rules, and each client token was used by such a call
pub record AreBegun (rows : Rows) : Type 0 where
  pub own : (account : ℕ) (own : Own) → map.get rows.own account ≡ Some own → 1 ≤ own.next_snap + (own.next_vol + own.next_policy)
  pub books : (account : ℕ) (book : Book) → map.get rows.books account ≡ Some book → 1 ≤ book.next
  pub tokens : (key : TokenKey) (row : TokenRow) → map.get rows.tokens key ≡ Some row → IsFirst row.first

-- a client token, with the record of the call that used it first
abbrev pub token_of : TokenKey × TokenRow → TokenPoint
token_of e = record { text = e.0.text; at = e.1.at; first = Accepted (record { at = e.1.at; account = e.0.account; request = e.1.first; slot = None }); number = e.1.number }

-- an account that has nothing yet
abbrev pub no_row : ℕ → AccountRow
no_row account = record { account = account; next_snap = 0; next_vol = 0; next_rule = 0; next_policy = 0; tokens = [] }

abbrev pub Found : Type 0
Found = map.FinMap nat_cmp AccountRow

-- the account's row, or one with nothing
abbrev pub row_at : Found → ℕ → AccountRow
row_at found account = unwrap_or (map.get found account) (no_row account)

-- what an account has made, the number of its next rule, and a client token more
abbrev pub with_own : AccountRow → ℕ × Own → AccountRow
with_own row e = record row { next_snap = e.1.next_snap; next_vol = e.1.next_vol; next_policy = e.1.next_policy }

abbrev pub with_next : AccountRow → ℕ × Book → AccountRow
with_next row e = record row { next_rule = e.1.next }

abbrev pub with_token : AccountRow → TokenKey × TokenRow → AccountRow
with_token row e = record row { tokens = row.tokens ++ token_of e ∷ [] }

-- each entry changes the row of its account
abbrev pub changed : {E : Type 0} → (E → ℕ) → (AccountRow → E → AccountRow) → Found → List E → Found
changed of change found [] = found
changed of change found (e ∷ es) = changed of change (map.insert (map.remove found (of e)) (of e) (change (row_at found (of e)) e)) es

abbrev pub of_number : {X : Type 0} → ℕ × X → ℕ
of_number e = e.0

abbrev pub of_token : TokenKey × TokenRow → ℕ
of_token e = e.0.account

-- the values of each row are of their types
abbrev pub HaveValues : Found → Type 0
HaveValues found = (account : ℕ) (row : AccountRow) → map.get found account ≡ Some row → HasAccountValues row

abbrev pub first_key : {X : Type 0} → List (ℕ × X) → Option ℕ
first_key [] = None
first_key (e ∷ es) = Some e.0
