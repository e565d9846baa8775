-- Client tokens of an account.
use Rattle.std.specs.Prelude.{ℕ, Bool, List, ◌&&◌, ◌==◌, nat_eq}
use Rattle.std.specs.Cmp.Lexicographic.{pointwise}
use Rattle.ebs_model.specs.declared.keys.TokenKey.{TokenKey}

-- the key is the account's with this text
abbrev pub is_token : ℕ → List ℕ → TokenKey → Bool
is_token account text key = (account == key.account) && pointwise nat_eq text key.text
