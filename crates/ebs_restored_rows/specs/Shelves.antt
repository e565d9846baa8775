-- Shelves of rules by account, before they go into a catalog.
use Rattle.std.specs.Prelude.{◌≡◌, ℕ, ◌≤◌, true, List, IsSome}
use Rattle.std.specs.declared.option.Option.{Option}
use Rattle.std.specs.declared.option.Option.TheVariants.{None, Some}
use Rattle.std.specs.Ordering.{nat_cmp}
use Rattle.std.specs.FinMap as map
use Rattle.ebs_model.specs.declared.rules.Rule.{Rule}
use Rattle.ebs_model.specs.inner.MapValues.{map_values}
use Rattle.ebs_model.specs.Rules.{Book}
use Rattle.ebs_bin.specs.Books.{Shelf, book}
use Rattle.ebs_checkpoints.specs.declared.owned.AccountRow.{AccountRow}
use Rattle.ebs_row_rules.specs.Owners.{listed}
use Rattle.ebs_restored_rows.specs.Placed.{Books}

abbrev pub Shelves : Type 0
Shelves = map.FinMap nat_cmp Shelf

-- the rules on them
abbrev pub books_in : Shelves → Books
books_in shelves = map_values book shelves

-- a rule's account has a shelf, and the rule keeps what it matches for a day at least
pub record MayShelve (books : Books) (r : Rule) : Type 0 where
  pub shelf : map.contains_key books r.key.account ≡ true
  pub days : 1 ≤ r.days

-- each shelf's account is listed
abbrev pub AreListed : List AccountRow → Books → Type 0
AreListed accounts books = (account : ℕ) → map.contains_key books account ≡ true → IsSome (listed accounts account)

-- a book, where there is one, stands with others
abbrev pub with_found : Books → ℕ → Option Book → Books
with_found books account None = books
with_found books account (Some b) = map.insert books account b
