-- ModifyPermission: with whom a snapshot is shared (EBS User Guide, snapshot sharing).
use Rattle.std.specs.Prelude.{ℕ, List, [], ◌∷◌, Bool, not, ◌&&◌, ◌||◌, length, nat_lt, Result, Ok}
use Rattle.std.specs.Ordering.{nat_cmp}
use Rattle.std.specs.FinMap as fin
use Rattle.ebs_model.specs.declared.keys.SnapKey.{SnapKey}
use Rattle.ebs_model.specs.declared.keys.Moment.{Moment}
use Rattle.ebs_model.specs.declared.rows.SnapRow.{SnapRow}
use Rattle.ebs_model.specs.declared.request.Request.TheVariants.{ModifyPermission}
use Rattle.ebs_model.specs.declared.change.Decision.{Decision}
use Rattle.ebs_model.specs.declared.change.Decision.TheVariants as decision
use Rattle.ebs_model.specs.declared.answer.Answer.TheVariants as answer
use Rattle.ebs_model.specs.declared.answer.Refusal.{Refusal}
use Rattle.ebs_model.specs.declared.answer.Refusal.TheVariants.{Quota}
use Rattle.ebs_model.specs.declared.answer.QuotaName.TheVariants.{SharedAccounts}
use Rattle.ebs_model.specs.Quotas.{most_shared}
use Rattle.ebs_model.specs.Refuse.{◌>>=◌, ◌>>◌, refuse_if}
use Rattle.ebs_model.specs.Access.{done}
use Rattle.ebs_model.specs.Rows.{Rows, the_row, with_row}
use Rattle.ebs_model.specs.Decisions.{shares}

abbrev pub AccountSet : Type 0
AccountSet = fin.FinMap nat_cmp (Unit {0})

-- these are in it
abbrev pub with_all : List ℕ → AccountSet → AccountSet
with_all [] set = set
with_all (account ∷ accounts) set = with_all accounts (fin.insert set account tt)

-- these are not in it
abbrev pub without_all : List ℕ → AccountSet → AccountSet
without_all [] set = set
without_all (account ∷ accounts) set = without_all accounts (fin.remove set account)

-- the added are in, and the removed are out; ascending and each once
abbrev pub permitted : List ℕ → List ℕ → List ℕ → List ℕ
permitted shared add remove = fin.keys (without_all remove (with_all add (with_all shared fin.empty)))

abbrev pub is_public : Bool → Bool → Bool → Bool
is_public public add_all remove_all = (public || add_all) && not remove_all

abbrev pub decide_permission : Rows → Moment → ℕ → SnapKey → List ℕ → Bool → List ℕ → Bool → Result Decision Refusal
decide_permission rows at account key add add_all remove remove_all = do
  row ← the_row rows key (done account key at.second)
  refuse_if (nat_lt most_shared (length (permitted row.shared add remove))) (Quota SharedAccounts most_shared)
  Ok (decision.Change (shares account at (ModifyPermission key add add_all remove remove_all) (permitted row.shared add remove)) answer.Done)

abbrev pub permitted_row : List ℕ → Bool → List ℕ → Bool → SnapRow → SnapRow
permitted_row add add_all remove remove_all row = record row { shared = permitted row.shared add remove; public = is_public row.public add_all remove_all }

abbrev pub commit_permission : Rows → SnapKey → List ℕ → Bool → List ℕ → Bool → Rows
commit_permission rows key add add_all remove remove_all = with_row rows key (permitted_row add add_all remove remove_all)
