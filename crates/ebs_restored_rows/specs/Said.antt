-- The rows that lists of a checkpoint say.
use Rattle.std.specs.Prelude.{List, map, flat_map}
use Rattle.std.specs.List.{filter}
use Rattle.std.specs.Ordering.{nat_cmp}
use Rattle.std.specs.FinMap as fin
use Rattle.ebs_model.specs.declared.rows.SnapRow.{SnapRow}
use Rattle.ebs_model.specs.declared.rows.VolRow.{VolRow}
use Rattle.ebs_model.specs.declared.rows.Own.{Own}
use Rattle.ebs_model.specs.declared.rows.TokenRow.{TokenRow}
use Rattle.ebs_model.specs.declared.rules.Rule.{Rule}
use Rattle.ebs_model.specs.declared.policy.Policy.{Policy}
use Rattle.ebs_model.specs.Keys.{snap_cmp, vol_cmp, policy_cmp, token_cmp}
use Rattle.ebs_model.specs.Rules.{Book}
use Rattle.ebs_model.specs.Rows.{Rows}
use Rattle.ebs_checkpoints.specs.declared.owned.AccountRow.{AccountRow}
use Rattle.ebs_checkpoints.specs.declared.owned.VolPoint.{VolPoint}
use Rattle.ebs_checkpoints.specs.declared.snapshots.SnapPoint.{SnapPoint}
use Rattle.ebs_recovery.specs.Bases.{row_of, has_own, own_of, token_entry, has_book, book_of}

abbrev pub snaps_said : List SnapPoint → fin.FinMap snap_cmp SnapRow
snaps_said snapshots = fin.from_entries (map (λ (p : SnapPoint). (p.key, row_of p)) snapshots)

abbrev pub vols_said : List VolPoint → fin.FinMap vol_cmp VolRow
vols_said volumes = fin.from_entries (map (λ (v : VolPoint). (v.row.key, v.row)) volumes)

abbrev pub owns_said : List AccountRow → fin.FinMap nat_cmp Own
owns_said accounts = fin.from_entries (map (λ (a : AccountRow). (a.account, own_of a)) (filter has_own accounts))

abbrev pub tokens_said : List AccountRow → fin.FinMap token_cmp TokenRow
tokens_said accounts = fin.from_entries (flat_map (λ (a : AccountRow). map (token_entry a.account) a.tokens) accounts)

abbrev pub books_said : List AccountRow → List Rule → fin.FinMap nat_cmp Book
books_said accounts rules = fin.from_entries (map (λ (a : AccountRow). (a.account, book_of rules a)) (filter has_book accounts))

abbrev pub policies_said : List Policy → fin.FinMap policy_cmp Policy
policies_said policies = fin.from_entries (map (λ (p : Policy). (p.key, p)) policies)

-- the rows of all tables
abbrev pub rows_said : List AccountRow → List SnapPoint → List VolPoint → List Rule → List Policy → Rows
rows_said accounts snapshots volumes rules policies = record {
  snaps = snaps_said snapshots;
  own = owns_said accounts;
  tokens = tokens_said accounts;
  vols = vols_said volumes;
  books = books_said accounts rules;
  policies = policies_said policies;
}
