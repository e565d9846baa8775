-- What rows are, once all of a list are put back.
use Rattle.std.proofs.Common.{◌≡◌, ℕ, Bool, true, false, cond, List, [], ◌∷◌, ◌++◌, map, refl, ap, ◌∙◌}
use Rattle.std.specs.Prelude.{flat_map}
use Rattle.std.specs.List.{filter}
use Rattle.std.specs.FinMap.{empty, insert, from_entries}
use Rattle.ebs_model.specs.declared.keys.TokenKey.{TokenKey}
use Rattle.ebs_model.specs.declared.rows.TokenRow.{TokenRow}
use Rattle.ebs_model.specs.declared.rules.Rule.{Rule}
use Rattle.ebs_model.specs.declared.policy.Policy.{Policy}
use Rattle.ebs_model.specs.inner.Rows.{no_rows}
use Rattle.ebs_model.specs.Rows.{Rows}
use Rattle.ebs_checkpoints.specs.declared.owned.AccountRow.{AccountRow}
use Rattle.ebs_checkpoints.specs.declared.owned.TokenPoint.{TokenPoint}
use Rattle.ebs_checkpoints.specs.declared.owned.VolPoint.{VolPoint}
use Rattle.ebs_checkpoints.specs.declared.snapshots.SnapPoint.{SnapPoint}
use Rattle.ebs_recovery.specs.Bases.{has_own, own_of, token_entry}
use Rattle.ebs_restored_rows.specs.Placed.{put_all, with_volume, with_policy, with_snapshot, with_own, with_token, with_account}
use Rattle.ebs_restored_rows.specs.Said.{snaps_said, vols_said, owns_said, tokens_said, books_said, policies_said, rows_said}

pub volumes-said : (rows : Rows) (vs : List VolPoint) → rows.vols ≡ empty → put_all with_volume rows vs ≡ record rows { vols = vols_said vs }
volumes-said rows [] none = λ i. record rows { vols = none i }
volumes-said rows (v ∷ vs) none = ap (λ r. with_volume r v) (volumes-said rows vs none)

pub policies-said : (rows : Rows) (ps : List Policy) → rows.policies ≡ empty → put_all with_policy rows ps ≡ record rows { policies = policies_said ps }
policies-said rows [] none = λ i. record rows { policies = none i }
policies-said rows (p ∷ ps) none = ap (λ r. with_policy r p) (policies-said rows ps none)

pub snapshots-said : (rows : Rows) (ps : List SnapPoint) → rows.snaps ≡ empty → put_all with_snapshot rows ps ≡ record rows { snaps = snaps_said ps }
snapshots-said rows [] none = λ i. record rows { snaps = none i }
snapshots-said rows (p ∷ ps) none = ap (λ r. with_snapshot r p) (snapshots-said rows ps none)

-- ---- accounts

tokens-on : (account : ℕ) (rows : Rows) (rest : List (TokenKey × TokenRow)) (ts : List TokenPoint) → rows.tokens ≡ from_entries rest
    → put_all (with_token account) rows ts ≡ record rows { tokens = from_entries (map (token_entry account) ts ++ rest) }
tokens-on account rows rest [] is = λ i. record rows { tokens = is i }
tokens-on account rows rest (t ∷ ts) is = ap (λ r. with_token account r t) (tokens-on account rows rest ts is)

own-on : (rows : Rows) (a : AccountRow) (accounts : List AccountRow) → rows.own ≡ owns_said accounts → with_own rows a.account (own_of a) ≡ record rows { own = owns_said (a ∷ accounts) }
own-on rows a accounts is = by (has_own a)
  where
    by : (b : Bool) → cond b (record rows { own = insert rows.own a.account (own_of a) }) rows
        ≡ record rows { own = from_entries (map (λ (x : AccountRow). (x.account, own_of x)) (cond b (a ∷ filter has_own accounts) (filter has_own accounts))) }
    by true = λ i. record rows { own = insert (is i) a.account (own_of a) }
    by false = λ i. record rows { own = is i }

pub accounts-said : (rows : Rows) (accounts : List AccountRow) → rows.own ≡ empty → rows.tokens ≡ empty → put_all with_account rows accounts ≡ record rows { own = owns_said accounts; tokens = tokens_said accounts }
accounts-said rows [] owns tokens = λ i. record rows { own = owns i; tokens = tokens i }
accounts-said rows (a ∷ accounts) owns tokens =
    let rest : Rows = record rows { own = owns_said accounts; tokens = tokens_said accounts } in
    ap (λ r. with_account r a) (accounts-said rows accounts owns tokens)
    ∙ ap (λ r. put_all (with_token a.account) r a.tokens) (own-on rest a accounts refl)
    ∙ tokens-on a.account (record rest { own = owns_said (a ∷ accounts) }) (flat_map (λ (x : AccountRow). map (token_entry x.account) x.tokens) accounts) a.tokens refl

-- ---- all tables

module _ (accounts : List AccountRow) (snapshots : List SnapPoint) (volumes : List VolPoint) (rules : List Rule) (policies : List Policy) where
  abbrev ruled : Rows
  ruled = record no_rows { books = books_said accounts rules }

  abbrev with_all_accounts : Rows
  with_all_accounts = put_all with_account ruled accounts

  abbrev with_all_snapshots : Rows
  with_all_snapshots = put_all with_snapshot with_all_accounts snapshots

  abbrev with_all_volumes : Rows
  with_all_volumes = put_all with_volume with_all_snapshots volumes

  first : with_all_accounts ≡ record ruled { own = owns_said accounts; tokens = tokens_said accounts }
  first = accounts-said ruled accounts refl refl

  second : with_all_snapshots ≡ record ruled { own = owns_said accounts; tokens = tokens_said accounts; snaps = snaps_said snapshots }
  second = ap (λ r. put_all with_snapshot r snapshots) first ∙ snapshots-said (record ruled { own = owns_said accounts; tokens = tokens_said accounts }) snapshots refl

  third : with_all_volumes ≡ record ruled { own = owns_said accounts; tokens = tokens_said accounts; snaps = snaps_said snapshots; vols = vols_said volumes }
  third = ap (λ r. put_all with_volume r volumes) second ∙ volumes-said (record ruled { own = owns_said accounts; tokens = tokens_said accounts; snaps = snaps_said snapshots }) volumes refl

  pub all-said : put_all with_policy with_all_volumes policies ≡ rows_said accounts snapshots volumes rules policies
  all-said = ap (λ r. put_all with_policy r policies) third
      ∙ policies-said (record ruled { own = owns_said accounts; tokens = tokens_said accounts; snaps = snaps_said snapshots; vols = vols_said volumes }) policies refl

  -- the accounts are there from then on
  pub owns-first : with_all_accounts.own ≡ owns_said accounts
  owns-first = ap (λ (r : Rows). r.own) first

  pub owns-second : with_all_snapshots.own ≡ owns_said accounts
  owns-second = ap (λ (r : Rows). r.own) second
