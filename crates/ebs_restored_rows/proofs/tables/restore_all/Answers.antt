use Rattle.std.proofs.Common.{List, All, sym, ap, subst, ◌∙◌}
use Rattle.ebs_model.specs.Rows.{Rows}
use Rattle.ebs_checkpoints.specs.declared.owned.AccountRow.{AccountRow}
use Rattle.ebs_catalog.specs.Held.{rows_in}
use Rattle.ebs_restored_rows.specs.Placed.{put_all, with_account, with_policy, with_snapshot, with_volume}
use Rattle.ebs_restored_rows.specs.Restores.{MayRestoreSnapshot, MayRestoreVolume, Owns}
use Rattle.ebs_restored_rows.specs.Said.{books_said}
use Rattle.ebs_restored_rows.proofs.Allowed.{accounts-may, policies-may, snapshots-may, volumes-may}
use Rattle.ebs_restored_rows.proofs.SaidRows.{all-said, owns-first, owns-second}
use Rattle.ebs_restored_rows.proofs.tables.restore_all.Goals as goal

pub restore_accounts-requires : goal.restore_accounts-requires
restore_accounts-requires c = accounts-may c.args.accounts c.requires.lists.tokens_used

pub restore_snapshots-requires : goal.restore_snapshots-requires
restore_snapshots-requires c =
    let a = c.args in
    let lists = c.requires.lists in
    let first = c.in_ok-restore_books.ensures.rows ∙ ap (λ (accounts : List AccountRow). record (rows_in a.catalog.now) { books = books_said accounts a.rules }) c.as_slice.ensures
    ∙ ap (λ (r : Rows). record r { books = books_said a.accounts a.rules }) c.requires.none in
    let owns = ap (λ (r : Rows). r.own) (c.in_ok-restore_accounts.ensures.rows ∙ ap (λ r. put_all with_account r a.accounts) first) ∙ owns-first a.accounts a.snapshots a.volumes a.rules a.policies in
    subst (λ (own : Owns). All (MayRestoreSnapshot own) a.snapshots) (sym owns) (snapshots-may a.accounts a.snapshots lists.snapshots_within lists.plain lists.uploads lists.snapshots_owned)

pub restore_volumes-requires : goal.restore_volumes-requires
restore_volumes-requires c =
    let a = c.args in
    let lists = c.requires.lists in
    let first = c.in_ok-restore_books.ensures.rows ∙ ap (λ (accounts : List AccountRow). record (rows_in a.catalog.now) { books = books_said accounts a.rules }) c.as_slice.ensures
    ∙ ap (λ (r : Rows). record r { books = books_said a.accounts a.rules }) c.requires.none in
    let second = c.in_ok-restore_accounts.ensures.rows ∙ ap (λ r. put_all with_account r a.accounts) first in
    let owns = ap (λ (r : Rows). r.own) (c.in_ok-restore_snapshots.ensures.rows ∙ ap (λ r. put_all with_snapshot r a.snapshots) second) ∙ owns-second a.accounts a.snapshots a.volumes a.rules a.policies in
    subst (λ (own : Owns). All (MayRestoreVolume own) a.volumes) (sym owns) (volumes-may a.accounts a.volumes lists.volumes_within lists.volumes_owned)

pub restore_policies-requires : goal.restore_policies-requires
restore_policies-requires c = policies-may c.args.policies c.requires.lists.policies_within

pub returns-clause-rows : goal.returns-clause-rows
returns-clause-rows c =
    let a = c.args in
    let first = c.in_ok-restore_books.ensures.rows ∙ ap (λ (accounts : List AccountRow). record (rows_in a.catalog.now) { books = books_said accounts a.rules }) c.as_slice.ensures
    ∙ ap (λ (r : Rows). record r { books = books_said a.accounts a.rules }) c.requires.none in
    let second = c.in_ok-restore_accounts.ensures.rows ∙ ap (λ r. put_all with_account r a.accounts) first in
    let third = c.in_ok-restore_snapshots.ensures.rows ∙ ap (λ r. put_all with_snapshot r a.snapshots) second in
    let fourth = c.in_ok-restore_volumes.ensures.rows ∙ ap (λ r. put_all with_volume r a.volumes) third in
    c.in_ok-restore_policies.ensures.rows ∙ ap (λ r. put_all with_policy r a.policies) fourth ∙ all-said a.accounts a.snapshots a.volumes a.rules a.policies
