use Rattle.std.proofs.Common.{Some, All, refl, sym, ap, subst, ◌∙◌}
use Rattle.std.proofs.lemmas.List.Elements.{All-pop}
use Rattle.ebs_catalog.specs.Held.{rows_in}
use Rattle.ebs_restored_rows.specs.Placed.{put_all, with_account}
use Rattle.ebs_restored_rows.specs.Restores.{MayRestoreAccount}
use Rattle.ebs_restored_rows.proofs.Putting.{put-next}
use Rattle.ebs_restored_rows.proofs.accounts.restore_accounts.Goals as goal

pub restore_account-requires : goal.restore_account-requires
restore_account-requires c =
    (All-pop MayRestoreAccount c.account.rows.items c.pop.new.self.items (Some c.in-Some.account) c.in-Some.ensures.items c.account.invariant.may).1

pub account-preserved : goal.account-preserved
account-preserved c =
    let before = rows_in c.account.catalog in
    let rest = c.pop.new.self.items in
    let popped = All-pop MayRestoreAccount c.account.rows.items rest (Some c.in-Some.account) c.in-Some.ensures.items c.account.invariant.may in
    record {
      may = popped.0;
      rows = put-next with_account before (rows_in c.restore_account.new.catalog) c.account.rows.items rest c.in-Some.account _ c.in-Some.ensures.items c.in_ok-restore_account.ensures.rows c.account.invariant.rows;
      latest = c.restore_account.ensures.latest ∙ c.account.invariant.latest;
    }

pub account-init : goal.account-init
account-init c = record {
  may = subst (All MayRestoreAccount) (sym c.into_vec-rows.ensures) c.requires;
  rows = ap (put_all with_account (rows_in c.args.catalog.now)) c.into_vec-rows.ensures;
  latest = refl;
}
