use Rattle.std.proofs.Common.{rules, sym, ap, ◌∙◌, Some, Ok, Err}
use Rattle.std.specs.Ordering.{nat_cmp}
use Rattle.std.proofs.lemmas.Fn.{always_returns_same}
use Rattle.ebs_checkpoints.specs.declared.owned.AccountRow.{AccountRow}
use Rattle.ebs_row_rules.proofs.Searches.{looked_up}
use Rattle.ebs_row_rules.proofs.owners.listed.Goals as goal

pub returns-in-Ok : goal.returns-in-Ok
returns-in-Ok c =
    let searched = c.in-Ok.ensures.position (λ (y : AccountRow). nat_cmp y.account c.args.account) (always_returns_same _ _ _ (λ a r f called. search (rules, called))) in
    ap Some c.index-accounts-place.is ∙ sym (looked_up (λ (y : AccountRow). y.account) c.args.accounts.now c.args.account (Ok c.in-Ok.place) c.requires searched c.index-accounts-place.result c.in-Ok.ensures.bound)

pub returns-in-Err : goal.returns-in-Err
returns-in-Err c =
    let searched = c.in-Err.ensures.position (λ (y : AccountRow). nat_cmp y.account c.args.account) (always_returns_same _ _ _ (λ a r f called. search (rules, called))) in
    sym (looked_up (λ (y : AccountRow). y.account) c.args.accounts.now c.args.account (Err c.in-Err.field-0) c.requires searched)
