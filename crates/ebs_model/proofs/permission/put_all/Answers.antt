use Rattle.std.proofs.Common.{ap, ◌∙◌, ◌+◌, drop}
use Rattle.std.specs.Ordering.{nat_cmp}
use Rattle.ebs_tables.specs.Seen.{seen}
use Rattle.ebs_model.specs.Calls.Permission.{with_all}
use Rattle.ebs_model.proofs.Walks.{turn, ended}
use Rattle.ebs_model.proofs.permission.put_all.Goals as goal

pub loop-account-preserved : goal.loop-account-preserved
loop-account-preserved c =
    ap (with_all (drop (c.loop-account.account-index + 1) c.args.accounts.now)) c.in_ok-insert.ensures.ok
    ∙ turn (λ l. with_all l (seen nat_cmp c.loop-account.set)) _ _ _ c.loop-account-test.true c.account-item.is
    ∙ c.loop-account.invariant

pub returns : goal.returns
returns c = ended (λ l. with_all l (seen nat_cmp c.loop-account.set)) _ _ c.loop-account-test.false ∙ c.loop-account.invariant
