use Rattle.std.proofs.Common.{sym, subst}
use Rattle.ebs_tables.specs.Seen.{seen}
use Rattle.ebs_model.specs.Keys.{vol_cmp}
use Rattle.ebs_model.specs.inner.Rows.{aged}
use Rattle.ebs_model.specs.Calls.Run.{made_rows}
use Rattle.ebs_lifecycle.specs.Retention.{AreStarted}
use Rattle.ebs_catalog.specs.Held.{rows_in}
use Rattle.ebs_catalog.proofs.Due.{then_ok}
use Rattle.ebs_catalog.proofs.GivenUp.{all-ended, all-released}
use Rattle.ebs_catalog.proofs.Started.{volume-started}
use Rattle.ebs_catalog.proofs.catalog.Catalog.given_up.Goals as goal

pub picked_of-requires-clause-starts : goal.picked_of-requires-clause-starts
picked_of-requires-clause-starts c = λ v.
    subst AreStarted (sym (c.in_ok-groups.ensures v)) (volume-started (rows_in c.args.self.now) c.args.at c.args.key.now c.args.policy.now v c.requires.moment c.starts.ensures)

pub returns-clause-ended : goal.returns-clause-ended
returns-clause-ended c =
    let made = made_rows (aged c.args.at.second (rows_in c.args.self.now)) c.args.at c.args.key.now c.args.policy.now in
    then_ok c.picked_of.result _ _ (λ picked. all-ended c.args.policy.now made c.args.key.now c.args.at.second (seen vol_cmp c.in_ok-groups.groups) c.in_ok-groups.ensures picked.ended) c.picked_of.ensures.ended

pub returns-clause-released : goal.returns-clause-released
returns-clause-released c =
    let made = made_rows (aged c.args.at.second (rows_in c.args.self.now)) c.args.at c.args.key.now c.args.policy.now in
    then_ok c.picked_of.result _ _ (λ picked. all-released c.args.policy.now made c.args.key.now c.args.at.second (seen vol_cmp c.in_ok-groups.groups) c.in_ok-groups.ensures picked.released) c.picked_of.ensures.released
