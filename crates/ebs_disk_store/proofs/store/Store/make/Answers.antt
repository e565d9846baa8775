use Rattle.std.proofs.Common.{◌≡◌, ◌∙◌, sym, length, rules}
use Rattle.ebs_world.specs.Image.{Everywhere}
use Rattle.ebs_world.specs.inner.Runs.{ran_on}
use Rattle.ebs_disk_store.proofs.Created.{none_made, unwritten, unmarked, while_made, ran_made}
use Rattle.ebs_disk_store.proofs.store.Store.make.Goals as goal

pub returns-in_err-read_mark-clause-moments : goal.returns-in_err-read_mark-clause-moments
returns-in_err-read_mark-clause-moments g c told honest =
    unwritten _ _ c.args.secret (ran_on Everywhere _ (g.D.Disk.view c.sync_all.new.disk) _ c.sync_all.ensures.ran c.read_mark.ensures.ran) honest

pub returns-then-branch-ne0-clause-moments : goal.returns-then-branch-ne0-clause-moments
returns-then-branch-ne0-clause-moments g c told honest =
    unwritten _ _ c.args.secret (ran_on Everywhere _ (g.D.Disk.view c.sync_all.new.disk) _ c.sync_all.ensures.ran c.read_mark.ensures.ran) honest

pub returns-then-branch-ne0-clause-unwritten : goal.returns-then-branch-ne0-clause-unwritten
returns-then-branch-ne0-clause-unwritten g c _ = ran_on Everywhere _ (g.D.Disk.view c.sync_all.new.disk) _ c.sync_all.ensures.ran c.read_mark.ensures.ran

pub returns-in_err-journal-clause-moments : goal.returns-in_err-journal-clause-moments
returns-in_err-journal-clause-moments g c told honest =
    let sized : length c.args.secret ≡ 32 = search rules in
    let ran = ran_on Everywhere _ (g.D.Disk.view c.sync_all.new.disk) _ c.sync_all.ensures.ran c.read_mark.ensures.ran in
    let synced = c.sync_all.ensures.ran in
    while_made _ (g.D.Disk.view c.read_mark.new.disk) _ c.args.secret _ ran told honest
    (unmarked (g.D.Disk.view c.sync_all.new.disk) _ c.read_mark.ensures.ran (synced.kept_honest ∙ honest) (c.in_ok-sync_all.ensures.durable told honest) (sym (c.in_ok-read_mark.ensures.byte (synced.told ∙ told)) ∙ c.if-branch-ne0.false))
    c.make.ensures.any_moment c.write_first.ensures sized c.new_stands.ensures.made

pub returns-in_err-journal-clause-ran : goal.returns-in_err-journal-clause-ran
returns-in_err-journal-clause-ran g c = ran_made _ (g.D.Disk.view c.read_mark.new.disk) _ (ran_on Everywhere _ (g.D.Disk.view c.sync_all.new.disk) _ c.sync_all.ensures.ran c.read_mark.ensures.ran) c.make.ensures.ran

pub returns-clause-moments : goal.returns-clause-moments
returns-clause-moments g c told honest =
    let sized : length c.args.secret ≡ 32 = search rules in
    let ran = ran_on Everywhere _ (g.D.Disk.view c.sync_all.new.disk) _ c.sync_all.ensures.ran c.read_mark.ensures.ran in
    let synced = c.sync_all.ensures.ran in
    while_made _ (g.D.Disk.view c.read_mark.new.disk) _ c.args.secret _ ran told honest
    (unmarked (g.D.Disk.view c.sync_all.new.disk) _ c.read_mark.ensures.ran (synced.kept_honest ∙ honest) (c.in_ok-sync_all.ensures.durable told honest) (sym (c.in_ok-read_mark.ensures.byte (synced.told ∙ told)) ∙ c.if-branch-ne0.false))
    c.make.ensures.any_moment c.write_first.ensures sized c.new_stands.ensures.made

pub returns-clause-ran : goal.returns-clause-ran
returns-clause-ran g c = ran_made _ (g.D.Disk.view c.read_mark.new.disk) _ (ran_on Everywhere _ (g.D.Disk.view c.sync_all.new.disk) _ c.sync_all.ensures.ran c.read_mark.ensures.ran) c.make.ensures.ran

pub returns-in_err-sync_all-clause-kept : goal.returns-in_err-sync_all-clause-kept
returns-in_err-sync_all-clause-kept g c = λ told marked. c.sync_all.ensures.ran

pub returns-in_err-read_mark-clause-kept : goal.returns-in_err-read_mark-clause-kept
returns-in_err-read_mark-clause-kept g c = λ told marked. ran_on Everywhere _ (g.D.Disk.view c.sync_all.new.disk) _ c.sync_all.ensures.ran c.read_mark.ensures.ran

pub returns-then-branch-ne0-clause-kept : goal.returns-then-branch-ne0-clause-kept
returns-then-branch-ne0-clause-kept g c = λ told marked. ran_on Everywhere _ (g.D.Disk.view c.sync_all.new.disk) _ c.sync_all.ensures.ran c.read_mark.ensures.ran

pub returns-in_err-journal-clause-kept : goal.returns-in_err-journal-clause-kept
returns-in_err-journal-clause-kept g c = none_made _ (g.D.Disk.view c.sync_all.new.disk) _ _ c.sync_all.ensures.ran c.in_ok-read_mark.ensures.byte c.if-branch-ne0.false

pub returns-clause-kept : goal.returns-clause-kept
returns-clause-kept g c = none_made _ (g.D.Disk.view c.sync_all.new.disk) _ _ c.sync_all.ensures.ran c.in_ok-read_mark.ensures.byte c.if-branch-ne0.false
