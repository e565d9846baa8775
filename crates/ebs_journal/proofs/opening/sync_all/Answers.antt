use Rattle.std.proofs.Common.{◌∙◌}
use Rattle.ebs_world.specs.declared.area.Area.TheVariants.{Journal0, Journal1, Blocks}
use Rattle.ebs_journal.proofs.Opened.{durable_on, each_area}
use Rattle.ebs_journal.proofs.Pieces.{reads_on}
use Rattle.ebs_journal.proofs.opening.sync_all.Goals as goal

pub returns-in_err-sync-2-clause-ran : goal.returns-in_err-sync-2-clause-ran
returns-in_err-sync-2-clause-ran g c = reads_on _ _ _ c.sync.ensures.ran c.sync-2.ensures.ran

pub returns-in_err-sync-3-clause-ran : goal.returns-in_err-sync-3-clause-ran
returns-in_err-sync-3-clause-ran g c = reads_on _ _ _ (reads_on _ _ _ c.sync.ensures.ran c.sync-2.ensures.ran) c.sync-3.ensures.ran

pub returns-in_err-sync-4-clause-ran : goal.returns-in_err-sync-4-clause-ran
returns-in_err-sync-4-clause-ran g c = reads_on _ _ _ (reads_on _ _ _ (reads_on _ _ _ c.sync.ensures.ran c.sync-2.ensures.ran) c.sync-3.ensures.ran) c.sync-4.ensures.ran

pub returns-clause-ran : goal.returns-clause-ran
returns-clause-ran g c = reads_on _ _ _ (reads_on _ _ _ (reads_on _ _ _ c.sync.ensures.ran c.sync-2.ensures.ran) c.sync-3.ensures.ran) c.sync-4.ensures.ran

pub returns-clause-durable : goal.returns-clause-durable
returns-clause-durable g c told honest =
    let one = c.sync.ensures.ran in
    let two = c.sync-2.ensures.ran in
    let three = c.sync-3.ensures.ran in
    let four = c.sync-4.ensures.ran in
    let told1 = one.told ∙ told in
    let honest1 = one.kept_honest ∙ honest in
    let told2 = two.told ∙ told1 in
    let honest2 = two.kept_honest ∙ honest1 in
    let told3 = three.told ∙ told2 in
    let honest3 = three.kept_honest ∙ honest2 in
    let behind3 = four in
    let behind2 = reads_on _ _ _ three four in
    let behind1 = reads_on _ _ _ two behind2 in
    each_area (g.D.Disk.view c.sync-4.new.self)
    (durable_on Journal0 _ _ behind1 told1 honest1 (c.in_ok-sync.ensures.durable told honest))
    (durable_on Journal1 _ _ behind2 told2 honest2 (c.in_ok-sync-2.ensures.durable told1 honest1))
    (durable_on Blocks _ _ behind3 told3 honest3 (c.in_ok-sync-3.ensures.durable told2 honest2))
    (c.in_ok-sync-4.ensures.durable told3 honest3)
