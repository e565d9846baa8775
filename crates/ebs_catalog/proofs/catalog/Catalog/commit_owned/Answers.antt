use Rattle.std.proofs.Common.{sym, ap, ◌∙◌}
use Rattle.ebs_model.specs.inner.Rows.{aged}
use Rattle.ebs_model.specs.Decide.{commit_by}
use Rattle.ebs_catalog.specs.Held.{rows_in, stale}
use Rattle.ebs_catalog.proofs.Commits.{about-none}
use Rattle.ebs_catalog.proofs.catalog.Catalog.commit_owned.Goals as goal

pub returns-in-ModifyPermission-clause-stale : goal.returns-in-ModifyPermission-clause-stale
returns-in-ModifyPermission-clause-stale c = λ made. c.share.ensures.stale ∙ sym (about-none made c.args.request c.requires.call (stale c.args.self.now c.args.at.second))

pub returns-in-LockSnapshot-clause-stale : goal.returns-in-LockSnapshot-clause-stale
returns-in-LockSnapshot-clause-stale c = λ made. c.alter.ensures.stale ∙ sym (about-none made c.args.request c.requires.call (stale c.args.self.now c.args.at.second))

pub returns-in-UnlockSnapshot-clause-stale : goal.returns-in-UnlockSnapshot-clause-stale
returns-in-UnlockSnapshot-clause-stale c = λ made. c.alter-in-UnlockSnapshot.ensures.stale ∙ sym (about-none made c.args.request c.requires.call (stale c.args.self.now c.args.at.second))

pub returns-in-ArchiveSnapshot-clause-stale : goal.returns-in-ArchiveSnapshot-clause-stale
returns-in-ArchiveSnapshot-clause-stale c = λ made. c.alter-in-ArchiveSnapshot.ensures.stale ∙ sym (about-none made c.args.request c.requires.call (stale c.args.self.now c.args.at.second))

pub returns-in-RestoreTier-clause-stale : goal.returns-in-RestoreTier-clause-stale
returns-in-RestoreTier-clause-stale c = λ made. c.alter-in-RestoreTier.ensures.stale ∙ sym (about-none made c.args.request c.requires.call (stale c.args.self.now c.args.at.second))

pub returns-in_default-clause-stale : goal.returns-in_default-clause-stale
returns-in_default-clause-stale c = λ made. sym (about-none made c.args.request c.requires.call (stale c.args.self.now c.args.at.second))

pub returns-in-DeleteVolume-clause-rows : goal.returns-in-DeleteVolume-clause-rows
returns-in-DeleteVolume-clause-rows c = λ made volume. ap (aged c.args.at.second) c.commit_drop.ensures.rows ∙ ap (commit_by (aged c.args.at.second (rows_in c.args.self.now)) c.args.at c.args.account made volume) (sym c.in-DeleteVolume.is)

pub returns-in-DeleteVolume-clause-stale : goal.returns-in-DeleteVolume-clause-stale
returns-in-DeleteVolume-clause-stale c = λ made. c.commit_drop.ensures.stale c.args.at.second ∙ sym (about-none made c.args.request c.requires.call (stale c.args.self.now c.args.at.second))
