use Rattle.std.proofs.Common.{◌∙◌}
use Rattle.ebs_journal.proofs.Rotation.{behind_one, behind_two, behind_three, behind_four, behind_written}
use Rattle.ebs_journal.proofs.turning.write_behind.Goals as goal

pub returns-in_err-write-clause-ran : goal.returns-in_err-write-clause-ran
returns-in_err-write-clause-ran g c =
    behind_one c.args.area _ (g.D.Disk.view c.write.new.self) (g.D.Disk.view c.write.new.self) (g.D.Disk.view c.write.new.self) (g.D.Disk.view c.write.new.self) c.args.epoch c.args.checkpoint.now c.spell_head.result c.spell_head.ensures c.write.ensures.ran

pub returns-in_err-write-2-clause-ran : goal.returns-in_err-write-2-clause-ran
returns-in_err-write-2-clause-ran g c =
    behind_two c.args.area _ _ (g.D.Disk.view c.write-2.new.self) (g.D.Disk.view c.write-2.new.self) (g.D.Disk.view c.write-2.new.self) c.args.epoch c.args.checkpoint.now c.spell_head.result c.spell_head.ensures c.write.ensures.ran c.write-2.ensures.ran

pub returns-in_err-write-3-clause-ran : goal.returns-in_err-write-3-clause-ran
returns-in_err-write-3-clause-ran g c =
    behind_three c.args.area _ _ _ (g.D.Disk.view c.write-3.new.self) (g.D.Disk.view c.write-3.new.self) c.args.epoch c.args.checkpoint.now c.spell_head.result c.spell_head.ensures c.write.ensures.ran c.write-2.ensures.ran c.write-3.ensures.ran

pub returns-in_err-sync-clause-ran : goal.returns-in_err-sync-clause-ran
returns-in_err-sync-clause-ran g c =
    behind_four c.args.area _ _ _ _ (g.D.Disk.view c.sync.new.self) c.args.epoch c.args.checkpoint.now c.spell_head.result c.spell_head.ensures c.write.ensures.ran c.write-2.ensures.ran c.write-3.ensures.ran c.sync.ensures.ran

pub returns-clause-ran : goal.returns-clause-ran
returns-clause-ran g c =
    behind_four c.args.area _ _ _ _ (g.D.Disk.view c.sync.new.self) c.args.epoch c.args.checkpoint.now c.spell_head.result c.spell_head.ensures c.write.ensures.ran c.write-2.ensures.ran c.write-3.ensures.ran c.sync.ensures.ran

pub returns-clause-written : goal.returns-clause-written
returns-clause-written g c told =
    behind_written c.args.area _ _ _ _ _ c.args.epoch c.args.checkpoint.now c.spell_head.result c.spell_head.ensures c.write.ensures.ran c.write-2.ensures.ran c.write-3.ensures.ran c.sync.ensures.ran told
    (c.in_ok-write.ensures.written told) (c.in_ok-write-2.ensures.written (c.write.ensures.ran.told ∙ told)) (c.in_ok-write-3.ensures.written (c.write-2.ensures.ran.told ∙ c.write.ensures.ran.told ∙ told))
