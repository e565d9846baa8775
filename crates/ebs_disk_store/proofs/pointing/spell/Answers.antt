use Rattle.ebs_disk_store.proofs.pointing.spell.Goals as goal

pub write_checkpoint-requires : goal.write_checkpoint-requires
write_checkpoint-requires c = c.requires (c.has_short_lists.ensures.short c.if-not-has_short_lists.false)

pub returns-clause-checkpoint : goal.returns-clause-checkpoint
returns-clause-checkpoint c = c.requires (c.has_short_lists.ensures.short c.if-not-has_short_lists.false)
