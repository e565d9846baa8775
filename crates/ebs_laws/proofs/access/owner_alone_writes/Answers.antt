use Rattle.ebs_laws.proofs.Seen.{put-owner, complete-owner, sharing-owner}
use Rattle.ebs_laws.proofs.Owners.{deletion-owner, lock-owner, unlock-owner, archive-owner, restore-owner}
use Rattle.ebs_laws.proofs.DiskRows.{volume-owner}
use Rattle.ebs_laws.proofs.access.owner_alone_writes.Goals as goal

pub returns-clause-put : goal.returns-clause-put
returns-clause-put c = put-owner

pub returns-clause-complete : goal.returns-clause-complete
returns-clause-complete c = complete-owner

pub returns-clause-sharing : goal.returns-clause-sharing
returns-clause-sharing c = sharing-owner

pub returns-clause-deletion : goal.returns-clause-deletion
returns-clause-deletion c = deletion-owner

pub returns-clause-lock : goal.returns-clause-lock
returns-clause-lock c = lock-owner

pub returns-clause-unlock : goal.returns-clause-unlock
returns-clause-unlock c = unlock-owner

pub returns-clause-archive : goal.returns-clause-archive
returns-clause-archive c = archive-owner

pub returns-clause-restore : goal.returns-clause-restore
returns-clause-restore c = restore-owner

pub returns-clause-volume : goal.returns-clause-volume
returns-clause-volume c = volume-owner
