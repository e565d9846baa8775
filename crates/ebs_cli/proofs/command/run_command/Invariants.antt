use Rattle.ebs_disk_store.specs.Opened.{IsPromising}
use Rattle.ebs_cli.proofs.command.run_command.Given as goal

-- what the promise of the store is: that the disk, if it is honest and tells what a read gives, stands for a machine
abbrev pub ghosts-session_on_disk : goal.ghosts-session_on_disk
ghosts-session_on_disk g a = record { sound = IsPromising (g.D.Disk.view a.disk.now) }

abbrev pub ghosts-tick_on_disk : goal.ghosts-tick_on_disk
ghosts-tick_on_disk g a = record { sound = IsPromising (g.D.Disk.view a.disk.now) }

abbrev pub ghosts-check_on_disk : goal.ghosts-check_on_disk
ghosts-check_on_disk g a = record { sound = IsPromising (g.D.Disk.view a.disk.now) }

-- what is made needs none
abbrev pub ghosts-init_on_disk : goal.ghosts-init_on_disk
ghosts-init_on_disk g a = record { sound = Unit {0} }

abbrev pub ghosts-sample_on_disk : goal.ghosts-sample_on_disk
ghosts-sample_on_disk g a = record { sound = Unit {0} }

abbrev pub ghosts-collect_on_disk : goal.ghosts-collect_on_disk
ghosts-collect_on_disk g a = record { sound = IsPromising (g.D.Disk.view a.disk.now) }

abbrev pub ghosts-usage_on_disk : goal.ghosts-usage_on_disk
ghosts-usage_on_disk g a = record { sound = IsPromising (g.D.Disk.view a.disk.now) }
