use Rattle.ebs_disk_store.specs.Opened.{IsPromising}
use Rattle.ebs_server.proofs.serving.serve.Given as goal

-- what the promise of the store is: that the disk, if it is honest and tells what a read gives, stands for a machine
abbrev pub ghosts-serve_disk : goal.ghosts-serve_disk
ghosts-serve_disk g a = record { sound = IsPromising (g.D.Disk.view a.disk) }
