use Rattle.ebs_recovery.proofs.Reuse as reuse
use Rattle.ebs_recovery.proofs.fits.writing_fits.Goals as goal

pub returns-clause-fit : goal.returns-clause-fit
returns-clause-fit g c old new s slot writes fit = reuse.written_fits (g.D.Disk.view old) (g.D.Disk.view new) s slot writes fit

pub returns-clause-moments : goal.returns-clause-moments
returns-clause-moments g c old new s slot writes fit = reuse.while_written (g.D.Disk.view old) (g.D.Disk.view new) s slot writes fit (g.met.D.Disk.true_to_itself old)

pub returns-clause-machine : goal.returns-clause-machine
returns-clause-machine g c old new s t slot free ran fit kept keys = reuse.written_machine (g.D.Disk.view old) (g.D.Disk.view new) (g.met.D.Disk.true_to_itself old) s t slot free ran fit kept keys
