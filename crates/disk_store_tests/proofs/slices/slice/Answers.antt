use Rattle.disk_store_tests.proofs.Leases.{leases_stay}
use Rattle.disk_store_tests.proofs.slices.slice.Goals as goal

pub returns : goal.returns
returns c = leases_stay _ _ _ _ c.collect_slice.result c.collect_slice.ensures.told
