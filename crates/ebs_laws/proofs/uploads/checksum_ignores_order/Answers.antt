use Rattle.ebs_laws.proofs.Checksums.{ascending, bytes-alone, two-orders}
use Rattle.ebs_laws.proofs.uploads.checksum_ignores_order.Goals as goal

pub returns-clause-ascending : goal.returns-clause-ascending
returns-clause-ascending c = ascending

pub returns-clause-bytes_alone : goal.returns-clause-bytes_alone
returns-clause-bytes_alone c = bytes-alone

pub returns-clause-two_orders : goal.returns-clause-two_orders
returns-clause-two_orders c = two-orders
