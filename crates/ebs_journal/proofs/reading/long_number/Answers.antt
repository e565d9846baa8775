use Rattle.std.proofs.Common.{rules}
use Rattle.std.proofs.lemmas.Nat.{be_bytes_8}
use Rattle.ebs_journal.proofs.reading.long_number.Goals as goal

pub returns : goal.returns
returns c = be_bytes_8 c.args.room c.from_be_bytes.result (search rules) (search rules) c.from_be_bytes.ensures
