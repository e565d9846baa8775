use Rattle.std.proofs.Common.{sym, arith}
use Rattle.std.proofs.lemmas.List.{take_all}
use Rattle.ebs_http.proofs.received.front_of.Goals as goal

pub returns-then-bytes-lt-MAX_HEAD_BYTES : goal.returns-then-bytes-lt-MAX_HEAD_BYTES
returns-then-bytes-lt-MAX_HEAD_BYTES c = sym (take_all 65536 c.args.bytes.now (omega arith))
