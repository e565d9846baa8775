use Rattle.std.proofs.Common.{◌≡◌, ◌↔◌, Some, sym, subst}
use Rattle.ebs_words.proofs.Numbers.{both_read}
use Rattle.ebs_words.specs.Spellings.{IsNumber}
use Rattle.ebs_words.proofs.server.read_both.Goals as goal

pub returns : goal.returns
returns c = both_read (IsNumber 65535 c.args.first.now) (IsNumber 64 c.args.second.now) c.in_ok-port.port c.from.result c.in_ok-port.ensures
    (λ n. subst (λ k. (Some k ≡ Some n) ↔ IsNumber 64 c.args.second.now n) (sym c.from.ensures) (c.in_ok-workers.ensures n))
