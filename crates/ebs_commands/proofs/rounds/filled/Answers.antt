use Rattle.std.proofs.Common.{◌≡◌, ℕ, List, replicate, rules}
use Rattle.ebs_commands.specs.Samples.{filled}
use Rattle.ebs_commands.proofs.rounds.filled.Goals as goal

is_filled : (bytes : List ℕ) (count byte : ℕ) → bytes ≡ replicate count byte → bytes ≡ filled count byte
unfolding filled
is_filled bytes count byte is = is

pub returns : goal.returns
returns c =
    let is : c.from_vec.result ≡ replicate c.args.count c.args.byte = search rules in
    is_filled c.from_vec.result c.args.count c.args.byte is
