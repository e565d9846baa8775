use Rattle.std.proofs.lemmas.Int.{clamps, ints}
use Rattle.std.proofs.Common.{arith}
use Rattle.ebs_model.specs.declared.rules.RuleChange.TheVariants.{Put}
use Rattle.ebs_model.specs.RuleCommands.{committed}
use Rattle.ebs_bin.specs.BinLaws.{after}
use Rattle.ebs_bin.proofs.Stays.{higher, created}
use Rattle.ebs_bin.proofs.laws.number_is_new.Goals as goal

pub returns : goal.returns
returns c account b rule gs days tags description delay made e =
    let up = higher account gs (committed b (Put rule)) in
    let same = created account (after account (committed b (Put rule)) gs) days tags description delay made e in
    omega (arith, ints, clamps, up, same)
