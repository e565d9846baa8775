use Rattle.std.proofs.Common.{◌≡◌, ◌++◌}
use Rattle.std.specs.Prelude.{map}
use Rattle.form_urlencoded.specs.Parse.{raw_pairs_left}
use Rattle.ebs_members.specs.Sources.{decoded_pair, pairs_of}
use Rattle.ebs_members.proofs.source.some_pairs.Given as goal

abbrev pub invariant-loop-name : goal.invariant-loop-name
invariant-loop-name l = l.pairs.items ++ map decoded_pair (raw_pairs_left l.name-iterator) ≡ pairs_of l.query
