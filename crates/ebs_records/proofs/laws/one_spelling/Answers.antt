use Rattle.std.proofs.Common.{[], ap, ◌++◌, List, ℕ}
use Rattle.ebs_records.specs.inner.Records.{apart_record}
use Rattle.ebs_records.proofs.laws.one_spelling.Goals as goal

pub returns : goal.returns
returns c v w a b e = (apart_record v w [] [] a.spelled b.spelled (ap (λ (bytes : List ℕ). bytes ++ []) e)).0
