-- Lines and blocks.
use Rattle.std.proofs.Common.{◌++◌, ℕ, List}
use Rattle.ebs_model.specs.declared.rows.Line.{Line}
use Rattle.ebs_model.specs.declared.array.Block.{Block}
use Rattle.ebs_records.specs.Fields.{word, long, IsAccount, IsKeyNumber, IsFlag, flag, IsLong, IsDigest, digest}

-- whether it is of a volume, and the key of that volume or snapshot
abbrev pub IsLine : Line → Type 0
IsLine v = IsFlag v.of_volume × (IsAccount v.account × IsKeyNumber v.number)

abbrev pub line : Line → List ℕ
line v = flag v.of_volume ++ (long v.account ++ word v.number)

-- the number of the write that made it, and its digest
abbrev pub IsBlock : Block → Type 0
IsBlock v = IsLong v.stamp × IsDigest v.digest

abbrev pub block : Block → List ℕ
block v = long v.stamp ++ digest v.digest
