-- Beside what is promised: policies' keys, lines and blocks.
use Rattle.std.proofs.Common.{◌++◌, refl}
use Rattle.ebs_model.specs.declared.keys.PolicyKey.{PolicyKey}
use Rattle.ebs_model.specs.declared.rows.Line.{Line}
use Rattle.ebs_model.specs.declared.array.Block.{Block}
use Rattle.ebs_records.specs.Fields.{IsPolicyKey, policy_key, word, long, IsAccount, IsKeyNumber, IsFlag, flag, IsLong, IsDigest, digest}
use Rattle.ebs_records.specs.inner.Apart.{Apart, apart_pair, apart_by}
use Rattle.ebs_records.specs.inner.Choices.{apart_flag}
use Rattle.ebs_records.specs.inner.Keys.{apart_account, apart_number}
use Rattle.ebs_records.specs.inner.Lists.{apart_digest}
use Rattle.ebs_records.specs.inner.Numbers.{apart_long}
use Rattle.ebs_records.specs.Names.{IsBlock, IsLine, block, line}

pub apart_policy_key : Apart IsPolicyKey policy_key
apart_policy_key = apart_by {V = PolicyKey} (λ v. (v.account, v.number)) (λ p. record { account = p.0; number = p.1 })
    (λ p. IsAccount p.0 × IsKeyNumber p.1) (λ p. long p.0 ++ word p.1) (λ v. refl)
    (apart_pair IsAccount long IsKeyNumber word apart_account apart_number)

pub apart_line : Apart IsLine line
apart_line = apart_by {V = Line} (λ v. (v.of_volume, (v.account, v.number))) (λ p. record { of_volume = p.0; account = p.1.0; number = p.1.1 })
    (λ p. IsFlag p.0 × (IsAccount p.1.0 × IsKeyNumber p.1.1)) (λ p. flag p.0 ++ (long p.1.0 ++ word p.1.1)) (λ v. refl)
    (apart_pair IsFlag flag _ _ apart_flag (apart_pair IsAccount long IsKeyNumber word apart_account apart_number))

pub apart_block : Apart IsBlock block
apart_block = apart_by {V = Block} (λ v. (v.stamp, v.digest)) (λ p. record { stamp = p.0; digest = p.1 })
    (λ p. IsLong p.0 × IsDigest p.1) (λ p. long p.0 ++ digest p.1) (λ v. refl)
    (apart_pair IsLong long IsDigest digest apart_long apart_digest)
