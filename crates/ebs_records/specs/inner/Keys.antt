-- Beside what is promised: accounts, moments and keys.
use Rattle.std.proofs.Common.{arith, ◌^◌, ◌<◌, refl, ◌++◌}
use Rattle.ebs_model.specs.declared.keys.SnapKey.{SnapKey}
use Rattle.ebs_model.specs.declared.keys.VolKey.{VolKey}
use Rattle.ebs_model.specs.declared.keys.RuleKey.{RuleKey}
use Rattle.ebs_model.specs.declared.keys.Moment.{Moment}
use Rattle.ebs_records.specs.Fields.{IsAccount, long, IsKeyNumber, word, IsMoment, moment, IsKey, key, IsVolume, volume, IsRule, rule}
use Rattle.ebs_records.specs.inner.Apart.{Apart, apart_by, apart_pair}
use Rattle.ebs_records.specs.inner.Numbers.{apart_long, apart_word}

pub apart_account : Apart IsAccount long
apart_account v w x y a b e = apart_long v w x y (omega (arith, a)) (omega (arith, b)) e

pub apart_number : Apart IsKeyNumber word
apart_number v w x y a b e = apart_word v w x y (omega (arith, a)) (omega (arith, b)) e

pub apart_moment : Apart IsMoment moment
apart_moment = apart_by {V = Moment} (λ m. m.second) (λ n. record { second = n }) (λ n. n < 2 ^ 64) long (λ v. refl) apart_long

pub apart_key : Apart IsKey key
apart_key = apart_by {V = SnapKey} (λ k. (k.account, k.number)) (λ p. record { account = p.0; number = p.1 }) (λ p. IsAccount p.0 × IsKeyNumber p.1) (λ p. long p.0 ++ word p.1) (λ v. refl) (apart_pair IsAccount long IsKeyNumber word apart_account apart_number)

pub apart_volume : Apart IsVolume volume
apart_volume = apart_by {V = VolKey} (λ k. (k.account, k.number)) (λ p. record { account = p.0; number = p.1 }) (λ p. IsAccount p.0 × IsKeyNumber p.1) (λ p. long p.0 ++ word p.1) (λ v. refl) (apart_pair IsAccount long IsKeyNumber word apart_account apart_number)

pub apart_rule : Apart IsRule rule
apart_rule = apart_by {V = RuleKey} (λ k. (k.account, k.number)) (λ p. record { account = p.0; number = p.1 }) (λ p. IsAccount p.0 × IsKeyNumber p.1) (λ p. long p.0 ++ word p.1) (λ v. refl) (apart_pair IsAccount long IsKeyNumber word apart_account apart_number)
