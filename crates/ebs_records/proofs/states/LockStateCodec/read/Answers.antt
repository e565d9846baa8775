use Rattle.std.proofs.Common.{◌≡◌, ℕ, List, ◌∷◌, ◌++◌, Err, rules}
use Rattle.std.proofs.lemmas.Result.{err_from_is_err_and}
use Rattle.ebs_model.specs.declared.keys.Moment.{Moment}
use Rattle.ebs_model.specs.declared.rows.LockState.{LockState}
use Rattle.ebs_model.specs.declared.rows.LockState.TheVariants.{None as Unlocked, Governance, Compliance}
use Rattle.ebs_records.specs.declared.codec.Unread.{Unread}
use Rattle.ebs_records.specs.declared.codec.Unread.TheVariants.{Malformed, Memory}
use Rattle.ebs_records.specs.inner.Reading.{Reads}
use Rattle.ebs_records.specs.Fields.{IsMoment, moment}
use Rattle.ebs_records.specs.States.{IsLock, lock}
use Rattle.ebs_records.proofs.states.LockStateCodec.read.Goals as goal

tail : (x y : List ℕ) → 2 ∷ x ≡ 2 ∷ y → x ≡ y
tail x y e = cc

no_compliance : (old mid new : List ℕ) (e : Unread) → old ≡ 2 ∷ mid → Reads {V = Moment × Moment} (λ p. IsMoment p.0 × IsMoment p.1) (λ p. moment p.0 ++ moment p.1) mid new (Err e) → Reads IsLock lock old new (Err e)
no_compliance old mid new Memory o h = tt
no_compliance old mid new Malformed o h = by
  where
    by : (v : LockState) (rest : List ℕ) → IsLock v → old ≡ lock v ++ rest → ⊥
    by Unlocked rest f is = absurd cc
    by (Governance until) rest f is = absurd cc
    by (Compliance until cool_end) rest f is = let same : 2 ∷ mid ≡ 2 ∷ ((moment until ++ moment cool_end) ++ rest) = cc in h (until, cool_end) rest f (tail mid _ same)

pub returns-in_err-until-in-Some-eq2 : goal.returns-in_err-until-in-Some-eq2
returns-in_err-until-in-Some-eq2 c =
    let p = err_from_is_err_and c.from_residual-in_err-until-in-Some-eq2.result c.from_residual-in_err-until-in-Some-eq2.ensures.1 in
    let front : c.args.input.now ≡ 2 ∷ c.take_place.new.input = search rules in
    rw (p.1, p.2) (no_compliance c.args.input.now c.take_place.new.input c.read-in-Some-eq2.new.input c.in_err-until-in-Some-eq2.field-0.0 front c.in_err-until-in-Some-eq2.ensures)
