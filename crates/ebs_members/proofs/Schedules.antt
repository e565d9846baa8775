-- What makes a schedule bad.
use Rattle.std.proofs.Common.{◌≡◌, ℕ, ◌<◌, false, List, [], ◌∷◌, length, arith, refl}
use Rattle.std.specs.declared.option.Option.TheVariants.{None}
use Rattle.std.proofs.lemmas.Bool.Decides.{nat_tests}
use Rattle.serde_json.specs.View.{items_view}
use Rattle.serde_json.specs.declared.value.Value.{Value}
use Rattle.ebs_model.specs.Limits.{is_interval}
use Rattle.ebs_members.specs.Policies.{one_time}

-- a number that isn't one of 32 bits is no interval
pub long_interval : (n : ℕ) → 4294967295 < n → is_interval n ≡ false
long_interval n h = grind (arith, nat_tests)

pub no_time : (items : List Value) → length items < 1 → one_time (items_view items) ≡ None
no_time [] h = refl
no_time (x ∷ items) h = absurd (omega (arith, h))

pub more_times : (items : List Value) → 1 < length items → one_time (items_view items) ≡ None
more_times [] h = refl
more_times (x ∷ []) h = absurd (omega (arith, h))
more_times (x ∷ y ∷ items) h = refl
