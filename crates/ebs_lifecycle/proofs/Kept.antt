-- What a retention rule leaves.
use Rattle.std.proofs.Common.{◌≡◌, ℕ, ◌≤◌, Bool, true, false, true≢false, not, ◌&&◌, arith, refl, sym}
use Rattle.std.specs.Prelude.{nat_le}
use Rattle.ebs_model.specs.declared.policy.Retain.TheVariants.{Count, Days, Weeks, Months, Years}
use Rattle.ebs_model.specs.Retention.{newer, is_picked}
use Rattle.ebs_lifecycle.specs.RetentionLaws.{NewestStays, LockedStay, PickedStayPicked}
use Rattle.ebs_lifecycle.proofs.Newest.{le_true, le_false, le_is}

pub newest : NewestStays
newest n made now m pos none = le_false n (newer made m) (omega (arith, pos, none))

ended : (p l a : Bool) → (p && (not l && not a)) ≡ true → (l ≡ false) × (a ≡ false) × ((p && l) ≡ false)
ended true false false e = (refl, refl, refl)
ended true true a e = absurd (true≢false (sym e))
ended true false true e = absurd (true≢false (sym e))
ended false l a e = absurd (true≢false (sym e))

released : (p l a : Bool) → (p && l) ≡ true → (l ≡ true) × ((p && (not l && not a)) ≡ false)
released true true a e = (refl, refl)
released true false a e = absurd (true≢false (sym e))
released false l a e = absurd (true≢false (sym e))

pub locked : LockedStay
locked retain made now m = (ended (is_picked retain made now m) m.locked m.archived, released (is_picked retain made now m) m.locked m.archived)

later_le : (end now later : ℕ) → nat_le end now ≡ true → now ≤ later → nat_le end later ≡ true
later_le end now later e h = le_true end later (omega (arith, le_is end now e, h))

pub picked : PickedStayPicked
picked (Count n) made now later m e h = e
picked (Days n) made now later m e h = later_le _ now later e h
picked (Weeks n) made now later m e h = later_le _ now later e h
picked (Months n) made now later m e h = later_le _ now later e h
picked (Years n) made now later m e h = later_le _ now later e h
