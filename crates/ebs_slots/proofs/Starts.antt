-- Where slots begin.
use Rattle.std.proofs.Common.{◌≡◌, inl, inr, ℕ, IsTrue, nat_lt, ◌+◌, ◌*◌, ◌<◌, ◌≤◌, ◌^◌, max, arith}
use Rattle.std.proofs.lemmas.Bool.Decides.{nat_tests}
use Rattle.ebs_world.specs.declared.area.Area.{Area}
use Rattle.ebs_world.specs.declared.area.Area.TheVariants.{Journal0, Journal1, Blocks, Archive}
use Rattle.ebs_slots.specs.inner.Slots.{IsSlot}
use Rattle.ebs_slots.specs.Slots.{start_of, OffSlot}
use Rattle.ebs_slots.specs.inner.Standing.{IsInSlot}

-- one behind the other
pub start_next : (area : Area) (slot : ℕ) → start_of area slot ≡ start_of area 0 + 524288 * slot
start_next Journal0 slot = omega arith
start_next Journal1 slot = omega arith
start_next Blocks slot = omega arith
start_next Archive slot = omega arith

first_start : (area : Area) → start_of area 0 ≤ 524288
first_start Journal0 = omega arith
first_start Journal1 = omega arith
first_start Blocks = omega arith
first_start Archive = omega arith

-- the slots below a place where one could begin end there
pub slot_below : (area : Area) (slot top : ℕ) → slot < top → start_of area top ≤ 2 ^ 62 → IsSlot area slot
slot_below area slot top below fits = omega (arith, below, fits, start_next area slot, start_next area top)

pub top_max : (area : Area) (top slot : ℕ) → start_of area top ≤ 2 ^ 62 → IsSlot area slot → start_of area (max top (slot + 1)) ≤ 2 ^ 62
top_max area top slot within fits = omega (arith, within, fits, start_next area top, start_next area slot, start_next area (max top (slot + 1)))

pub top_small : (area : Area) (top : ℕ) → start_of area top ≤ 2 ^ 62 → top ≤ 2 ^ 43
top_small area top within = omega (arith, within, start_next area top)

pub top_first : (area : Area) → start_of area 0 ≤ 2 ^ 62
top_first area = omega (arith, first_start area)

pub one_slot : (area : Area) (m n i : ℕ) → IsInSlot area m i → IsInSlot area n i → m ≡ n
one_slot area m n i p q = omega (arith, p.0, p.1, q.0, q.1, start_next area m, start_next area n)

pub mark_off : (area : Area) (slot : ℕ) → OffSlot area slot Archive 0
mark_off Journal0 slot = inl (λ is. cc)
mark_off Journal1 slot = inl (λ is. cc)
mark_off Blocks slot = inl (λ is. cc)
mark_off Archive slot = inr (inl (omega arith))

-- the slots are the numbers below the first that would begin too late
pub told_slot : (area : Area) (number most : ℕ) → start_of area most ≡ 2 ^ 62 → (IsTrue (nat_lt number most) → IsSlot area number) × (IsSlot area number → IsTrue (nat_lt number most))
told_slot area number most full = (
  λ t. let less : number < most = grind (arith, nat_tests, t) in omega (arith, less, full, start_next area number, start_next area most),
  λ is. let less : number < most = omega (arith, is, full, start_next area number, start_next area most) in grind (arith, nat_tests, less),
)
