-- Beside what is promised: what is seen of slots, and what each call makes of it.
use Rattle.std.specs.Prelude.{ℕ, ◌+◌, ◌-◌, ◌≤◌, ◌<◌, ◌^◌, ◌⊎◌, List, refl, max, nat_le, if◌then◌else◌, unwrap_or, ◌≡◌, ◌≢◌, None, Some}
use Rattle.std.specs.Ordering.{nat_cmp}
use Rattle.std.specs.FinMap as map
use Rattle.std.specs.Coded.{Coded, code_by, coded×, coded_ℕ, coded_list}
use Rattle.ebs_world.specs.declared.area.Area.{Area}
use Rattle.ebs_world.specs.contracts.area.Area as area_type
use Rattle.ebs_slots.specs.Slots.{start_of}

-- a slot ends at or below byte 2^62
abbrev pub IsSlot : Area → ℕ → Type 0
IsSlot area slot = start_of area slot + 524288 ≤ 2 ^ 62

pub record SlotTable : Type 0 where
  -- the area of the disk
  pub area : Area
  -- the slot of each key
  pub keys : map.FinMap nat_cmp ℕ
  -- how many entries have the block of each key
  pub counts : map.FinMap nat_cmp ℕ
  -- the slots under lease, with the digests of their blocks
  pub leases : map.FinMap nat_cmp (List ℕ)
  -- a number above all slots that a key or a lease has
  pub top : ℕ

abbrev pub table_code : Coded SlotTable
table_code = code_by ((Area × (map.FinMap nat_cmp ℕ × map.FinMap nat_cmp ℕ)) × (map.FinMap nat_cmp (List ℕ) × ℕ))
    (coded× (coded× area_type.the_row.coded (coded× (map.code coded_ℕ coded_ℕ) (map.code coded_ℕ coded_ℕ))) (coded× (map.code coded_ℕ (coded_list coded_ℕ)) coded_ℕ))
    (λ s. ((s.area, (s.keys, s.counts)), (s.leases, s.top))) (λ p. record { area = p.0.0; keys = p.0.1.0; counts = p.0.1.1; leases = p.1.0; top = p.1.1 }) (λ _. refl)

-- a slot under lease
pub record Leased : Type 0 where
  pub slot : ℕ
  -- the SHA-256 of its block
  pub digest : List ℕ

abbrev pub leased_code : Coded Leased
leased_code = code_by (ℕ × List ℕ) (coded× coded_ℕ (coded_list coded_ℕ)) (λ l. (l.slot, l.digest)) (λ p. record { slot = p.0; digest = p.1 }) (λ _. refl)

abbrev pub no_slots : Area → SlotTable
no_slots area = record { area = area; keys = map.empty; counts = map.empty; leases = map.empty; top = 0 }

-- the slot is under lease
abbrev pub staged : SlotTable → ℕ → List ℕ → SlotTable
staged s slot digest = record s { leases = map.insert s.leases slot digest; top = max s.top (slot + 1) }

-- a key has the slot that was under lease, and one entry has its block
abbrev pub adopted : SlotTable → ℕ → ℕ → SlotTable
adopted s slot key = record s { keys = map.insert s.keys key slot; counts = map.insert s.counts key 1; leases = map.remove s.leases slot }

abbrev pub abandoned : SlotTable → ℕ → SlotTable
abandoned s slot = record s { leases = map.remove s.leases slot }

abbrev pub placed : SlotTable → ℕ → ℕ → SlotTable
placed s key slot = record s { keys = map.insert s.keys key slot; counts = map.insert s.counts key 1; top = max s.top (slot + 1) }

-- the key has no slot any more
abbrev pub forgotten : SlotTable → ℕ → SlotTable
forgotten s key = record s { keys = map.remove s.keys key; counts = map.remove s.counts key }

abbrev pub count_of : SlotTable → ℕ → ℕ
count_of s key = unwrap_or (map.get s.counts key) 0

-- one entry more has the key's block
abbrev pub retained : SlotTable → ℕ → SlotTable
retained s key = record s { counts = map.insert s.counts key (count_of s key + 1) }

-- one entry less has it, and where none is left the key has no slot any more
abbrev pub released : SlotTable → ℕ → SlotTable
released s key = if nat_le (count_of s key) 1 then forgotten s key else record s { counts = map.insert s.counts key (count_of s key - 1) }

-- no key and no lease has the slot
pub record IsFree (s : SlotTable) (slot : ℕ) : Type 0 where
  pub no_key : (key : ℕ) → map.get s.keys key ≢ Some slot
  pub no_lease : map.get s.leases slot ≡ None

-- a free slot below the top, or the one at the top where none below it is free
pub record IsNext (s : SlotTable) (slot : ℕ) : Type 0 where
  pub free : IsFree s slot
  pub lowest : (slot < s.top) ⊎ ((slot ≡ s.top) × ((n : ℕ) → n < s.top → IsFree s n → ⊥))

-- each key is counted, and nothing else
pub record AreCounted (s : SlotTable) : Type 0 where
  pub keyed : (key slot : ℕ) → map.get s.keys key ≡ Some slot → 1 ≤ count_of s key
  pub others : (key : ℕ) → map.get s.keys key ≡ None → map.get s.counts key ≡ None

-- each slot that a key or a lease has is below the top, and only one of them has it
pub record IsApart (s : SlotTable) : Type 0 where
  pub keyed : (key slot : ℕ) → map.get s.keys key ≡ Some slot → slot < s.top
  pub leased : (slot : ℕ) (digest : List ℕ) → map.get s.leases slot ≡ Some digest → slot < s.top
  pub one_key : (a b slot : ℕ) → map.get s.keys a ≡ Some slot → map.get s.keys b ≡ Some slot → a ≡ b
  pub no_lease : (key slot : ℕ) → map.get s.keys key ≡ Some slot → map.get s.leases slot ≡ None

-- the second map leads from each slot back to its key
pub record Owns (keys owners : map.FinMap nat_cmp ℕ) : Type 0 where
  pub there : (key slot : ℕ) → map.get keys key ≡ Some slot → map.get owners slot ≡ Some key
  pub back : (key slot : ℕ) → map.get owners slot ≡ Some key → map.get keys key ≡ Some slot
