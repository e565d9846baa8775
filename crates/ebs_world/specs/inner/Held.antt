-- The bytes that a disk in memory holds.
use Rattle.std.specs.Prelude.{ℕ, Bool, eqb, ◌-◌, get_or, cond, ◌+◌, length, List, ltb}
use Rattle.ebs_world.specs.declared.area.Area.{Area}
use Rattle.ebs_world.specs.declared.area.Area.TheVariants.{Journal0, Journal1, Blocks, Archive}
use Rattle.ebs_world.specs.declared.areas.AreaBytes.{AreaBytes}
use Rattle.ebs_world.specs.declared.areas.Areas.{Areas}
use Rattle.ebs_world.specs.Image.{Image}

-- one of four
abbrev pub of_area : {A : Type 0} → Area → A → A → A → A → A
of_area Journal0 w x y z = w
of_area Journal1 w x y z = x
of_area Blocks w x y z = y
of_area Archive w x y z = z

abbrev pub tag : Area → ℕ
tag area = of_area area 0 1 2 3

abbrev pub same : Area → Area → Bool
same a b = eqb (tag a) (tag b)

-- the byte at a place, zero past the end
abbrev pub byte_at : AreaBytes → ℕ → ℕ
byte_at bytes i = cond (eqb i 0) bytes.first (get_or bytes.later.items (i - 1) 0)

abbrev pub end_of : AreaBytes → ℕ
end_of bytes = 1 + length bytes.later.items

abbrev pub shown : Areas → Image
shown areas a = of_area a (byte_at areas.journal0) (byte_at areas.journal1) (byte_at areas.blocks) (byte_at areas.archive)

abbrev pub end_in : Areas → Area → ℕ
end_in areas a = of_area a (end_of areas.journal0) (end_of areas.journal1) (end_of areas.blocks) (end_of areas.archive)

-- a piece over what was there
abbrev pub over : {A : Type 0} → ℕ → List A → (ℕ → A) → ℕ → A
over at piece f i = cond (ltb i at) (f i) (get_or piece (i - at) (f i))
