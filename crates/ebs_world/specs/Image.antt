-- The bytes of a disk, and what a crash may leave of them.
use Rattle.std.specs.Prelude.{ℕ, ◌≡◌, ◌+◌, List, [], ◌∷◌, ◌≢◌, ◌<◌, ◌≤◌, ◌⊎◌}
use Rattle.ebs_world.specs.declared.area.Area.{Area}

-- the byte at each place of each area: zero past an area's end
abbrev pub Image : Type 0
Image = Area → ℕ → ℕ

-- some images: those that a crash may leave
abbrev pub Images : Type 1
Images = Image → Type 0

-- these bytes stand from that place on
abbrev pub Spells : (ℕ → ℕ) → ℕ → List ℕ → Type 0
Spells f at [] = Unit {0}
Spells f at (b ∷ bs) = (f at ≡ b) × Spells f (at + 1) bs

-- some places of a disk
abbrev pub Places : Type 1
Places = Area → ℕ → Type 0

abbrev pub Everywhere : Places
Everywhere a i = Unit {0}

-- the places but the n from there on in this area
abbrev pub IsOutside : Area → ℕ → ℕ → Places
IsOutside area at n a i = (a ≢ area) ⊎ (i < at) ⊎ (at + n ≤ i)

-- these places have the bytes that they had
abbrev pub Keeps : Places → Image → Image → Type 0
Keeps places old new = (a : Area) (i : ℕ) → places a i → new a i ≡ old a i

-- it was one of these images, but for other places
abbrev pub Was : Places → Images → Images
Was places images c = (d : Image) × images d × Keeps places d c

-- each of these images has the area as it reads
abbrev pub Durable : Area → Image → Images → Type 0
Durable area reads images = (c : Image) → images c → (i : ℕ) → c area i ≡ reads area i
