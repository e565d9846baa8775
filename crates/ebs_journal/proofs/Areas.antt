-- Which areas are a journal's.
use Rattle.std.proofs.Common.{◌≡◌, ◌≢◌, ◌⊎◌, inl, inr, true, false, refl, sym, ◌∙◌, ap}
use Rattle.ebs_world.specs.declared.area.Area.{Area}
use Rattle.ebs_journal.specs.inner.Areas.{is_journal, other}
use Rattle.ebs_world.specs.declared.area.Area.TheVariants.{Journal0, Journal1, Blocks, Archive}

-- one that is a journal's isn't one that is not
pub apart : (area other : Area) → is_journal area ≡ true → is_journal other ≡ false → other ≢ area
apart area other is not_one same = let e : false ≡ true = sym not_one ∙ ap is_journal same ∙ is in absurd (cc)

pub other_journal : (area : Area) → is_journal (other area) ≡ true
other_journal Journal0 = refl
other_journal Journal1 = refl
other_journal Blocks = refl
other_journal Archive = refl

pub other_twice : (area : Area) → is_journal area ≡ true → other (other area) ≡ area
other_twice Journal0 is = refl
other_twice Journal1 is = refl
other_twice Blocks is = absurd (cc)
other_twice Archive is = absurd (cc)

pub not_other : (area : Area) → is_journal area ≡ true → area ≢ other area
not_other Journal0 is same = absurd (cc)
not_other Journal1 is same = absurd (cc)
not_other Blocks is same = absurd (cc)
not_other Archive is same = absurd (cc)

-- a journal has two areas
pub one_of : (area a : Area) → is_journal area ≡ true → is_journal a ≡ true → (a ≡ area) ⊎ (a ≡ other area)
one_of Journal0 Journal0 is one = inl refl
one_of Journal0 Journal1 is one = inr refl
one_of Journal1 Journal0 is one = inr refl
one_of Journal1 Journal1 is one = inl refl
one_of Blocks a is one = absurd (cc)
one_of Archive a is one = absurd (cc)
one_of Journal0 Blocks is one = absurd (cc)
one_of Journal0 Archive is one = absurd (cc)
one_of Journal1 Blocks is one = absurd (cc)
one_of Journal1 Archive is one = absurd (cc)
