-- The area that counts is a journal's, and its gate is open.
use Rattle.std.proofs.Common.{◌≡◌, Bool, true, false, cond, not, ◌&&◌, ◌||◌, nat_lt, Some, None, refl, subst}
use Rattle.ebs_world.specs.declared.area.Area.{Area}
use Rattle.ebs_world.specs.declared.area.Area.TheVariants.{Journal0, Journal1, Blocks, Archive}
use Rattle.ebs_world.specs.Image.{Image}
use Rattle.ebs_journal.specs.declared.front.Front.{Front}
use Rattle.ebs_journal.specs.inner.Areas.{is_journal, other}
use Rattle.ebs_journal.specs.Opening.{front_of, is_open, has_magic, second_counts, counted_of, counted}

abbrev pub IsOpenJournal : (Area → Front) → Area → Type 0
IsOpenJournal f area = (is_journal area ≡ true) × (is_open (f area) ≡ true)

along : (f : Area → Front) (a b : Area) → Some a ≡ Some b → IsOpenJournal f a → IsOpenJournal f b
along f a b e is = let same : a ≡ b = cc in subst (IsOpenJournal f) same is

by_tests : (f : Area → Front) (area : Area) (a b older : Bool) → is_open (f Journal0) ≡ a → is_open (f Journal1) ≡ b
    → cond (a || b) (Some (cond (b && (not a || older)) Journal1 Journal0)) None ≡ Some area → IsOpenJournal f area
by_tests f area false false older first second e = absurd (cc)
by_tests f area true false older first second e = along f Journal0 area e (refl, first)
by_tests f area false true older first second e = along f Journal1 area e (refl, second)
by_tests f area true true false first second e = along f Journal0 area e (refl, first)
by_tests f area true true true first second e = along f Journal1 area e (refl, second)

of_fronts : (f : Area → Front) (area : Area) → counted_of (f Journal0) (f Journal1) ≡ Some area → IsOpenJournal f area
unfolding counted_of second_counts
of_fronts f area e = by_tests f area (is_open (f Journal0)) (is_open (f Journal1))
    (has_magic (f Journal0) && (not (has_magic (f Journal1)) || nat_lt (f Journal0).epoch (f Journal1).epoch)) refl refl e

pub open_counted : (c : Image) (area : Area) → counted c ≡ Some area → IsOpenJournal (λ a. front_of (c a)) area
open_counted c area e = of_fronts (λ a. front_of (c a)) area e

-- the first area counts where it alone is open
pub first_counts : (first second : Front) → is_open first ≡ true → is_open second ≡ false → counted_of first second ≡ Some Journal0
unfolding counted_of second_counts
first_counts first second one two = rw (one, two) refl

-- and so does either area
pub alone_counts : (f : Area → Front) (area : Area) → is_journal area ≡ true → is_open (f area) ≡ true → is_open (f (other area)) ≡ false → counted_of (f Journal0) (f Journal1) ≡ Some area
unfolding counted_of second_counts
alone_counts f Journal0 is one two = rw (one, two) refl
alone_counts f Journal1 is one two = rw (one, two) refl
alone_counts f Blocks is one two = absurd (cc)
alone_counts f Archive is one two = absurd (cc)

-- of two open areas with the magic, the one with the greater epoch counts
pub newer_counts : (f : Area → Front) (area : Area) → is_journal area ≡ true → is_open (f area) ≡ true → is_open (f (other area)) ≡ true → has_magic (f area) ≡ true → has_magic (f (other area)) ≡ true
    → nat_lt (f area).epoch (f (other area)).epoch ≡ true → nat_lt (f (other area)).epoch (f area).epoch ≡ false → counted_of (f Journal0) (f Journal1) ≡ Some (other area)
unfolding counted_of second_counts
newer_counts f Journal0 is one two one_magic two_magic less not_less = rw (one, two, one_magic, two_magic, less) refl
newer_counts f Journal1 is one two one_magic two_magic less not_less = rw (one, two, one_magic, two_magic, not_less) refl
newer_counts f Blocks is one two one_magic two_magic less not_less = absurd (cc)
newer_counts f Archive is one two one_magic two_magic less not_less = absurd (cc)
