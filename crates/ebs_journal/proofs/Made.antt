-- The steps of making a journal.
use Rattle.std.proofs.Common.{◌≡◌, ◌≢◌, ◌⊎◌, inl, inr, ℕ, ◌+◌, ◌^◌, ◌≤◌, List, [], ◌∷◌, ◌++◌, length, Option, true, false, refl, sym, ◌∙◌, ap, subst, arith, length-append}
use Rattle.std.proofs.lemmas.List.{append-nil}
use Rattle.std.proofs.lemmas.Bool.{cases_eq, eq-eqb}
use Rattle.ebs_world.specs.declared.area.Area.{Area}
use Rattle.ebs_world.specs.declared.area.Area.TheVariants.{Journal0, Journal1, Archive}
use Rattle.ebs_world.specs.Image.{Image, Spells, IsOutside, Was, Durable}
use Rattle.ebs_world.specs.View.{View, Leaves, Ran}
use Rattle.ebs_world.specs.inner.Runs.{ran_on, ran_weaker, leaves_on, leaves_weaker, was_on, spells_same, spells_front, spells_back}
use Rattle.ebs_journal.specs.Format.{head_of, open_head}
use Rattle.ebs_journal.specs.inner.Line.{Line}
use Rattle.ebs_journal.specs.Opening.{front_of, is_open, counted, counted_of, IsMade, IsJournal, OffMaking}
use Rattle.ebs_journal.specs.inner.Standing.{OffFirst, OffMarks, IsSettled}
use Rattle.ebs_journal.proofs.Counting.{first_counts}
use Rattle.ebs_journal.proofs.Gates.{length-head}

pub zero_one : Journal0 ≢ Journal1
zero_one e = absurd (cc)

pub one_zero : Journal1 ≢ Journal0
one_zero e = absurd (cc)

pub zero_archive : Journal0 ≢ Archive
zero_archive e = absurd (cc)

pub archive_zero : Archive ≢ Journal0
archive_zero e = absurd (cc)

pub archive_one : Archive ≢ Journal1
archive_one e = absurd (cc)

pub one_archive : Journal1 ≢ Archive
one_archive e = absurd (cc)

open_front : (f : ℕ → ℕ) → f 0 ≡ 1 → is_open (front_of f) ≡ true
unfolding front_of
open_front f e = eq-eqb (f 0) 1 e

shut_front : (f : ℕ → ℕ) → f 0 ≡ 0 → is_open (front_of f) ≡ false
unfolding front_of
shut_front f e = rw e refl

pub journal_made : (c : Image) (checkpoint : List ℕ) → length checkpoint ≤ 2 ^ 40 → IsMade c → Spells (c Journal0) 0 (1 ∷ (head_of 1 checkpoint ++ 0 ∷ [])) → c Journal1 0 ≡ 0 → IsJournal c Journal0 1 checkpoint []
journal_made c checkpoint fits made spelled shut = record {
  made = made;
  counts = first_counts (front_of (c Journal0)) (front_of (c Journal1)) (open_front (c Journal0) spelled.0) (shut_front (c Journal1) shut);
  short = record { epoch_fits = omega arith; checkpoint_fits = fits; records = tt; ends = omega (arith, fits, length-head 1 checkpoint, length-append (open_head 1 checkpoint) []) };
  has = record {
    spelled = subst (λ (l : List ℕ). Spells (c Journal0) 0 l) (sym (append-nil (open_head 1 checkpoint))) (spells_front (c Journal0) 0 (open_head 1 checkpoint) (0 ∷ []) spelled);
    shut = λ is.
        let closed : c Journal0 (0 + length (open_head 1 checkpoint)) ≡ 0 = (spells_back (c Journal0) 0 (open_head 1 checkpoint) (0 ∷ []) spelled).0 in
        let there : 0 + length (open_head 1 checkpoint) ≡ length (open_head 1 checkpoint ++ []) = omega (arith, length-append (open_head 1 checkpoint) []) in
        omega (arith, sym closed ∙ ap (c Journal0) there ∙ is);
  };
}

-- the first area after its gate is open
pub first_spelled : (old mid new : View) → Ran (IsOutside Journal0 0 1) mid new → (bytes tail : List ℕ) → bytes ≡ 0 ∷ tail → mid.tells ≡ true → Spells (mid.reads Journal0) 0 bytes → Spells (new.reads Journal0) 0 (1 ∷ [])
    → Spells (new.reads Journal0) 0 (1 ∷ tail)
first_spelled old mid new second bytes tail is told written gate =
    let whole : Spells (mid.reads Journal0) 0 (0 ∷ tail) = subst (λ (l : List ℕ). Spells (mid.reads Journal0) 0 l) is written in
    (gate.0, spells_same (mid.reads Journal0) (new.reads Journal0) 1 tail (λ i from below. second.kept told Journal0 i (inr (inr from))) whole.1)

pub off_first : (n : ℕ) (a : Area) (i : ℕ) → OffFirst a i → IsOutside Journal0 0 n a i
off_first n a i off = inl off

pub first_ran : (old mid new : View) (m n : ℕ) → Ran (IsOutside Journal0 0 m) old mid → Ran (IsOutside Journal0 0 n) mid new → Ran OffFirst old new
first_ran old mid new m n first second = ran_on OffFirst old mid new (ran_weaker (IsOutside Journal0 0 m) OffFirst old mid (off_first m) first) (ran_weaker (IsOutside Journal0 0 n) OffFirst mid new (off_first n) second)

pub marks_first : (old new : View) → Ran (IsOutside Journal1 0 1) old new → Ran OffMarks old new
marks_first old new ran = ran_weaker (IsOutside Journal1 0 1) OffMarks old new (λ a i off. off.0) ran

pub marks_second : (old new : View) → Ran (IsOutside Archive 0 1) old new → Ran OffMarks old new
marks_second old new ran = ran_weaker (IsOutside Archive 0 1) OffMarks old new (λ a i off. off.1) ran

-- while the second area's gate is closed
abbrev pub IsMarking : View → Image → Type 0
IsMarking old c = Was (IsOutside Journal1 0 1) old.may_leave c ⊎ (Was OffMarks old.may_leave c × (c Journal1 0 ≡ 0))

pub marking_first : (old mid : View) → Ran (IsOutside Journal1 0 1) old mid → old.honest ≡ true → Leaves old mid (IsMarking old)
marking_first old mid first honest = leaves_weaker old mid (Was (IsOutside Journal1 0 1) old.may_leave) (IsMarking old) (λ c was. inl was) (first.moments honest)

pub marking : (old mid new : View) → Ran (IsOutside Journal1 0 1) old mid → Ran (IsOutside Archive 0 1) mid new → old.honest ≡ true → Durable Journal1 mid.reads mid.may_leave → mid.reads Journal1 0 ≡ 0 → Leaves old new (IsMarking old)
marking old mid new first second honest durable shut = leaves_on old mid new (IsMarking old) (marking_first old mid first honest)
    (leaves_weaker mid new (Was (IsOutside Archive 0 1) mid.may_leave) (IsMarking old) (λ c was. inr (
      was_on OffMarks old.may_leave mid.may_leave ((marks_first old mid first).images honest) c (was.0, was.1, λ a i off. was.2 a i off.1),
      was.2 Journal1 0 (inl one_archive) ∙ durable was.0 was.1 0 ∙ shut,
    )) (second.moments (first.kept_honest ∙ honest)))

-- what a sync of one area made durable stays so where that area isn't written
pub durable_off : (area : Area) (P : Area → ℕ → Type 0) (mid new : View) → Ran P mid new → ((i : ℕ) → P area i) → mid.tells ≡ true → mid.honest ≡ true → Durable area mid.reads mid.may_leave → Durable area new.reads new.may_leave
durable_off area P mid new ran off told honest durable c now i =
    let was = ran.images honest c now in
    was.2 area i (off i) ∙ durable was.0 was.1 i ∙ sym (ran.kept told area i (off i))

-- the whole making
module _ (old mid : View) (checkpoint : List ℕ) (fits : length checkpoint ≤ 2 ^ 40) (first : Ran OffFirst old mid) (told : old.tells ≡ true) (honest : old.honest ≡ true) (unmade : (c : Image) → old.may_leave c → c Archive 0 ≡ 0) where
  abbrev pub IsZeroOrMade : Image → Type 0
  IsZeroOrMade c = (c Archive 0 ≡ 0) ⊎ IsJournal c Journal0 1 checkpoint []

  zero_yet : (c : Image) → Was OffFirst old.may_leave c → c Archive 0 ≡ 0
  zero_yet c was = was.2 Archive 0 archive_zero ∙ unmade was.0 was.1

  pub unmade_moments : Leaves old mid IsZeroOrMade
  unmade_moments = leaves_weaker old mid (Was OffFirst old.may_leave) IsZeroOrMade (λ c was. inl (zero_yet c was)) (first.moments honest)

  module _ (spelled : Spells (mid.reads Journal0) 0 (1 ∷ (head_of 1 checkpoint ++ 0 ∷ []))) (durable : Durable Journal0 mid.reads mid.may_leave) (new : View) (second : Leaves mid new (IsMarking mid)) where
    ready : (c : Image) → mid.may_leave c → Spells (c Journal0) 0 (1 ∷ (head_of 1 checkpoint ++ 0 ∷ []))
    ready c now = spells_same (mid.reads Journal0) (c Journal0) 0 (1 ∷ (head_of 1 checkpoint ++ 0 ∷ [])) (λ i from below. durable c now i) spelled

    whole_or_zero : (c : Image) → Was OffMarks mid.may_leave c → c Journal1 0 ≡ 0 → IsZeroOrMade c
    whole_or_zero c was shut = elim (cases_eq (c Archive 0) 0) [
      | inl zero ↦ inl zero
      | inr made ↦ inr (journal_made c checkpoint fits made
          (spells_same (was.0 Journal0) (c Journal0) 0 (1 ∷ (head_of 1 checkpoint ++ 0 ∷ [])) (λ i from below. was.2 Journal0 i (inl zero_one, inl zero_archive)) (ready was.0 was.1)) shut)
    ]

    pub making_moments : Leaves old new IsZeroOrMade
    making_moments = leaves_on old mid new IsZeroOrMade unmade_moments (leaves_weaker mid new (IsMarking mid) IsZeroOrMade
        (λ c is. elim is [
          | inl was ↦ inl (was.2 Archive 0 (inl archive_one) ∙ zero_yet was.0 (first.images honest was.0 was.1))
          | inr marked ↦ whole_or_zero c marked.0 marked.1
        ]) second)

-- one piece more was put behind
pub extended : {old new piece : List ℕ} (was more : List ℕ) → old ≡ was → new ≡ old ++ piece → piece ≡ more → new ≡ was ++ more
extended was more e is p = is ∙ (λ k. e k ++ p k)

pub making_first : (old new : View) → Ran OffFirst old new → Ran OffMaking old new
making_first old new ran = ran_weaker OffFirst OffMaking old new (λ a i off. off.0.0) ran

pub making_second : (old new : View) → Ran OffMarks old new → Ran OffMaking old new
making_second old new ran = ran_weaker OffMarks OffMaking old new (λ a i off. (inl off.0.1, off.1)) ran

module _ (mid new : View) (checkpoint : List ℕ) (fits : length checkpoint ≤ 2 ^ 40) (second : Ran OffMarks mid new) (told : mid.tells ≡ true) where
  pub made_there : Spells (mid.reads Journal0) 0 (1 ∷ (head_of 1 checkpoint ++ 0 ∷ [])) → new.reads Journal1 0 ≡ 0 → new.reads Archive 0 ≡ 1 → IsJournal new.reads Journal0 1 checkpoint []
  made_there spelled closed marked = journal_made new.reads checkpoint fits (λ is. omega (arith, sym marked ∙ is))
      (spells_same (mid.reads Journal0) (new.reads Journal0) 0 (1 ∷ (head_of 1 checkpoint ++ 0 ∷ [])) (λ i from below. second.kept told Journal0 i (inl zero_one, inl zero_archive)) spelled) closed

  -- an image is a journal where its areas but Blocks are as they are read
  made_image : (c : Image) → ((i : ℕ) → c Journal0 i ≡ new.reads Journal0 i) → ((i : ℕ) → c Journal1 i ≡ new.reads Journal1 i) → ((i : ℕ) → c Archive i ≡ new.reads Archive i)
      → IsJournal new.reads Journal0 1 checkpoint [] → IsJournal c Journal0 1 checkpoint []
  made_image c first_same second_same third_same made = record {
    made = λ is. made.made (sym (third_same 0) ∙ is);
    counts = subst (λ (o : Option Area). counted c ≡ o) made.counts (λ k. counted_of (front_of (λ i. first_same i k)) (front_of (λ i. second_same i k)));
    short = made.short;
    has = record {
      spelled = spells_same (new.reads Journal0) (c Journal0) 0 (open_head 1 checkpoint ++ []) (λ i from below. first_same i) made.has.spelled;
      shut = λ is. made.has.shut (sym (first_same (length (open_head 1 checkpoint ++ []))) ∙ is);
    };
  }

  pub made_settled : mid.honest ≡ true → Durable Journal0 mid.reads mid.may_leave → Durable Journal1 new.reads new.may_leave → Durable Archive new.reads new.may_leave
      → IsJournal new.reads Journal0 1 checkpoint [] → new.reads Journal1 0 ≡ 0
      → (j : Line) → j ≡ record { area = Journal0; epoch = 1; end = 30 + length checkpoint; since_checkpoint = 0; clean = true; shut = true; turning = false } → IsSettled new j checkpoint []
  made_settled honest zero one three made closed j is =
      let zero_there = durable_off Journal0 OffMarks mid new second (λ i. (inl zero_one, inl zero_archive)) told honest zero in
      let end : 30 + length checkpoint ≡ length (open_head 1 checkpoint ++ []) + 1 = omega (arith, length-head 1 checkpoint, length-append (open_head 1 checkpoint) []) in
      let settled : IsSettled new (record { area = Journal0; epoch = 1; end = 30 + length checkpoint; since_checkpoint = 0; clean = true; shut = true; turning = false }) checkpoint [] = record {
        tells = second.told ∙ told;
        honest = second.kept_honest ∙ honest;
        clean = refl;
        still = refl;
        behind = record { end = end; since_checkpoint = refl };
        images = λ c now. made_image c (zero_there c now) (one c now) (three c now) made;
        aside = λ c now is_one. omega (arith, sym (one c now 0 ∙ closed) ∙ is_one);
      } in
      subst (λ (l : Line). IsSettled new l checkpoint []) (sym is) settled
