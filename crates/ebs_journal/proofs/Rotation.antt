-- The steps of a rotation, by the views of the disk before and after each write.
use Rattle.std.proofs.Common.{◌≡◌, ◌≢◌, ◌⊎◌, inl, inr, ℕ, ◌+◌, ◌^◌, ◌<◌, ◌≤◌, List, [], ◌∷◌, ◌++◌, length, Bool, true, false, refl, sym, ◌∙◌, ap, subst, arith, length-append}
use Rattle.std.specs.Int.{w32, w64, to_be_bytes}
use Rattle.std.proofs.lemmas.List.{append-nil}
use Rattle.std.proofs.lemmas.Bool.{cases_eq, lt-ltb, le-ltb}
use Rattle.ebs_world.specs.declared.area.Area.{Area}
use Rattle.ebs_world.specs.declared.area.Area.TheVariants.{Journal0, Journal1, Blocks, Archive}
use Rattle.ebs_world.specs.Image.{Image, Spells, IsOutside, Everywhere, Keeps, Was, Durable}
use Rattle.ebs_world.specs.View.{View, Leaves, Ran}
use Rattle.ebs_world.specs.inner.Runs.{ran_weaker, ran_on, leaves_weaker, leaves_on, spells_same, spells_front, spells_back, spells_append}
use Rattle.ebs_journal.specs.inner.Areas.{is_journal, other}
use Rattle.ebs_journal.specs.Format.{magic, entries, head_of, open_head, Has}
use Rattle.ebs_journal.specs.inner.Line.{Line}
use Rattle.ebs_journal.specs.Opening.{front_of, is_open, IsJournal, OffJournal}
use Rattle.ebs_journal.specs.inner.Standing.{Prevails, IsAside, IsSettled, IsOrNext, IsTurned, IsTurning}
use Rattle.ebs_journal.proofs.Areas.{other_journal, other_twice}
use Rattle.ebs_journal.proofs.Aside.{front_open, front_shut, prevails, own_same, mark_same, prevails_on, journal_on, still_shut, journal_beside}
use Rattle.ebs_journal.proofs.Counting.{alone_counts, newer_counts}
use Rattle.ebs_journal.proofs.Gates.{length-head}
use Rattle.ebs_journal.proofs.Unique.{head_parts, front_magic, front_epoch}

-- the journal's areas are written, and nothing else
off_area : (area : Area) (at n : ℕ) → is_journal area ≡ true → (a : Area) (i : ℕ) → OffJournal a i → IsOutside area at n a i
off_area Journal0 at n is a i off = inl off.0
off_area Journal1 at n is a i off = inl off.1
off_area Blocks at n is a i off = absurd (cc)
off_area Archive at n is a i off = absurd (cc)

pub off_ran : (area : Area) (at n : ℕ) (old new : View) → is_journal area ≡ true → Ran (IsOutside area at n) old new → Ran OffJournal old new
off_ran area at n old new is ran = ran_weaker (IsOutside area at n) OffJournal old new (off_area area at n is) ran

-- a head with a closed gate behind it has no record
pub has_none : (f : ℕ → ℕ) (epoch : ℕ) (checkpoint : List ℕ) → Spells f 0 (open_head epoch checkpoint ++ 0 ∷ []) → Has f (open_head epoch checkpoint) []
has_none f epoch checkpoint spelled = record {
  spelled = subst (λ (l : List ℕ). Spells f 0 l) (sym (append-nil (open_head epoch checkpoint))) (spells_front f 0 (open_head epoch checkpoint) (0 ∷ []) spelled);
  shut = λ is.
      let closed : f (0 + length (open_head epoch checkpoint)) ≡ 0 = (spells_back f 0 (open_head epoch checkpoint) (0 ∷ []) spelled).0 in
      let there : 0 + length (open_head epoch checkpoint) ≡ length (open_head epoch checkpoint ++ []) = omega (arith, length-append (open_head epoch checkpoint) []) in
      omega (arith, sym closed ∙ ap f there ∙ is);
}

-- what either byte of the other area's gate makes of an image
module _ (c : Image) (area : Area) (epoch : ℕ) (checkpoint : List ℕ) (rs : List (List ℕ)) (next : List ℕ) (is : is_journal area ≡ true) (t : IsTurned c area epoch checkpoint rs next) where
  own_open : is_open (front_of (c area)) ≡ true
  own_open = front_open (c area) t.has.spelled.0

  pub turned_old : c (other area) 0 ≢ 1 → IsJournal c area epoch checkpoint rs
  turned_old shut = record { made = t.made; counts = alone_counts (λ a. front_of (c a)) area is own_open (front_shut (c (other area)) shut); short = t.short; has = t.has }

  pub turned_new : c (other area) 0 ≡ 1 → IsJournal c (other area) (epoch + 1) next []
  turned_new one =
      let whole : Spells (c (other area)) 0 (open_head (epoch + 1) next ++ 0 ∷ []) = (one, t.behind) in
      let new = head_parts (c (other area)) (epoch + 1) next (spells_front (c (other area)) 0 (open_head (epoch + 1) next) (0 ∷ []) whole) in
      let old = head_parts (c area) epoch checkpoint (spells_front (c area) 0 (open_head epoch checkpoint) (entries rs) t.has.spelled) in
      let old_epoch = front_epoch (c area) epoch t.short.epoch_fits old.epoch_is in
      let new_epoch = front_epoch (c (other area)) (epoch + 1) t.short_next.epoch_fits new.epoch_is in
      record {
        made = t.made;
        counts = newer_counts (λ a. front_of (c a)) area is own_open (front_open (c (other area)) one) (front_magic (c area) old.is_magic) (front_magic (c (other area)) new.is_magic)
            (lt-ltb (front_of (c area)).epoch (front_of (c (other area))).epoch (omega (arith, old_epoch, new_epoch)))
            (le-ltb (front_of (c (other area))).epoch (front_of (c area)).epoch (omega (arith, old_epoch, new_epoch)));
        short = t.short_next;
        has = has_none (c (other area)) (epoch + 1) next whole;
      }

  pub turned_either : IsJournal c area epoch checkpoint rs ⊎ IsJournal c (other area) (epoch + 1) next []
  turned_either = elim (cases_eq (c (other area) 0) 1) [
    | inl one ↦ inr (turned_new one)
    | inr shut ↦ inl (turned_old shut)
  ]

-- the write of that gate, also where it is torn
pub turned_gate : (c d : Image) (area : Area) (epoch : ℕ) (checkpoint : List ℕ) (rs : List (List ℕ)) (next : List ℕ) → is_journal area ≡ true → Keeps (IsOutside (other area) 0 1) c d
    → IsTurned c area epoch checkpoint rs next → IsTurned d area epoch checkpoint rs next
turned_gate c d area epoch checkpoint rs next is kept t =
    let own = own_same c d area 0 1 is kept in
    record {
      made = λ zero. t.made (sym (mark_same c d area 0 1 is kept) ∙ zero);
      in_journal = is;
      short = t.short;
      has = record {
        spelled = spells_same (c area) (d area) 0 (open_head epoch checkpoint ++ entries rs) (λ i from below. own i) t.has.spelled;
        shut = λ one. t.has.shut (sym (own (length (open_head epoch checkpoint ++ entries rs))) ∙ one);
      };
      short_next = t.short_next;
      behind = spells_same (c (other area)) (d (other area)) 1 (head_of (epoch + 1) next ++ 0 ∷ []) (λ i from below. kept (other area) i (inr (inr from))) t.behind;
    }

module _ (old new : View) (j : Line) (in_journal : is_journal j.area ≡ true) (checkpoint : List ℕ) (rs : List (List ℕ)) (s : IsSettled old j checkpoint rs) where
  -- the other area's gate is closed, where it isn't known
  module _ (ran : Ran (IsOutside (other j.area) 0 1) old new) (unknown : j.shut ≡ false) where
    ahead : (c : Image) → old.may_leave c → Prevails c j.area
    ahead c now = subst (λ (b : Bool). IsAside b c j.area) unknown (s.aside c now)

    closing : (c : Image) → Was (IsOutside (other j.area) 0 1) old.may_leave c → IsJournal c j.area j.epoch checkpoint rs
    closing c was = journal_on was.0 c j.area in_journal was.2 (ahead was.0 was.1) j.epoch checkpoint rs (s.images was.0 was.1)

    pub closing_moments : Leaves old new (λ c. IsJournal c j.area j.epoch checkpoint rs)
    closing_moments = leaves_weaker old new (Was (IsOutside (other j.area) 0 1) old.may_leave) (λ c. IsJournal c j.area j.epoch checkpoint rs) closing (ran.moments s.honest)

    pub closing_settled : IsSettled new j checkpoint rs
    closing_settled = record {
      tells = ran.told ∙ s.tells;
      honest = ran.kept_honest ∙ s.honest;
      clean = s.clean;
      still = s.still;
      behind = s.behind;
      images = λ c now. closing c (ran.images s.honest c now);
      aside = λ c now. let was = ran.images s.honest c now in subst (λ (b : Bool). IsAside b c j.area) (sym unknown) (prevails_on was.0 c j.area in_journal was.2 (ahead was.0 was.1));
    }

    pub closed : Spells (new.reads (other j.area)) 0 (0 ∷ []) → Durable (other j.area) new.reads new.may_leave → IsSettled new (record j { shut = true }) checkpoint rs
    closed written durable = record {
      tells = closing_settled.tells;
      honest = closing_settled.honest;
      clean = s.clean;
      still = s.still;
      behind = record { end = s.behind.end; since_checkpoint = s.behind.since_checkpoint };
      images = closing_settled.images;
      aside = λ c now one. omega (arith, sym (durable c now 0 ∙ written.0) ∙ one);
    }

  -- what stands behind it is written, once it is closed
  module _ (n : ℕ) (ran : Ran (IsOutside (other j.area) 1 n) old new) (shut : j.shut ≡ true) where
    gate : (c : Image) → old.may_leave c → c (other j.area) 0 ≢ 1
    gate c now = subst (λ (b : Bool). IsAside b c j.area) shut (s.aside c now)

    writing : (c : Image) → Was (IsOutside (other j.area) 1 n) old.may_leave c → IsJournal c j.area j.epoch checkpoint rs
    writing c was = journal_beside was.0 c j.area n in_journal was.2 (gate was.0 was.1) j.epoch checkpoint rs (s.images was.0 was.1)

    pub writing_moments : Leaves old new (λ c. IsJournal c j.area j.epoch checkpoint rs)
    writing_moments = leaves_weaker old new (Was (IsOutside (other j.area) 1 n) old.may_leave) (λ c. IsJournal c j.area j.epoch checkpoint rs) writing (ran.moments s.honest)

    pub writing_settled : IsSettled new j checkpoint rs
    writing_settled = record {
      tells = ran.told ∙ s.tells;
      honest = ran.kept_honest ∙ s.honest;
      clean = s.clean;
      still = s.still;
      behind = s.behind;
      images = λ c now. writing c (ran.images s.honest c now);
      aside = λ c now. let was = ran.images s.honest c now in subst (λ (b : Bool). IsAside b c j.area) (sym shut) (still_shut was.0 c j.area n in_journal was.2 (gate was.0 was.1));
    }

    module _ (next : List ℕ) (fits : length next ≤ 2 ^ 40) (few : j.epoch < 2 ^ 62) (written : Spells (new.reads (other j.area)) 1 (head_of (j.epoch + 1) next ++ 0 ∷ []))
        (durable : Durable (other j.area) new.reads new.may_leave) where
      turned : (c : Image) → new.may_leave c → IsTurned c j.area j.epoch checkpoint rs next
      turned c now =
          let was = writing_settled.images c now in
          record {
            made = was.made;
            in_journal = in_journal;
            short = was.short;
            has = was.has;
            short_next = record { epoch_fits = omega (arith, few); checkpoint_fits = fits; records = tt; ends = omega (arith, fits, length-head (j.epoch + 1) next, length-append (open_head (j.epoch + 1) next) []) };
            behind = spells_same (new.reads (other j.area)) (c (other j.area)) 1 (head_of (j.epoch + 1) next ++ 0 ∷ []) (λ i from below. durable c now i) written;
          }

      pub in_doubt : IsTurning new (record j { clean = false; turning = true }) checkpoint rs next
      in_doubt = record {
        tells = writing_settled.tells;
        honest = writing_settled.honest;
        unclean = refl;
        turning = refl;
        behind = record { end = s.behind.end; since_checkpoint = s.behind.since_checkpoint };
        images = turned;
      }

-- the other area's gate is written
module _ (old new : View) (j : Line) (in_journal : is_journal j.area ≡ true) (checkpoint : List ℕ) (rs : List (List ℕ)) (next : List ℕ) (t : IsTurning old j checkpoint rs next)
    (ran : Ran (IsOutside (other j.area) 0 1) old new) where
  torn : (c : Image) → Was (IsOutside (other j.area) 0 1) old.may_leave c → IsTurned c j.area j.epoch checkpoint rs next
  torn c was = turned_gate was.0 c j.area j.epoch checkpoint rs next in_journal was.2 (t.images was.0 was.1)

  pub turning_on : IsTurning new j checkpoint rs next
  turning_on = record { tells = ran.told ∙ t.tells; honest = ran.kept_honest ∙ t.honest; unclean = t.unclean; turning = t.turning; behind = t.behind; images = λ c now. torn c (ran.images t.honest c now) }

  pub turning_moments : Leaves old new (λ c. IsOrNext c j checkpoint rs next)
  turning_moments = leaves_weaker old new (Was (IsOutside (other j.area) 0 1) old.may_leave) (λ c. IsOrNext c j checkpoint rs next)
      (λ c was. turned_either c j.area j.epoch checkpoint rs next in_journal (torn c was)) (ran.moments t.honest)

  module _ (durable : Durable (other j.area) new.reads new.may_leave) where
    gate_is : (c : Image) → new.may_leave c → (b : ℕ) → Spells (new.reads (other j.area)) 0 (b ∷ []) → c (other j.area) 0 ≡ b
    gate_is c now b written = durable c now 0 ∙ written.0

    -- once the closed gate is durable
    pub turned_back : Spells (new.reads (other j.area)) 0 (0 ∷ []) → IsSettled new (record j { clean = true; shut = true; turning = false }) checkpoint rs
    turned_back written =
        let shut : (c : Image) → new.may_leave c → c (other j.area) 0 ≢ 1 = λ c now one. omega (arith, sym (gate_is c now 0 written) ∙ one) in
        record {
          tells = turning_on.tells;
          honest = turning_on.honest;
          clean = refl;
          still = refl;
          behind = record { end = t.behind.end; since_checkpoint = t.behind.since_checkpoint };
          images = λ c now. turned_old c j.area j.epoch checkpoint rs next in_journal (turning_on.images c now) (shut c now);
          aside = shut;
        }

    -- once the open gate is durable
    pub rotated : Spells (new.reads (other j.area)) 0 (1 ∷ [])
        → IsSettled new (record { area = other j.area; epoch = j.epoch + 1; end = 30 + length next; since_checkpoint = 0; clean = true; shut = false; turning = false }) next []
    rotated written =
        let there : (c : Image) → new.may_leave c → IsJournal c (other j.area) (j.epoch + 1) next [] =
        λ c now. turned_new c j.area j.epoch checkpoint rs next in_journal (turning_on.images c now) (gate_is c now 1 written) in
        record {
          tells = turning_on.tells;
          honest = turning_on.honest;
          clean = refl;
          still = refl;
          behind = record { end = omega (arith, length-head (j.epoch + 1) next, length-append (open_head (j.epoch + 1) next) []); since_checkpoint = refl };
          images = there;
          aside = λ c now. prevails c (other j.area) (other_journal j.area) (there c now).counts
              (subst (λ (a : Area). c a 0 ≡ 1) (sym (other_twice j.area in_journal)) (turning_on.images c now).has.spelled.0);
        }

-- a piece of what stands behind an area's gate
pub piece_ran : (area : Area) (at m n : ℕ) (old new : View) → 1 ≤ at → at + m ≤ 30 + n → Ran (IsOutside area at m) old new → Ran (IsOutside area 1 (29 + n)) old new
piece_ran area at m n old new from to ran = ran_weaker (IsOutside area at m) (IsOutside area 1 (29 + n)) old new (λ a i off. elim off [
  | inl apart_from ↦ inl apart_from
  | inr within ↦ elim within [
    | inl below ↦ inr (inl (omega (arith, below, from)))
    | inr past ↦ inr (inr (omega (arith, past, to)))
  ]
]) ran

pub spelled_behind : (f : ℕ → ℕ) (epoch : ℕ) (checkpoint head : List ℕ) → head ≡ magic ++ (to_be_bytes w32 1 ++ (to_be_bytes w64 epoch ++ to_be_bytes w64 (length checkpoint)))
    → Spells f 1 head → Spells f 29 checkpoint → Spells f (29 + length checkpoint) (0 ∷ []) → Spells f 1 (head_of epoch checkpoint ++ 0 ∷ [])
unfolding head_of
spelled_behind f epoch checkpoint head is first second third =
    let front : Spells f 1 (magic ++ (to_be_bytes w32 1 ++ (to_be_bytes w64 epoch ++ to_be_bytes w64 (length checkpoint)))) = subst (λ (l : List ℕ). Spells f 1 l) is first in
    let whole : Spells f 1 (magic ++ (to_be_bytes w32 1 ++ (to_be_bytes w64 epoch ++ (to_be_bytes w64 (length checkpoint) ++ checkpoint)))) =
    spells_append f 1 (magic ++ (to_be_bytes w32 1 ++ (to_be_bytes w64 epoch ++ to_be_bytes w64 (length checkpoint)))) checkpoint front second in
    spells_append f 1 (magic ++ (to_be_bytes w32 1 ++ (to_be_bytes w64 epoch ++ (to_be_bytes w64 (length checkpoint) ++ checkpoint)))) (0 ∷ []) whole
    (subst (λ (n : ℕ). Spells f n (0 ∷ [])) (omega arith) third)

-- the four calls that write it
module _ (area : Area) (v0 v1 v2 v3 v4 : View) (epoch : ℕ) (checkpoint head : List ℕ) (is : head ≡ magic ++ (to_be_bytes w32 1 ++ (to_be_bytes w64 epoch ++ to_be_bytes w64 (length checkpoint))))
    (first : Ran (IsOutside area 1 (length head)) v0 v1) where
  size : length head ≡ 28
  size = ap length is

  pub behind_one : Ran (IsOutside area 1 (29 + length checkpoint)) v0 v1
  behind_one = piece_ran area 1 (length head) (length checkpoint) v0 v1 (omega arith) (omega (arith, size)) first

  module _ (second : Ran (IsOutside area 29 (length checkpoint)) v1 v2) where
    pub behind_two : Ran (IsOutside area 1 (29 + length checkpoint)) v0 v2
    behind_two = ran_on (IsOutside area 1 (29 + length checkpoint)) v0 v1 v2 behind_one (piece_ran area 29 (length checkpoint) (length checkpoint) v1 v2 (omega arith) (omega arith) second)

    module _ (third : Ran (IsOutside area (29 + length checkpoint) 1) v2 v3) where
      pub behind_three : Ran (IsOutside area 1 (29 + length checkpoint)) v0 v3
      behind_three = ran_on (IsOutside area 1 (29 + length checkpoint)) v0 v2 v3 behind_two (piece_ran area (29 + length checkpoint) 1 (length checkpoint) v2 v3 (omega arith) (omega arith) third)

      module _ (synced : Ran Everywhere v3 v4) where
        pub behind_four : Ran (IsOutside area 1 (29 + length checkpoint)) v0 v4
        behind_four = ran_on (IsOutside area 1 (29 + length checkpoint)) v0 v3 v4 behind_three (ran_weaker Everywhere (IsOutside area 1 (29 + length checkpoint)) v3 v4 (λ a i off. tt) synced)

        module _ (told : v0.tells ≡ true) (one : Spells (v1.reads area) 1 head) (two : Spells (v2.reads area) 29 checkpoint) (three : Spells (v3.reads area) (29 + length checkpoint) (0 ∷ [])) where
          told1 : v1.tells ≡ true
          told1 = first.told ∙ told

          told2 : v2.tells ≡ true
          told2 = second.told ∙ told1

          told3 : v3.tells ≡ true
          told3 = third.told ∙ told2

          pub behind_written : Spells (v4.reads area) 1 (head_of epoch checkpoint ++ 0 ∷ [])
          behind_written =
              let last : (i : ℕ) → v4.reads area i ≡ v3.reads area i = λ i. synced.kept told3 area i tt in
              spelled_behind (v4.reads area) epoch checkpoint head is
              (spells_same (v1.reads area) (v4.reads area) 1 head (λ i from below. last i ∙ third.kept told2 area i (inr (inl (omega (arith, below, size)))) ∙ second.kept told1 area i (inr (inl (omega (arith, below, size))))) one)
              (spells_same (v2.reads area) (v4.reads area) 29 checkpoint (λ i from below. last i ∙ third.kept told2 area i (inr (inl (omega (arith, below))))) two)
              (spells_same (v3.reads area) (v4.reads area) (29 + length checkpoint) (0 ∷ []) (λ i from below. last i) three)

-- the three steps, one after the other; k is the journal once the other gate is closed
module _ (v0 v1 : View) (j k : Line) (is : k ≡ record j { shut = true }) (old : List ℕ) (rs : List (List ℕ)) (next : List ℕ) (first : Leaves v0 v1 (λ c. IsJournal c j.area j.epoch old rs)) where
  pub first_leaves : Leaves v0 v1 (λ c. IsOrNext c j old rs next)
  first_leaves = leaves_weaker v0 v1 (λ c. IsJournal c j.area j.epoch old rs) (λ c. IsOrNext c j old rs next) (λ c was. inl was) first

  moved : (c : Image) → IsOrNext c k old rs next → IsOrNext c j old rs next
  moved c either = subst (λ (l : Line). IsOrNext c l old rs next) is either

  module _ (v2 : View) (second : Leaves v1 v2 (λ c. IsJournal c k.area k.epoch old rs)) where
    pub second_leaves : Leaves v0 v2 (λ c. IsOrNext c j old rs next)
    second_leaves = leaves_on v0 v1 v2 (λ c. IsOrNext c j old rs next) first_leaves
        (leaves_weaker v1 v2 (λ c. IsJournal c k.area k.epoch old rs) (λ c. IsOrNext c j old rs next) (λ c was. moved c (inl was)) second)

    pub third_leaves : (v3 : View) → Leaves v2 v3 (λ c. IsOrNext c k old rs next) → Leaves v0 v3 (λ c. IsOrNext c j old rs next)
    third_leaves v3 third = leaves_on v0 v2 v3 (λ c. IsOrNext c j old rs next) second_leaves
        (leaves_weaker v2 v3 (λ c. IsOrNext c k old rs next) (λ c. IsOrNext c j old rs next) moved third)
