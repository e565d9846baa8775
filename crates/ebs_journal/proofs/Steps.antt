-- The steps of an append and of a mend, by the views of the disk before and after each write.
use Rattle.std.proofs.Common.{◌≡◌, inl, inr, ℕ, ◌+◌, ◌-◌, ◌^◌, ◌≤◌, List, [], ◌∷◌, ◌++◌, length, true, false, refl, sym, ◌∙◌, ap, subst, arith, length-append}
use Rattle.ebs_world.specs.Image.{Image, Spells, IsOutside, Keeps, Was, Durable}
use Rattle.ebs_world.specs.View.{View, Leaves, Ran}
use Rattle.ebs_world.specs.inner.Runs.{leaves_weaker, leaves_on, spells_same}
use Rattle.ebs_journal.specs.inner.Areas.{is_journal}
use Rattle.ebs_journal.specs.Format.{entry, entries, open_head, IsRecord}
use Rattle.ebs_journal.specs.inner.Line.{Line}
use Rattle.ebs_journal.specs.Opening.{IsJournal}
use Rattle.ebs_journal.specs.inner.Standing.{IsBehind, IsSettled, IsPending, IsStaged, IsOrAlso, IsAside}
use Rattle.ebs_journal.proofs.Aside.{aside_kept}
use Rattle.ebs_journal.proofs.Fronts.{made_kept, counted_kept}
use Rattle.ebs_journal.proofs.Gates.{has_behind, staged_gate, staged_open, staged_either, short_push, short_front, length_whole, length-head}

-- with another end and number
abbrev pub grown : Line → ℕ → Line
grown j n = record j { end = j.end + (5 + n); since_checkpoint = j.since_checkpoint + 1 }

abbrev pub unsure : Line → Line
unsure j = record j { clean = false }

abbrev pub sure : Line → Line
sure j = record j { clean = true }

module _ (j : Line) (checkpoint : List ℕ) (rs : List (List ℕ)) (in_journal : is_journal j.area ≡ true) (behind : IsBehind j checkpoint rs) where
  -- the byte in front of the journal's end is its last gate, behind the head
  far : 30 ≤ j.end
  far = omega (arith, behind.end, length-head j.epoch checkpoint, length-append (open_head j.epoch checkpoint) (entries rs))

  -- the write behind the last gate, also where it is torn
  pub stays : (c d : Image) (n : ℕ) → Keeps (IsOutside j.area j.end n) c d → IsJournal c j.area j.epoch checkpoint rs → IsJournal d j.area j.epoch checkpoint rs
  stays c d n kept was = record {
    made = made_kept c d j.area j.end n in_journal (omega (arith, far)) kept was.made;
    counts = counted_kept c d j.area j.end n in_journal (omega (arith, far)) kept ∙ was.counts;
    short = was.short;
    has = has_behind (c j.area) (d j.area) (open_head j.epoch checkpoint) rs was.has (λ i below. kept j.area i (inr (inl (omega (arith, behind.end, below)))));
  }

  module _ (r : List ℕ) where
    -- what either gate makes of a staged record
    pub either : (c : Image) → IsStaged c j.area j.epoch checkpoint rs r → IsOrAlso c j checkpoint rs r
    either c s = elim (staged_either (open_head j.epoch checkpoint) rs r (c j.area) s.staged) [
      | inl old ↦ inl (record { made = s.made; counts = s.counts; short = short_front j.epoch checkpoint rs r s.short; has = old })
      | inr new ↦ inr (record { made = s.made; counts = s.counts; short = s.short; has = new })
    ]

    -- the write of the gate, also where it is torn
    pub gate_stays : (c d : Image) → Keeps (IsOutside j.area (j.end - 1) 1) c d → IsStaged c j.area j.epoch checkpoint rs r → IsStaged d j.area j.epoch checkpoint rs r
    gate_stays c d kept was = record {
      made = made_kept c d j.area (j.end - 1) 1 in_journal (omega (arith, far)) kept was.made;
      counts = counted_kept c d j.area (j.end - 1) 1 in_journal (omega (arith, far)) kept ∙ was.counts;
      short = was.short;
      staged = staged_gate (c j.area) (d j.area) (open_head j.epoch checkpoint) rs r was.staged
          (λ i far_off. kept j.area i (inr (elim far_off [ inl below ↦ inl (omega (arith, behind.end, below)) | inr past ↦ inr (omega (arith, behind.end, past)) ])));
    }

    module _ (old new : View) (second : Ran (IsOutside j.area (j.end - 1) 1) old new) (p : IsPending old j checkpoint rs r) where
      torn : (c : Image) → Was (IsOutside j.area (j.end - 1) 1) old.may_leave c → IsStaged c j.area j.epoch checkpoint rs r
      torn c was = gate_stays was.0 c was.2 (p.images was.0 was.1)

      beside : (c : Image) → Was (IsOutside j.area (j.end - 1) 1) old.may_leave c → IsAside j.shut c j.area
      beside c was = aside_kept was.0 c j.area (j.end - 1) 1 in_journal (omega (arith, far)) was.2 j.shut (p.aside was.0 was.1)

      -- the gate isn't known while it is written
      pub pending_on : IsPending new j checkpoint rs r
      pending_on = record { tells = second.told ∙ p.tells; honest = second.kept_honest ∙ p.honest; unclean = p.unclean; still = p.still; behind = behind; images = λ c now. torn c (second.images p.honest c now); aside = λ c now. beside c (second.images p.honest c now) }

      pub pending_moments : Leaves old new (λ c. IsOrAlso c j checkpoint rs r)
      pending_moments = leaves_weaker old new (Was (IsOutside j.area (j.end - 1) 1) old.may_leave) (λ c. IsOrAlso c j checkpoint rs r) (λ c was. either c (torn c was)) (second.moments p.honest)

      module _ (durable : Durable j.area new.reads new.may_leave) where
        gate_is : (c : Image) → new.may_leave c → (b : ℕ) → Spells (new.reads j.area) (j.end - 1) (b ∷ []) → c j.area (length (open_head j.epoch checkpoint ++ entries rs)) ≡ b
        gate_is c now b written = let there : length (open_head j.epoch checkpoint ++ entries rs) ≡ j.end - 1 = omega (arith, behind.end) in ap (c j.area) there ∙ durable c now (j.end - 1) ∙ written.0

        -- once the open gate is durable
        pub acknowledged : Spells (new.reads j.area) (j.end - 1) (1 ∷ []) → IsSettled new (sure (grown j (length r))) checkpoint (rs ++ r ∷ [])
        acknowledged written = record {
          tells = pending_on.tells;
          honest = pending_on.honest;
          clean = refl;
          still = p.still;
          aside = pending_on.aside;
          behind = record {
            end = omega (arith, behind.end, length_whole (open_head j.epoch checkpoint) rs r);
            since_checkpoint = omega (arith, behind.since_checkpoint, length-append rs (r ∷ []));
          };
          images = λ c now. let s = pending_on.images c now in
              record { made = s.made; counts = s.counts; short = s.short; has = staged_open (open_head j.epoch checkpoint) rs r (c j.area) s.staged (gate_is c now 1 written) };
        }

        -- once the closed gate is durable
        pub mended : Spells (new.reads j.area) (j.end - 1) (0 ∷ []) → IsSettled new (sure j) checkpoint rs
        mended written = record {
          tells = pending_on.tells;
          honest = pending_on.honest;
          clean = refl;
          still = p.still;
          aside = pending_on.aside;
          behind = record { end = behind.end; since_checkpoint = behind.since_checkpoint };
          images = λ c now. let s = pending_on.images c now in
              record { made = s.made; counts = s.counts; short = short_front j.epoch checkpoint rs r s.short; has = record { spelled = s.staged.spelled; shut = λ is. omega (arith, sym (gate_is c now 0 written) ∙ is) } };
        }

-- the write of a record behind the last gate, whatever came of it
module _ (old mid : View) (j : Line) (piece : List ℕ) (first : Ran (IsOutside j.area j.end (length piece)) old mid) (in_journal : is_journal j.area ≡ true)
    (checkpoint : List ℕ) (rs : List (List ℕ)) (s : IsSettled old j checkpoint rs) where
  has : (c : Image) → Was (IsOutside j.area j.end (length piece)) old.may_leave c → IsJournal c j.area j.epoch checkpoint rs
  has c was = stays j checkpoint rs in_journal s.behind was.0 c (length piece) was.2 (s.images was.0 was.1)

  far_end : 29 ≤ j.end
  far_end = omega (arith, s.behind.end, length-head j.epoch checkpoint, length-append (open_head j.epoch checkpoint) (entries rs))

  beside_end : (c : Image) → Was (IsOutside j.area j.end (length piece)) old.may_leave c → IsAside j.shut c j.area
  beside_end c was = aside_kept was.0 c j.area j.end (length piece) in_journal far_end was.2 j.shut (s.aside was.0 was.1)

  pub still_settled : IsSettled mid j checkpoint rs
  still_settled = record { tells = first.told ∙ s.tells; honest = first.kept_honest ∙ s.honest; clean = s.clean; still = s.still; behind = s.behind; images = λ c now. has c (first.images s.honest c now); aside = λ c now. beside_end c (first.images s.honest c now) }

  pub first_moments : (r : List ℕ) → Leaves old mid (λ c. IsOrAlso c j checkpoint rs r)
  first_moments r = leaves_weaker old mid (Was (IsOutside j.area j.end (length piece)) old.may_leave) (λ c. IsOrAlso c j checkpoint rs r) (λ c was. inl (has c was)) (first.moments s.honest)

  module _ (r : List ℕ) (one : IsRecord r) (early : j.end ≤ 2 ^ 62 - 2 ^ 22) (is : piece ≡ entry r ++ 0 ∷ []) (written : Spells (mid.reads j.area) j.end piece)
      (durable : Durable j.area mid.reads mid.may_leave) where
    staged : (c : Image) → mid.may_leave c → IsStaged c j.area j.epoch checkpoint rs r
    staged c now =
        let was = still_settled.images c now in
        let spelled : Spells (mid.reads j.area) j.end (entry r ++ 0 ∷ []) = subst (λ (l : List ℕ). Spells (mid.reads j.area) j.end l) is written in
        record {
          made = was.made;
          counts = was.counts;
          short = short_push j.epoch checkpoint rs r was.short one (omega (arith, s.behind.end, early));
          staged = record {
            spelled = was.has.spelled;
            behind = subst (λ (n : ℕ). Spells (c j.area) n (entry r ++ 0 ∷ [])) s.behind.end (spells_same (mid.reads j.area) (c j.area) j.end (entry r ++ 0 ∷ []) (λ i from below. durable c now i) spelled);
          };
        }

    -- the record is behind its closed gate
    pub pending : IsPending mid (unsure j) checkpoint rs r
    pending = record { tells = still_settled.tells; honest = still_settled.honest; unclean = refl; still = s.still; behind = record { end = s.behind.end; since_checkpoint = s.behind.since_checkpoint }; images = staged; aside = still_settled.aside }

    module _ (new : View) (second : Ran (IsOutside j.area (j.end - 1) 1) mid new) where
      pub gate_pending : IsPending new (unsure j) checkpoint rs r
      gate_pending = pending_on (unsure j) checkpoint rs in_journal pending.behind r mid new second pending

      pub moments : Leaves old new (λ c. IsOrAlso c j checkpoint rs r)
      moments = leaves_on old mid new (λ c. IsOrAlso c j checkpoint rs r) (first_moments r) (pending_moments (unsure j) checkpoint rs in_journal pending.behind r mid new second pending)

      pub settled : Spells (new.reads j.area) (j.end - 1) (1 ∷ []) → Durable j.area new.reads new.may_leave → IsSettled new (sure (grown (unsure j) (length r))) checkpoint (rs ++ r ∷ [])
      settled gate_written gate_durable = acknowledged (unsure j) checkpoint rs in_journal pending.behind r mid new second pending gate_durable gate_written
