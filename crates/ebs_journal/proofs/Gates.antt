-- What a journal's area stands for while a record is added.
use Rattle.std.proofs.Common.{◌≡◌, ◌⊎◌, inl, inr, ℕ, ◌+◌, ◌-◌, ◌^◌, ◌<◌, ◌≤◌, List, [], ◌∷◌, ◌++◌, length, sym, ◌∙◌, ap, subst, arith, append_assoc, length-append}
use Rattle.std.proofs.lemmas.List.{append-nil}
use Rattle.std.proofs.lemmas.Bool.{cases_eq}
use Rattle.ebs_world.specs.Image.{Spells}
use Rattle.ebs_world.specs.inner.Runs.{spells_same, spells_append, spells_front, spells_back}
use Rattle.ebs_journal.specs.Format.{entry, entries, head_of, open_head, Has, IsRecord, AllRecords, IsShort}
use Rattle.ebs_journal.specs.inner.Format.{Staged}

pub entries_push : (rs : List (List ℕ)) (r : List ℕ) → entries (rs ++ r ∷ []) ≡ entries rs ++ 1 ∷ entry r
entries_push [] r = append-nil (1 ∷ entry r)
entries_push (q ∷ rs) r = ap (λ (l : List ℕ). (1 ∷ entry q) ++ l) (entries_push rs r) ∙ sym (append_assoc (1 ∷ entry q) (entries rs) (1 ∷ entry r))

pub length-entry : (r : List ℕ) → length (entry r) ≡ 4 + length r
length-entry r = omega arith

pub length-head : (epoch : ℕ) (checkpoint : List ℕ) → length (open_head epoch checkpoint) ≡ 29 + length checkpoint
unfolding head_of
length-head epoch checkpoint = omega arith

pub all_push : (rs : List (List ℕ)) (r : List ℕ) → AllRecords rs → IsRecord r → AllRecords (rs ++ r ∷ [])
all_push [] r all one = (one, tt)
all_push (q ∷ rs) r all one = (all.0, all_push rs r all.1 one)

pub all_front : (rs : List (List ℕ)) (r : List ℕ) → AllRecords (rs ++ r ∷ []) → AllRecords rs
all_front [] r all = tt
all_front (q ∷ rs) r all = (all.0, all_front rs r all.1)

module _ (f g : ℕ → ℕ) (head : List ℕ) (rs : List (List ℕ)) where
  -- bytes behind the gate don't count
  pub has_behind : Has f head rs → ((i : ℕ) → i < length (head ++ entries rs) + 1 → g i ≡ f i) → Has g head rs
  has_behind has same = record {
    spelled = spells_same f g 0 (head ++ entries rs) (λ i from below. same i (omega (arith, below))) has.spelled;
    shut = λ is. has.shut (sym (same (length (head ++ entries rs)) (omega arith)) ∙ is);
  }

  -- nor does the gate of a staged record
  pub staged_gate : (r : List ℕ) → Staged f head rs r → ((i : ℕ) → (i < length (head ++ entries rs)) ⊎ (length (head ++ entries rs) + 1 ≤ i) → g i ≡ f i) → Staged g head rs r
  staged_gate r staged same = record {
    spelled = spells_same f g 0 (head ++ entries rs) (λ i from below. same i (inl (omega (arith, below)))) staged.spelled;
    behind = spells_same f g (length (head ++ entries rs) + 1) (entry r ++ 0 ∷ []) (λ i from below. same i (inr from)) staged.behind;
  }

module _ (head : List ℕ) (rs : List (List ℕ)) (r : List ℕ) where
  pub whole : head ++ entries (rs ++ r ∷ []) ≡ (head ++ entries rs) ++ 1 ∷ entry r
  whole = ap (λ (l : List ℕ). head ++ l) (entries_push rs r) ∙ sym (append_assoc head (entries rs) (1 ∷ entry r))

  pub length_whole : length (head ++ entries (rs ++ r ∷ [])) ≡ length (head ++ entries rs) + (5 + length r)
  length_whole = ap length whole ∙ length-append (head ++ entries rs) (1 ∷ entry r) ∙ omega arith

  -- an open gate in front of the staged record
  pub staged_open : (f : ℕ → ℕ) → Staged f head rs r → f (length (head ++ entries rs)) ≡ 1 → Has f head (rs ++ r ∷ [])
  staged_open f staged is_open = record {
    spelled = subst (λ (l : List ℕ). Spells f 0 l) (sym whole)
        (spells_append f 0 (head ++ entries rs) (1 ∷ entry r) staged.spelled
        (subst (λ (n : ℕ). Spells f n (1 ∷ entry r)) (omega arith) (is_open, spells_front f (length (head ++ entries rs) + 1) (entry r) (0 ∷ []) staged.behind)));
    shut = λ is. let closed : f (length (head ++ entries rs) + 1 + length (entry r)) ≡ 0 = (spells_back f (length (head ++ entries rs) + 1) (entry r) (0 ∷ []) staged.behind).0 in
        let there : length (head ++ entries rs) + 1 + length (entry r) ≡ length (head ++ entries (rs ++ r ∷ [])) = omega (arith, length_whole, length-entry r) in
        omega (arith, sym closed ∙ ap f there ∙ is);
  }

  pub staged_either : (f : ℕ → ℕ) → Staged f head rs r → Has f head rs ⊎ Has f head (rs ++ r ∷ [])
  staged_either f staged = elim (cases_eq (f (length (head ++ entries rs))) 1) [
    | inl is_open ↦ inr (staged_open f staged is_open)
    | inr shut ↦ inl (record { spelled = staged.spelled; shut = shut })
  ]

module _ (epoch : ℕ) (checkpoint : List ℕ) (rs : List (List ℕ)) (r : List ℕ) where
  -- one record more is within the limits where the records end early enough
  pub short_push : IsShort epoch checkpoint rs → IsRecord r → length (open_head epoch checkpoint ++ entries rs) + 1 ≤ 2 ^ 62 - 2 ^ 22 → IsShort epoch checkpoint (rs ++ r ∷ [])
  short_push short one early = record {
    epoch_fits = short.epoch_fits;
    checkpoint_fits = short.checkpoint_fits;
    records = all_push rs r short.records one;
    ends = omega (arith, early, one.1, length_whole (open_head epoch checkpoint) rs r);
  }

  pub short_front : IsShort epoch checkpoint (rs ++ r ∷ []) → IsShort epoch checkpoint rs
  short_front short = record {
    epoch_fits = short.epoch_fits;
    checkpoint_fits = short.checkpoint_fits;
    records = all_front rs r short.records;
    ends = omega (arith, short.ends, length_whole (open_head epoch checkpoint) rs r);
  }
