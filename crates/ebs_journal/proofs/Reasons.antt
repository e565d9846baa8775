-- One reason to refuse stands at most.
use Rattle.std.proofs.Common.{◌≡◌, ◌⊎◌, inl, inr, ℕ, ◌+◌, ◌-◌, ◌≤◌, ◌^◌, List, [], ◌∷◌, length, true, false, Some, None, refl, sym, ◌∙◌, ap, subst, arith, length-append}
use Rattle.std.specs.Int.{w32, to_be_bytes}
use Rattle.ebs_world.specs.declared.area.Area.{Area}
use Rattle.ebs_world.specs.declared.area.Area.TheVariants.{Journal0}
use Rattle.ebs_world.specs.Image.{Image, Spells}
use Rattle.ebs_world.specs.inner.Runs.{spells_front, spells_back}
use Rattle.ebs_journal.specs.declared.front.Front.{Front}
use Rattle.ebs_journal.specs.declared.refusal.JournalRefusal.{JournalRefusal}
use Rattle.ebs_journal.specs.declared.refusal.JournalRefusal.TheVariants.{DiskFailed, NotMade, NotAJournal, BadVersion, BadLength, Memory}
use Rattle.ebs_journal.specs.Format.{entry, entries, IsRecord, AllRecords}
use Rattle.ebs_journal.specs.Opening.{front_of, has_magic, counted, Counts, IsMade, IsBadLength, IsBadRecord, IsRefused}
use Rattle.ebs_journal.specs.inner.Opening.{IsFault}
use Rattle.ebs_journal.proofs.Gates.{length-entry}
use Rattle.ebs_journal.proofs.Unique.{short_one, entry_one}

-- a bad length stands behind no record that ends early enough
bad_here : (f : ℕ → ℕ) (at : ℕ) (r : List ℕ) (rs : List (List ℕ)) → IsRecord r → Spells f at (entries (r ∷ rs)) → at + length (entries (r ∷ rs)) ≤ 2 ^ 62 - 2 ^ 21 → IsBadLength f at → ⊥
bad_here f at r rs one spelled within bad =
    let size : bad.n ≡ length r = short_one f (at + 1) bad.n (length r) bad.small (omega (arith, one.1)) bad.length_is
    (spells_front f (at + 1) (to_be_bytes w32 (length r)) r (spells_front f (at + 1) (entry r) (entries rs) spelled.1)) in
    let long : length (entries (r ∷ rs)) ≡ 5 + length r + length (entries rs) = omega (arith, length-append (1 ∷ entry r) (entries rs), length-entry r) in
    elim bad.bad [
      | inl none ↦ omega (arith, size, none, one.0)
      | inr more ↦ elim more [
        | inl great ↦ omega (arith, size, great, one.1)
        | inr late ↦ omega (arith, size, late, long, within)
      ]
    ]

pub bad_one : (f : ℕ → ℕ) (at m n : ℕ) (qs rs : List (List ℕ)) → AllRecords qs → AllRecords rs → Spells f at (entries qs) → Spells f at (entries rs) → m ≡ at + length (entries qs) → n ≡ at + length (entries rs)
    → m ≤ 2 ^ 62 - 2 ^ 21 → n ≤ 2 ^ 62 - 2 ^ 21 → IsBadLength f m → IsBadLength f n → m ≡ n
bad_one f at m n [] [] all_q all_r one two m_is n_is m_within n_within m_bad n_bad = omega (arith, m_is, n_is)
bad_one f at m n [] (r ∷ rs) all_q all_r one two m_is n_is m_within n_within m_bad n_bad =
    absurd (bad_here f at r rs all_r.0 two (omega (arith, n_is, n_within)) (subst (IsBadLength f) (omega (arith, m_is)) m_bad))
bad_one f at m n (q ∷ qs) [] all_q all_r one two m_is n_is m_within n_within m_bad n_bad =
    absurd (bad_here f at q qs all_q.0 one (omega (arith, m_is, m_within)) (subst (IsBadLength f) (omega (arith, n_is)) n_bad))
bad_one f at m n (q ∷ qs) (r ∷ rs) all_q all_r one two m_is n_is m_within n_within m_bad n_bad =
    let same : q ≡ r = entry_one f (at + 1) q r all_q.0 all_r.0 (spells_front f (at + 1) (entry q) (entries qs) one.1) (spells_front f (at + 1) (entry r) (entries rs) two.1) in
    let next = at + 1 + length (entry q) in
    let back_q : Spells f next (entries qs) = spells_back f (at + 1) (entry q) (entries qs) one.1 in
    let back_r : Spells f next (entries rs) = subst (λ (k : ℕ). Spells f k (entries rs)) (ap (λ (l : List ℕ). at + 1 + length (entry l)) (sym same)) (spells_back f (at + 1) (entry r) (entries rs) two.1) in
    let size_q : length (entries (q ∷ qs)) ≡ 1 + length (entry q) + length (entries qs) = omega (arith, length-append (1 ∷ entry q) (entries qs)) in
    let size_r : length (entries (r ∷ rs)) ≡ 1 + length (entry q) + length (entries rs) = omega (arith, length-append (1 ∷ entry r) (entries rs), ap length same) in
    bad_one f next m n qs rs all_q.1 all_r.1 back_q back_r (omega (arith, m_is, size_q)) (omega (arith, n_is, size_r)) m_within n_within m_bad n_bad

bad_record_one : (f : ℕ → ℕ) (first m n : ℕ) → IsBadRecord f first m → IsBadRecord f first n → m ≡ n
bad_record_one f first m n one two = bad_one f first m n one.before two.before one.runs.records two.runs.records one.runs.spelled two.runs.spelled one.runs.ends two.runs.ends one.within two.within one.bad two.bad

module _ (c : Image) where
  same_area : (a b : Area) (f g : Front) → Counts c a f → Counts c b g → a ≡ b
  same_area a b f g one two = let both : Some a ≡ Some b = sym one.counts ∙ two.counts in cc

  same_front : (a b : Area) (f g : Front) → Counts c a f → Counts c b g → f ≡ g
  same_front a b f g one two = one.front_is ∙ ap (λ (x : Area). front_of (c x)) (same_area a b f g one two) ∙ sym two.front_is

  IsStrange : List ℕ → Type 0
  IsStrange nine = (IsMade c × (counted c ≡ None) × (nine ≡ (front_of (c Journal0)).nine))
      ⊎ ((area : Area) × (front : Front) × Counts c area front × (has_magic front ≡ false) × (nine ≡ front.nine))

  no_none : (a : Area) (f : Front) → Counts c a f → counted c ≡ None → ⊥
  no_none a f counts none = let both : None ≡ Some a = sym none ∙ counts.counts in absurd (cc)

  strange_made : (nine : List ℕ) → IsRefused c (NotAJournal nine) → IsMade c
  strange_made nine why = elim why [ inl none ↦ none.0 | inr other ↦ other.2.made ]

  -- no area with the magic counts where that refusal stands
  strange_no : (nine : List ℕ) → IsRefused c (NotAJournal nine) → (a : Area) (f : Front) → Counts c a f → has_magic f ≡ true → ⊥
  strange_no nine why a f counts is = elim why [
    | inl none ↦ no_none a f counts none.1
    | inr other ↦ let both : false ≡ true = sym other.3 ∙ ap has_magic (same_front other.0 a other.1 f other.2 counts) ∙ is in absurd (cc)
  ]

  strange_one : (m n : List ℕ) → IsRefused c (NotAJournal m) → IsRefused c (NotAJournal n) → m ≡ n
  strange_one m n one two = elim one [
    | inl first ↦ elim two [
      | inl second ↦ first.2 ∙ sym second.2
      | inr second ↦ absurd (no_none second.0 second.1 second.2 first.1)
    ]
    | inr first ↦ elim two [
      | inl second ↦ absurd (no_none first.0 first.1 first.2 second.1)
      | inr second ↦ first.4 ∙ ap (λ (f : Front). f.nine) (same_front first.0 second.0 first.1 second.1 first.2 second.2) ∙ sym second.4
    ]
  ]

  version_one : (m n : ℕ) → IsRefused c (BadVersion m) → IsRefused c (BadVersion n) → m ≡ n
  version_one m n one two = one.4 ∙ ap (λ (f : Front). f.version) (same_front one.0 two.0 one.1 two.1 one.2 two.2) ∙ sym two.4

  version_no : (n place : ℕ) → IsRefused c (BadVersion n) → IsRefused c (BadLength place) → ⊥
  version_no n place one two = one.5 (one.4 ∙ ap (λ (f : Front). f.version) (same_front one.0 two.0 one.1 two.1 one.2 two.2) ∙ two.4)

  length_one : (m n : ℕ) → IsRefused c (BadLength m) → IsRefused c (BadLength n) → m ≡ n
  length_one m n one two =
      let size = ap (λ (f : Front). f.length) (same_front one.0 two.0 one.1 two.1 one.2 two.2) in
      elim one.5 [
        | inl first ↦ elim two.5 [
          | inl second ↦ first.0 ∙ sym second.0
          | inr second ↦ absurd (omega (arith, size, first.1, second.0))
        ]
        | inr first ↦ elim two.5 [
          | inl second ↦ absurd (omega (arith, size, first.0, second.1))
          | inr second ↦ bad_record_one (c one.0) (29 + one.1.length) m n first.1
              (subst (λ (k : ℕ). IsBadRecord (c one.0) (29 + k) n) (sym size)
              (subst (λ (a : Area). IsBadRecord (c a) (29 + two.1.length) n) (sym (same_area one.0 two.0 one.1 two.1 one.2 two.2)) second.1))
        ]
      ]

  pub reason_one : (first second : JournalRefusal) → IsRefused c first → IsRefused c second → (first ≡ second) ⊎ (IsFault first ⊎ IsFault second)
  reason_one DiskFailed second one two = inr (inl (inl refl))
  reason_one Memory second one two = inr (inl (inr refl))
  reason_one NotMade DiskFailed one two = inr (inr (inl refl))
  reason_one NotMade Memory one two = inr (inr (inr refl))
  reason_one NotMade NotMade one two = inl refl
  reason_one NotMade (NotAJournal n) one two = absurd (strange_made n two one)
  reason_one NotMade (BadVersion n) one two = absurd (two.2.made one)
  reason_one NotMade (BadLength n) one two = absurd (two.2.made one)
  reason_one (NotAJournal m) DiskFailed one two = inr (inr (inl refl))
  reason_one (NotAJournal m) Memory one two = inr (inr (inr refl))
  reason_one (NotAJournal m) NotMade one two = absurd (strange_made m one two)
  reason_one (NotAJournal m) (NotAJournal n) one two = inl (ap NotAJournal (strange_one m n one two))
  reason_one (NotAJournal m) (BadVersion n) one two = absurd (strange_no m one two.0 two.1 two.2 two.3)
  reason_one (NotAJournal m) (BadLength n) one two = absurd (strange_no m one two.0 two.1 two.2 two.3)
  reason_one (BadVersion m) DiskFailed one two = inr (inr (inl refl))
  reason_one (BadVersion m) Memory one two = inr (inr (inr refl))
  reason_one (BadVersion m) NotMade one two = absurd (one.2.made two)
  reason_one (BadVersion m) (NotAJournal n) one two = absurd (strange_no n two one.0 one.1 one.2 one.3)
  reason_one (BadVersion m) (BadVersion n) one two = inl (ap BadVersion (version_one m n one two))
  reason_one (BadVersion m) (BadLength n) one two = absurd (version_no m n one two)
  reason_one (BadLength m) DiskFailed one two = inr (inr (inl refl))
  reason_one (BadLength m) Memory one two = inr (inr (inr refl))
  reason_one (BadLength m) NotMade one two = absurd (one.2.made two)
  reason_one (BadLength m) (NotAJournal n) one two = absurd (strange_no n two one.0 one.1 one.2 one.3)
  reason_one (BadLength m) (BadVersion n) one two = absurd (version_no n m two one)
  reason_one (BadLength m) (BadLength n) one two = inl (ap BadLength (length_one m n one two))
