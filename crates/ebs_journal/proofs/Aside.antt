-- The area that doesn't count, and what changes of it.
use Rattle.std.proofs.Common.{◌≡◌, ◌≢◌, inl, inr, ℕ, zero, suc, ◌<◌, ◌≤◌, List, ◌++◌, length, Bool, true, false, not, Some, refl, sym, ◌∙◌, ap, subst, arith}
use Rattle.std.proofs.lemmas.Bool.{cases_eq, eq-eqb, eqb-true, ne_eqb}
use Rattle.ebs_world.specs.declared.area.Area.{Area}
use Rattle.ebs_world.specs.declared.area.Area.TheVariants.{Archive}
use Rattle.ebs_world.specs.Image.{Image, IsOutside, Keeps}
use Rattle.ebs_world.specs.inner.Runs.{spells_same}
use Rattle.ebs_journal.specs.inner.Areas.{is_journal, other}
use Rattle.ebs_journal.specs.Format.{entries, open_head}
use Rattle.ebs_journal.specs.Opening.{front_of, is_open, counted, IsJournal}
use Rattle.ebs_journal.specs.inner.Standing.{OffGate, OnJournal, Prevails, IsAside}
use Rattle.ebs_journal.proofs.Areas.{apart, other_journal, not_other, one_of}
use Rattle.ebs_journal.proofs.Counting.{open_counted, alone_counts}
use Rattle.ebs_journal.proofs.Fronts.{counted_in}

-- the gate's byte tells whether the front is open
pub front_open : (f : ℕ → ℕ) → f 0 ≡ 1 → is_open (front_of f) ≡ true
unfolding front_of
front_open f e = eq-eqb (f 0) 1 e

pub front_shut : (f : ℕ → ℕ) → f 0 ≢ 1 → is_open (front_of f) ≡ false
unfolding front_of
front_shut f not_one = ne_eqb (f 0) 1 not_one

pub gate_open : (f : ℕ → ℕ) → is_open (front_of f) ≡ true → f 0 ≡ 1
unfolding front_of
gate_open f is = eqb-true (f 0) 1 is

-- an area that counts beside an open one counts whatever becomes of that one's gate
module _ (c : Image) (area : Area) (is : is_journal area ≡ true) (counts : counted c ≡ Some area) (is_one : c (other area) 0 ≡ 1) where
  module _ (d : Image) (kept : Keeps (OffGate (other area)) c d) where
    own_gate : d area 0 ≡ 1
    own_gate = kept area 0 (is, omega arith, inl (not_other area is)) ∙ gate_open (c area) (open_counted c area counts).1

    module _ (same : d (other area) 0 ≡ 1) where
      first_byte : (a : Area) → is_journal a ≡ true → d a 0 ≡ c a 0
      first_byte a on = elim (one_of area a is on) [
        | inl own ↦ subst (λ (b : Area). d b 0 ≡ c b 0) (sym own) (kept area 0 (is, omega arith, inl (not_other area is)))
        | inr not_own ↦ subst (λ (b : Area). d b 0 ≡ c b 0) (sym not_own) (same ∙ sym is_one)
      ]

      each_byte : (a : Area) (i : ℕ) → is_journal a ≡ true → i < 29 → d a i ≡ c a i
      each_byte a zero on below = first_byte a on
      each_byte a (suc i) on below = kept a (suc i) (on, below, inr (inr (omega arith)))

      both_open : counted d ≡ Some area
      both_open = counted_in c d each_byte ∙ counts

    still_counts : counted d ≡ Some area
    still_counts = elim (cases_eq (d (other area) 0) 1) [
      | inl same ↦ both_open same
      | inr shut ↦ alone_counts (λ a. front_of (d a)) area is (front_open (d area) own_gate) (front_shut (d (other area)) shut)
    ]

  pub prevails : Prevails c area
  prevails d kept = still_counts d kept

-- what was read of the other area's gate
pub aside_read : (c : Image) (area : Area) (shut : Bool) → is_journal area ≡ true → counted c ≡ Some area → shut ≡ not (is_open (front_of (c (other area)))) → IsAside shut c area
aside_read c area true is counts told = λ one. let both : true ≡ false = told ∙ ap not (front_open (c (other area)) one) in absurd (cc)
aside_read c area false is counts told = by (is_open (front_of (c (other area)))) refl
  where
    by : (b : Bool) → is_open (front_of (c (other area))) ≡ b → Prevails c area
    by true open_is = prevails c area is counts (gate_open (c (other area)) open_is)
    by false open_is = let both : false ≡ true = told ∙ ap not open_is in absurd (cc)

-- writes in the area that counts, behind its front
pub aside_kept : (c d : Image) (area : Area) (at n : ℕ) → is_journal area ≡ true → 29 ≤ at → Keeps (IsOutside area at n) c d → (shut : Bool) → IsAside shut c area → IsAside shut d area
aside_kept c d area at n is far kept true aside = λ one. aside (sym (kept (other area) 0 (inl (λ same. not_other area is (sym same)))) ∙ one)
aside_kept c d area at n is far kept false aside = λ e keeps. aside e (λ a i off. keeps a i off ∙ kept a i (inr (inl (omega (arith, off.1, far)))))

-- writes of others
pub aside_on : (c d : Image) (area : Area) → Keeps OnJournal c d → (shut : Bool) → IsAside shut c area → IsAside shut d area
aside_on c d area kept true aside = λ one. aside (sym (kept (other area) 0 (inl (other_journal area))) ∙ one)
aside_on c d area kept false aside = λ e keeps. aside e (λ a i off. keeps a i off ∙ kept a i (inl off.0))

-- a journal stays where its own area and the mark do and it still counts
pub journal_same : (c d : Image) (area : Area) (epoch : ℕ) (checkpoint : List ℕ) (rs : List (List ℕ)) → ((i : ℕ) → d area i ≡ c area i) → d Archive 0 ≡ c Archive 0 → counted d ≡ Some area
    → IsJournal c area epoch checkpoint rs → IsJournal d area epoch checkpoint rs
journal_same c d area epoch checkpoint rs same mark counts is = record {
  made = λ zero. is.made (sym mark ∙ zero);
  counts = counts;
  short = is.short;
  has = record {
    spelled = spells_same (c area) (d area) 0 (open_head epoch checkpoint ++ entries rs) (λ i from below. same i) is.has.spelled;
    shut = λ one. is.has.shut (sym (same (length (open_head epoch checkpoint ++ entries rs))) ∙ one);
  };
}

-- a write in the other area
module _ (c d : Image) (area : Area) (at n : ℕ) (is : is_journal area ≡ true) (kept : Keeps (IsOutside (other area) at n) c d) where
  pub own_same : (i : ℕ) → d area i ≡ c area i
  own_same i = kept area i (inl (not_other area is))

  pub mark_same : d Archive 0 ≡ c Archive 0
  mark_same = kept Archive 0 (inl (apart (other area) Archive (other_journal area) refl))

-- of the other area's gate
module _ (c d : Image) (area : Area) (is : is_journal area ≡ true) (kept : Keeps (IsOutside (other area) 0 1) c d) (ahead : Prevails c area) where
  pub prevails_on : Prevails d area
  prevails_on e keeps = ahead e (λ a i off. keeps a i off ∙ kept a i off.2)

  pub journal_on : (epoch : ℕ) (checkpoint : List ℕ) (rs : List (List ℕ)) → IsJournal c area epoch checkpoint rs → IsJournal d area epoch checkpoint rs
  journal_on epoch checkpoint rs was = journal_same c d area epoch checkpoint rs (own_same c d area 0 1 is kept) (mark_same c d area 0 1 is kept) (ahead d (λ a i off. kept a i off.2)) was

-- of what stands behind that gate, which is closed
module _ (c d : Image) (area : Area) (n : ℕ) (is : is_journal area ≡ true) (kept : Keeps (IsOutside (other area) 1 n) c d) (shut : c (other area) 0 ≢ 1) where
  pub still_shut : d (other area) 0 ≢ 1
  still_shut one = shut (sym (kept (other area) 0 (inr (inl (omega arith)))) ∙ one)

  pub journal_beside : (epoch : ℕ) (checkpoint : List ℕ) (rs : List (List ℕ)) → IsJournal c area epoch checkpoint rs → IsJournal d area epoch checkpoint rs
  journal_beside epoch checkpoint rs was =
      let own = own_same c d area 1 n is kept in
      let gate : d area 0 ≡ 1 = own 0 ∙ gate_open (c area) (open_counted c area was.counts).1 in
      journal_same c d area epoch checkpoint rs own (mark_same c d area 1 n is kept)
      (alone_counts (λ a. front_of (d a)) area is (front_open (d area) gate) (front_shut (d (other area)) still_shut)) was
