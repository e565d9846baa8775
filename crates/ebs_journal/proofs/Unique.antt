-- The bytes of an area are one journal.
use Rattle.std.proofs.Common.{◌≡◌, ◌≢◌, ◌⊎◌, inl, inr, ℕ, ◌+◌, ◌-◌, ◌<◌, ◌≤◌, ◌^◌, List, [], ◌∷◌, ◌++◌, length, true, false, Some, None, nat_eq, refl, sym, ◌∙◌, ap, subst, arith, length-append}
use Rattle.std.specs.Int.{w32, w64, to_be_bytes, from_be_bytes}
use Rattle.std.specs.Cmp.Lexicographic.{pointwise}
use Rattle.std.proofs.lemmas.Nat.{from_be_bytes-to_be_bytes_4, from_be_bytes-to_be_bytes_8}
use Rattle.ebs_world.specs.declared.area.Area.{Area}
use Rattle.ebs_world.specs.Image.{Image, Spells}
use Rattle.ebs_world.specs.inner.Runs.{spells_front, spells_back}
use Rattle.ebs_journal.specs.declared.front.Front.{Front}
use Rattle.ebs_journal.specs.declared.refusal.JournalRefusal.{JournalRefusal}
use Rattle.ebs_journal.specs.declared.refusal.JournalRefusal.TheVariants.{DiskFailed, NotMade, NotAJournal, BadVersion, BadLength, Memory}
use Rattle.ebs_journal.specs.Format.{magic, head_of, open_head, entry, entries, IsRecord, AllRecords}
use Rattle.ebs_journal.specs.Opening.{front_of, has_magic, Counts, Runs, IsBadLength, IsBadRecord, IsJournal, IsRefused}
use Rattle.ebs_journal.proofs.Gates.{length-head, length-entry}
use Rattle.ebs_journal.proofs.Pieces.{bytes_spelled}

pub spells_one : (f : ℕ → ℕ) (at : ℕ) (xs ys : List ℕ) → length xs ≡ length ys → Spells f at xs → Spells f at ys → xs ≡ ys
spells_one f at [] [] e one two = refl
spells_one f at [] (y ∷ ys) e one two = absurd (omega (arith, e))
spells_one f at (x ∷ xs) [] e one two = absurd (omega (arith, e))
spells_one f at (x ∷ xs) (y ∷ ys) e one two = (λ i. (sym one.0 ∙ two.0) i ∷ spells_one f (at + 1) xs ys (omega (arith, e)) one.1 two.1 i)

pub short_one : (f : ℕ → ℕ) (at m n : ℕ) → m < 2 ^ 32 → n < 2 ^ 32 → Spells f at (to_be_bytes w32 m) → Spells f at (to_be_bytes w32 n) → m ≡ n
short_one f at m n small_m small_n one two =
    sym (from_be_bytes-to_be_bytes_4 m small_m) ∙ ap (from_be_bytes w32) (spells_one f at (to_be_bytes w32 m) (to_be_bytes w32 n) refl one two) ∙ from_be_bytes-to_be_bytes_4 n small_n

pub long_one : (f : ℕ → ℕ) (at m n : ℕ) → m < 2 ^ 64 → n < 2 ^ 64 → Spells f at (to_be_bytes w64 m) → Spells f at (to_be_bytes w64 n) → m ≡ n
long_one f at m n small_m small_n one two =
    sym (from_be_bytes-to_be_bytes_8 m small_m) ∙ ap (from_be_bytes w64) (spells_one f at (to_be_bytes w64 m) (to_be_bytes w64 n) refl one two) ∙ from_be_bytes-to_be_bytes_8 n small_n

pub entry_one : (f : ℕ → ℕ) (at : ℕ) (q r : List ℕ) → IsRecord q → IsRecord r → Spells f at (entry q) → Spells f at (entry r) → q ≡ r
entry_one f at q r is_q is_r one two =
    let size : length q ≡ length r = short_one f at (length q) (length r) (omega (arith, is_q.1)) (omega (arith, is_r.1))
    (spells_front f at (to_be_bytes w32 (length q)) q one) (spells_front f at (to_be_bytes w32 (length r)) r two) in
    spells_one f (at + 4) q r size (spells_back f at (to_be_bytes w32 (length q)) q one) (spells_back f at (to_be_bytes w32 (length r)) r two)

pub records_one : (f : ℕ → ℕ) (at : ℕ) (qs rs : List (List ℕ)) → AllRecords qs → AllRecords rs → Spells f at (entries qs) → Spells f at (entries rs)
    → f (at + length (entries qs)) ≢ 1 → f (at + length (entries rs)) ≢ 1 → qs ≡ rs
records_one f at [] [] all_q all_r one two end_q end_r = refl
records_one f at [] (r ∷ rs) all_q all_r one two end_q end_r = absurd (end_q (ap f (omega arith) ∙ two.0))
records_one f at (q ∷ qs) [] all_q all_r one two end_q end_r = absurd (end_r (ap f (omega arith) ∙ one.0))
records_one f at (q ∷ qs) (r ∷ rs) all_q all_r one two end_q end_r =
    let same : q ≡ r = entry_one f (at + 1) q r all_q.0 all_r.0 (spells_front f (at + 1) (entry q) (entries qs) one.1) (spells_front f (at + 1) (entry r) (entries rs) two.1) in
    let n = at + 1 + length (entry q) in
    let back_q : Spells f n (entries qs) = spells_back f (at + 1) (entry q) (entries qs) one.1 in
    let back_r : Spells f n (entries rs) = subst (λ (m : ℕ). Spells f m (entries rs)) (ap (λ (l : List ℕ). at + 1 + length (entry l)) (sym same)) (spells_back f (at + 1) (entry r) (entries rs) two.1) in
    let size_q : length (entries (q ∷ qs)) ≡ 1 + length (entry q) + length (entries qs) = omega (arith, length-append (1 ∷ entry q) (entries qs)) in
    let size_r : length (entries (r ∷ rs)) ≡ 1 + length (entry q) + length (entries rs) = omega (arith, length-append (1 ∷ entry r) (entries rs), ap length same) in
    let rest = records_one f n qs rs all_q.1 all_r.1 back_q back_r
    (λ is. end_q (ap f (omega (arith, size_q)) ∙ is)) (λ is. end_r (ap f (omega (arith, size_r)) ∙ is)) in
    (λ i. same i ∷ rest i)

pub runs_one : (f : ℕ → ℕ) (at m n : ℕ) (qs rs : List (List ℕ)) → Runs f at qs m → Runs f at rs n → f m ≢ 1 → f n ≢ 1 → qs ≡ rs
runs_one f at m n qs rs one two end_q end_r = records_one f at qs rs one.records two.records one.spelled two.spelled
    (λ is. end_q (ap f one.ends ∙ is)) (λ is. end_r (ap f two.ends ∙ is))

-- no record is bad where all of them are records
pub none_bad : (f : ℕ → ℕ) (at : ℕ) (qs rs : List (List ℕ)) → AllRecords qs → AllRecords rs → Spells f at (entries qs) → Spells f at (entries rs) → f (at + length (entries rs)) ≢ 1
    → at + length (entries rs) ≤ 2 ^ 62 - 2 ^ 21 → IsBadLength f (at + length (entries qs)) → ⊥
none_bad f at [] [] all_q all_r one two end within bad = end (ap f (omega arith) ∙ bad.is_open)
none_bad f at (q ∷ qs) [] all_q all_r one two end within bad = end (ap f (omega arith) ∙ one.0)
none_bad f at [] (r ∷ rs) all_q all_r one two end within bad =
    let size : bad.n ≡ length r = short_one f (at + 1) bad.n (length r) bad.small (omega (arith, all_r.0.1))
    (subst (λ (m : ℕ). Spells f m (to_be_bytes w32 bad.n)) (omega arith) bad.length_is) (spells_front f (at + 1) (to_be_bytes w32 (length r)) r (spells_front f (at + 1) (entry r) (entries rs) two.1)) in
    let long : length (entries (r ∷ rs)) ≡ 5 + length r + length (entries rs) = omega (arith, length-append (1 ∷ entry r) (entries rs), length-entry r) in
    elim bad.bad [
      | inl none ↦ omega (arith, size, none, all_r.0.0)
      | inr more ↦ elim more [
        | inl great ↦ omega (arith, size, great, all_r.0.1)
        | inr late ↦ omega (arith, size, late, long, within)
      ]
    ]
none_bad f at (q ∷ qs) (r ∷ rs) all_q all_r one two end within bad =
    let same : q ≡ r = entry_one f (at + 1) q r all_q.0 all_r.0 (spells_front f (at + 1) (entry q) (entries qs) one.1) (spells_front f (at + 1) (entry r) (entries rs) two.1) in
    let n = at + 1 + length (entry q) in
    let back_q : Spells f n (entries qs) = spells_back f (at + 1) (entry q) (entries qs) one.1 in
    let back_r : Spells f n (entries rs) = subst (λ (m : ℕ). Spells f m (entries rs)) (ap (λ (l : List ℕ). at + 1 + length (entry l)) (sym same)) (spells_back f (at + 1) (entry r) (entries rs) two.1) in
    let size_q : length (entries (q ∷ qs)) ≡ 1 + length (entry q) + length (entries qs) = omega (arith, length-append (1 ∷ entry q) (entries qs)) in
    let size_r : length (entries (r ∷ rs)) ≡ 1 + length (entry q) + length (entries rs) = omega (arith, length-append (1 ∷ entry r) (entries rs), ap length same) in
    none_bad f n qs rs all_q.1 all_r.1 back_q back_r (λ is. end (ap f (omega (arith, size_r)) ∙ is)) (omega (arith, size_r, within))
    (subst (IsBadLength f) (omega (arith, size_q)) bad)

-- the parts of a head
pub record IsHead (f : ℕ → ℕ) (epoch : ℕ) (checkpoint : List ℕ) : Type 0 where
  pub is_magic : Spells f 1 magic
  pub version : Spells f 9 (to_be_bytes w32 1)
  pub epoch_is : Spells f 13 (to_be_bytes w64 epoch)
  pub length_is : Spells f 21 (to_be_bytes w64 (length checkpoint))
  pub bytes : Spells f 29 checkpoint

pub head_parts : (f : ℕ → ℕ) (epoch : ℕ) (checkpoint : List ℕ) → Spells f 0 (open_head epoch checkpoint) → IsHead f epoch checkpoint
unfolding head_of
head_parts f epoch checkpoint spelled =
    let behind : Spells f 1 (magic ++ (to_be_bytes w32 1 ++ (to_be_bytes w64 epoch ++ (to_be_bytes w64 (length checkpoint) ++ checkpoint)))) = spelled.1 in
    let nine = spells_back f 1 magic (to_be_bytes w32 1 ++ (to_be_bytes w64 epoch ++ (to_be_bytes w64 (length checkpoint) ++ checkpoint))) behind in
    let thirteen = spells_back f 9 (to_be_bytes w32 1) (to_be_bytes w64 epoch ++ (to_be_bytes w64 (length checkpoint) ++ checkpoint)) nine in
    let twenty_one = spells_back f 13 (to_be_bytes w64 epoch) (to_be_bytes w64 (length checkpoint) ++ checkpoint) thirteen in
    record {
      is_magic = spells_front f 1 magic (to_be_bytes w32 1 ++ (to_be_bytes w64 epoch ++ (to_be_bytes w64 (length checkpoint) ++ checkpoint))) behind;
      version = spells_front f 9 (to_be_bytes w32 1) (to_be_bytes w64 epoch ++ (to_be_bytes w64 (length checkpoint) ++ checkpoint)) nine;
      epoch_is = spells_front f 13 (to_be_bytes w64 epoch) (to_be_bytes w64 (length checkpoint) ++ checkpoint) thirteen;
      length_is = spells_front f 21 (to_be_bytes w64 (length checkpoint)) checkpoint twenty_one;
      bytes = spells_back f 21 (to_be_bytes w64 (length checkpoint)) checkpoint twenty_one;
    }

-- a journal by its head and its records
pub record IsWhole (f : ℕ → ℕ) (epoch : ℕ) (checkpoint : List ℕ) (rs : List (List ℕ)) : Type 0 where
  pub head : IsHead f epoch checkpoint
  pub spelled : Spells f (29 + length checkpoint) (entries rs)
  pub shut : f (29 + length checkpoint + length (entries rs)) ≢ 1
  pub within : 29 + length checkpoint + length (entries rs) ≤ 2 ^ 62 - 2 ^ 21

pub whole_parts : (c : Image) (area : Area) (epoch : ℕ) (checkpoint : List ℕ) (rs : List (List ℕ)) → IsJournal c area epoch checkpoint rs → IsWhole (c area) epoch checkpoint rs
whole_parts c area epoch checkpoint rs is =
    let head_length = length-head epoch checkpoint in
    let whole : length (open_head epoch checkpoint ++ entries rs) ≡ 29 + length checkpoint + length (entries rs) = omega (arith, head_length, length-append (open_head epoch checkpoint) (entries rs)) in
    record {
      head = head_parts (c area) epoch checkpoint (spells_front (c area) 0 (open_head epoch checkpoint) (entries rs) is.has.spelled);
      spelled = subst (λ (n : ℕ). Spells (c area) n (entries rs)) (omega (arith, head_length)) (spells_back (c area) 0 (open_head epoch checkpoint) (entries rs) is.has.spelled);
      shut = λ one. is.has.shut (ap (c area) whole ∙ one);
      within = omega (arith, whole, is.short.ends);
    }

pub journal_one : (c : Image) (a b : Area) (d e : ℕ) (p q : List ℕ) (qs rs : List (List ℕ)) → IsJournal c a d p qs → IsJournal c b e q rs → (a ≡ b) × (d ≡ e) × (p ≡ q) × (qs ≡ rs)
journal_one c a b d e p q qs rs one two =
    let both : Some a ≡ Some b = sym one.counts ∙ two.counts in
    let area : a ≡ b = cc in
    let first = whole_parts c a d p qs one in
    let second : IsWhole (c a) e q rs = subst (λ (x : Area). IsWhole (c x) e q rs) (sym area) (whole_parts c b e q rs two) in
    let epoch = long_one (c a) 13 d e one.short.epoch_fits two.short.epoch_fits first.head.epoch_is second.head.epoch_is in
    let size = long_one (c a) 21 (length p) (length q) (omega (arith, one.short.checkpoint_fits)) (omega (arith, two.short.checkpoint_fits)) first.head.length_is second.head.length_is in
    let checkpoint = spells_one (c a) 29 p q size first.head.bytes second.head.bytes in
    let again : Spells (c a) (29 + length p) (entries rs) = subst (λ (n : ℕ). Spells (c a) (29 + n) (entries rs)) (sym size) second.spelled in
    let shut : c a (29 + length p + length (entries rs)) ≢ 1 = λ is. second.shut (ap (c a) (omega (arith, size)) ∙ is) in
    (area, epoch, checkpoint, records_one (c a) (29 + length p) qs rs one.short.records two.short.records first.spelled again first.shut shut)

pub front_magic : (f : ℕ → ℕ) → Spells f 1 magic → has_magic (front_of f) ≡ true
unfolding front_of
front_magic f is_magic = ap (λ (l : List ℕ). pointwise nat_eq l magic) (bytes_spelled f 1 magic is_magic)

front_version : (f : ℕ → ℕ) → Spells f 9 (to_be_bytes w32 1) → (front_of f).version ≡ 1
unfolding front_of
front_version f version = ap (from_be_bytes w32) (bytes_spelled f 9 (to_be_bytes w32 1) version) ∙ from_be_bytes-to_be_bytes_4 1 (omega arith)

pub front_epoch : (f : ℕ → ℕ) (n : ℕ) → n < 2 ^ 64 → Spells f 13 (to_be_bytes w64 n) → (front_of f).epoch ≡ n
unfolding front_of
front_epoch f n small epoch = ap (from_be_bytes w64) (bytes_spelled f 13 (to_be_bytes w64 n) epoch) ∙ from_be_bytes-to_be_bytes_8 n small

front_length : (f : ℕ → ℕ) (n : ℕ) → n < 2 ^ 64 → Spells f 21 (to_be_bytes w64 n) → (front_of f).length ≡ n
unfolding front_of
front_length f n small size = ap (from_be_bytes w64) (bytes_spelled f 21 (to_be_bytes w64 n) size) ∙ from_be_bytes-to_be_bytes_8 n small

module _ (c : Image) (area : Area) (epoch : ℕ) (checkpoint : List ℕ) (rs : List (List ℕ)) (is : IsJournal c area epoch checkpoint rs) where
  parts : IsWhole (c area) epoch checkpoint rs
  parts = whole_parts c area epoch checkpoint rs is

  same_area : (other : Area) (front : Front) → Counts c other front → other ≡ area
  same_area other front counts = let both : Some other ≡ Some area = sym counts.counts ∙ is.counts in cc

  same_front : (other : Area) (front : Front) → Counts c other front → front ≡ front_of (c area)
  same_front other front counts = counts.front_is ∙ ap (λ (a : Area). front_of (c a)) (same_area other front counts)

  good_magic : (other : Area) (front : Front) → Counts c other front → has_magic front ≡ true
  good_magic other front counts = ap has_magic (same_front other front counts) ∙ front_magic (c area) parts.head.is_magic

  good_version : (other : Area) (front : Front) → Counts c other front → front.version ≡ 1
  good_version other front counts = ap (λ (f : Front). f.version) (same_front other front counts) ∙ front_version (c area) parts.head.version

  good_length : (other : Area) (front : Front) → Counts c other front → front.length ≡ length checkpoint
  good_length other front counts = ap (λ (f : Front). f.length) (same_front other front counts)
      ∙ front_length (c area) (length checkpoint) (omega (arith, is.short.checkpoint_fits)) parts.head.length_is

  good_records : (place : ℕ) → IsBadRecord (c area) (29 + length checkpoint) place → ⊥
  good_records place bad = none_bad (c area) (29 + length checkpoint) bad.before rs bad.runs.records is.short.records bad.runs.spelled parts.spelled parts.shut parts.within
      (subst (IsBadLength (c area)) bad.runs.ends bad.bad)

  pub refused_freely : (refusal : JournalRefusal) → IsRefused c refusal → (refusal ≡ DiskFailed) ⊎ (refusal ≡ Memory)
  refused_freely DiskFailed why = inl refl
  refused_freely Memory why = inr refl
  refused_freely NotMade why = absurd (is.made why)
  refused_freely (NotAJournal nine) why = absurd (elim why [
    | inl shut ↦ let both : None ≡ Some area = sym shut.1 ∙ is.counts in cc
    | inr other ↦ let both : false ≡ true = sym other.3 ∙ good_magic other.0 other.1 other.2 in cc
  ])
  refused_freely (BadVersion n) why = absurd (why.5 (why.4 ∙ good_version why.0 why.1 why.2))
  refused_freely (BadLength place) why = absurd (elim why.5 [
    | inl long ↦ omega (arith, long.1, good_length why.0 why.1 why.2, is.short.checkpoint_fits)
    | inr bad ↦ good_records place (subst (λ (n : ℕ). IsBadRecord (c area) (29 + n) place) (good_length why.0 why.1 why.2)
        (subst (λ (a : Area). IsBadRecord (c a) (29 + why.1.length) place) (same_area why.0 why.1 why.2) bad.1))
  ])
