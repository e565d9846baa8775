-- One record more is read.
use Rattle.std.proofs.Common.{◌≡◌, ℕ, ◌+◌, ◌-◌, ◌^◌, ◌<◌, ◌≤◌, List, [], ◌∷◌, ◌++◌, length, refl, sym, ◌∙◌, ap, subst, arith, length-append}
use Rattle.std.specs.Int.{w32, to_be_bytes}
use Rattle.ebs_world.specs.Image.{Spells}
use Rattle.ebs_world.specs.View.{View}
use Rattle.ebs_world.specs.inner.Runs.{spells_append}
use Rattle.ebs_journal.specs.declared.reading.Ahead.{Ahead}
use Rattle.ebs_journal.specs.declared.refusal.JournalRefusal.{JournalRefusal}
use Rattle.ebs_journal.specs.declared.refusal.JournalRefusal.TheVariants.{DiskFailed, NotMade, NotAJournal, BadVersion, BadLength, Memory}
use Rattle.ebs_journal.specs.Format.{entry, entries, IsRecord}
use Rattle.ebs_journal.specs.inner.Format.{places_from}
use Rattle.ebs_journal.specs.inner.Reading.{IsAhead, IsSized, Refuses, Judges, IsEntryRefusal, IsRecordsRefusal}
use Rattle.ebs_journal.proofs.Gates.{entries_push, all_push, length-entry}

pub places_push : (first : ℕ) (rs : List (List ℕ)) (r : List ℕ) → places_from first (rs ++ r ∷ []) ≡ places_from first rs ++ (first + length (entries rs)) ∷ []
places_push first [] r = (λ k. start k ∷ [])
  where
    start : first ≡ first + 0
    start = omega arith
places_push first (q ∷ rs) r =
    let there : first + (5 + length q) + length (entries rs) ≡ first + length (entries (q ∷ rs)) = omega (arith, length-append (1 ∷ entry q) (entries rs)) in
    ap (λ (l : List ℕ). first ∷ l) (places_push (first + (5 + length q)) rs r ∙ ap (λ (n : ℕ). places_from (first + (5 + length q)) rs ++ n ∷ []) there)

pub sized_none : (first : ℕ) → first ≤ 2 ^ 62 - 2 ^ 21 → IsSized first [] [] first
sized_none first within = record { ends = omega arith; records = tt; places_are = refl; within = within }

pub sized_push : (first : ℕ) (rs : List (List ℕ)) (places : List ℕ) (gate : ℕ) (r : List ℕ) (n : ℕ) → IsSized first rs places gate → IsRecord r → length r ≡ n → gate + 5 + length r ≤ 2 ^ 62 - 2 ^ 21
    → IsSized first (rs ++ r ∷ []) (places ++ gate ∷ []) (gate + (5 + n))
sized_push first rs places gate r n sized one size within = record {
  ends = omega (arith, sized.ends, size, ap length (entries_push rs r), length-append (entries rs) (1 ∷ entry r), length-entry r);
  records = all_push rs r sized.records one;
  places_are = ap (λ (l : List ℕ). l ++ gate ∷ []) sized.places_are ∙ ap (λ (n : ℕ). places_from first rs ++ n ∷ []) sized.ends ∙ sym (places_push first rs r);
  within = omega (arith, within, size);
}

pub spelled_push : (f : ℕ → ℕ) (first : ℕ) (rs : List (List ℕ)) (gate : ℕ) (r : List ℕ) (ahead : Ahead) → gate ≡ first + length (entries rs) → Spells f first (entries rs) → IsAhead f gate ahead
    → ahead.gate ≡ 1 → length r ≡ ahead.length → Spells f (gate + 5) r → Spells f first (entries (rs ++ r ∷ []))
spelled_push f first rs gate r ahead ends spelled is_ahead is_open size bytes =
    let number : Spells f (gate + 1) (to_be_bytes w32 (length r)) = subst (λ (n : ℕ). Spells f (gate + 1) (to_be_bytes w32 n)) (sym size) is_ahead.1 in
    let behind : Spells f (gate + 1) (entry r) = spells_append f (gate + 1) (to_be_bytes w32 (length r)) r number (subst (λ (n : ℕ). Spells f n r) (omega arith) bytes) in
    let whole : Spells f gate (1 ∷ entry r) = (is_ahead.0 ∙ is_open, behind) in
    subst (λ (l : List ℕ). Spells f first l) (sym (entries_push rs r))
    (spells_append f first (entries rs) (1 ∷ entry r) spelled (subst (λ (n : ℕ). Spells f n (1 ∷ entry r)) ends whole))

pub refuses_on : (old mid new : View) (P Q : JournalRefusal → Type 0) → old.faults ≤ mid.faults → ((e : JournalRefusal) → P e → Q e) → (e : JournalRefusal) → Refuses mid new P e → Refuses old new Q e
refuses_on old mid new P Q later implies DiskFailed rose = omega (arith, later, rose)
refuses_on old mid new P Q later implies Memory has = tt
refuses_on old mid new P Q later implies NotMade has = implies NotMade has
refuses_on old mid new P Q later implies (NotAJournal nine) has = implies (NotAJournal nine) has
refuses_on old mid new P Q later implies (BadVersion n) has = implies (BadVersion n) has
refuses_on old mid new P Q later implies (BadLength place) has = implies (BadLength place) has

pub bad_record : (f : ℕ → ℕ) (first : ℕ) (rs : List (List ℕ)) (places : List ℕ) (gate : ℕ) (ahead : Ahead) → IsSized first rs places gate → Spells f first (entries rs) → IsAhead f gate ahead → ahead.gate ≡ 1
    → ahead.length < 2 ^ 32 → (e : JournalRefusal) → IsEntryRefusal gate ahead.length e → IsRecordsRefusal f first e
bad_record f first rs places gate ahead sized spelled is_ahead is_open small e refusal = (
  gate,
  refusal.0,
  record {
    before = rs;
    runs = record { spelled = spelled; ends = sized.ends; records = sized.records };
    within = sized.within;
    bad = record { is_open = is_ahead.0 ∙ is_open; n = ahead.length; small = small; length_is = is_ahead.1; bad = refusal.1 };
  },
)

pub judged : (old new : View) (P Q : JournalRefusal → Type 0) → ((e : JournalRefusal) → P e → Q e) → (e : JournalRefusal) → Judges P e → Refuses old new Q e
judged old new P Q implies DiskFailed no_case = absurd no_case
judged old new P Q implies Memory no_case = absurd no_case
judged old new P Q implies NotMade has = implies NotMade has
judged old new P Q implies (NotAJournal nine) has = implies (NotAJournal nine) has
judged old new P Q implies (BadVersion n) has = implies (BadVersion n) has
judged old new P Q implies (BadLength place) has = implies (BadLength place) has
