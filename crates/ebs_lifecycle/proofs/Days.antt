-- Days after 1 January 1970 as dates of the calendar.
use Rattle.std.proofs.Common.{◌≡◌, ℕ, zero, suc, ◌+◌, ◌/◌, ◌%◌, ◌<◌, ◌≤◌, min, Bool, true, false, cond, arith, refl, sym, ap, ◌∙◌, subst, inl, inr, ℤ, pos, ◌+ℤ◌, ◌≤ℤ◌, unsigned_abs}
use Rattle.std.specs.Prelude.{nat_lt}
use Rattle.std.proofs.Common.{negsuc, Fits, FitsSigned, w32, w64, to_z, of_z}
use Rattle.std.proofs.lemmas.Int.{to_z-of_z, to_z_pos}
use Rattle.std.proofs.lemmas.Bool.{cases_lt}
use Rattle.std.proofs.lemmas.Bool.Decides.{nat_tests}
use Rattle.jiff_core.specs.declared.civil.date.Date.{Date}
use Rattle.jiff_core.specs.Calendar.{IsEpochDay, days_in_month, days_from_civil, day_count, days_of_years, days_of_months}
use Rattle.jiff_core.specs.Date.{epoch_day}
use Rattle.jiff_core.proofs.SignedLemmas.{signed_arith}
use Rattle.jiff_core.proofs.CalendarLemmas.{days_in_month_bounds, day_count_bounds, days_from_civil-day_count, day_count-epoch}
use Rattle.jiff_core.proofs.DateLemmas.{civil, epoch_day_range, epoch_day_injective, days_from_civil-day, days_from_civil-next_month, days_from_civil-next_year, days_from_civil-max}
use Rattle.jiff_core.specs.declared.span.Span.{Span}
use Rattle.jiff_core.specs.declared.unit.Unit.TheVariants.{Month, Day as DayUnit, Hour, Minute, Second, Millisecond, Microsecond, Nanosecond}
use Rattle.jiff_core.specs.Span.{IsOnly, span_months, span_days, clock_days}
use Rattle.jiff_span.specs.Add.{date_add, CanAddToDate}
use Rattle.jiff_span.proofs.DifferenceLemmas.{signed_zero}
use Rattle.jiff_span.specs.Months.{add_months, shifted_year, shifted_month, shifted_day, IsShiftable}
use Rattle.jiff_span.proofs.MonthLemmas.{shift_parts, shifted_civil, days_from_civil-month}
use Rattle.ebs_model.specs.Retention.{Day, month_length, next_day, day_after, month_number, months_later, number_of}

-- a date of the calendar with that number
pub record IsNumbered (n : ℕ) (d : Day) : Type 0 where
  pub year : 1970 ≤ d.year
  pub month : (1 ≤ d.month) × (d.month ≤ 12)
  pub day : (1 ≤ d.day) × (d.day ≤ month_length d.year d.month)
  pub number : days_from_civil (pos d.year) d.month d.day ≡ pos n

pub epoch : days_from_civil (pos 1970) 1 1 ≡ pos 0
epoch = omega (arith, signed_arith, days_from_civil-day_count (pos 1970) 1 1, day_count-epoch)

first : IsNumbered 0 (record { year = 1970; month = 1; day = 1 })
first = record { year = omega arith; month = (omega arith, omega arith); day = (omega arith, omega arith); number = epoch }

next : (n : ℕ) (d : Day) → IsNumbered n d → IsNumbered (suc n) (next_day d)
next n d h = by (nat_lt d.day (month_length d.year d.month)) (nat_lt d.month 12) refl refl
  where
    lt : (a b : ℕ) → nat_lt a b ≡ true → a < b
    lt a b e = grind (arith, nat_tests)

    ge : (a b : ℕ) → nat_lt a b ≡ false → b ≤ a
    ge a b e = grind (arith, nat_tests)

    by : (a b : Bool) → nat_lt d.day (month_length d.year d.month) ≡ a → nat_lt d.month 12 ≡ b
        → IsNumbered (suc n) (cond a (record { year = d.year; month = d.month; day = d.day + 1 }) (cond b (record { year = d.year; month = d.month + 1; day = 1 }) (record { year = d.year + 1; month = 1; day = 1 })))
    by true b t u =
        let l = lt _ _ t in
        let s = days_from_civil-day (pos d.year) d.month d.day (d.day + 1) h.day.0 (omega arith) in
        record { year = h.year; month = h.month; day = (omega arith, omega (arith, l)); number = omega (arith, signed_arith, s, h.number) }
    by false true t u =
        let g = ge _ _ t in
        let l = lt _ _ u in
        let s = days_from_civil-next_month (pos d.year) d.month d.day h.month.0 (omega (arith, g, h.day.1)) in
        record { year = h.year; month = (omega arith, omega (arith, l)); day = (omega arith, omega (arith, days_in_month_bounds (pos d.year) (d.month + 1))); number = omega (arith, signed_arith, s, h.number) }
    by false false t u =
        let g = ge _ _ t in
        let december : d.month ≡ 12 = omega (arith, ge _ _ u, h.month.1) in
        let last : d.day ≡ 31 = omega (arith, g, h.day.1, ap (λ m. month_length d.year m) december) in
        let s = days_from_civil-next_year (pos d.year) (pos (d.year + 1)) (omega (arith, signed_arith)) (omega (arith, signed_arith)) in
        let e : days_from_civil (pos d.year) d.month d.day ≡ days_from_civil (pos d.year) 12 31 = ap (λ m. days_from_civil (pos d.year) m d.day) december ∙ ap (λ x. days_from_civil (pos d.year) 12 x) last in
        record { year = omega (arith, h.year); month = (omega arith, omega arith); day = (omega arith, omega arith); number = omega (arith, signed_arith, s, e, h.number) }

pub numbered : (n : ℕ) → IsNumbered n (day_after n)
unfolding day_after
numbered zero = first
numbered (suc n) = next n (day_after n) (numbered n)

-- one that the library has lies before the year 10000
early : (n : ℕ) (d : Date) → epoch_day d ≡ pos n → (day_after n).year ≤ 9999
early n d e = by (day_after n) (numbered n)
  where
    by : (a : Day) → IsNumbered n a → a.year ≤ 9999
    by a h =
        elim (cases_lt 9999 a.year) [
          | inl late ↦
              let range = epoch_day_range d in
              let less = days_from_civil-month (pos 9999) (pos a.year) 12 a.month 31 a.day ((omega (arith, signed_arith)), (omega arith, omega arith), (omega arith, omega arith)) h.month.0 h.month.1 h.day.0 (omega (arith, signed_arith, late, h.month.0)) in
              absurd (omega (arith, signed_arith, less, range, h.number, e, days_from_civil-max))
          | inr soon ↦ soon
        ]

-- the library's date of a day number is that day
pub same_day : (n : ℕ) (d : Date) → epoch_day d ≡ pos n → (d.year ≡ pos (day_after n).year) × (d.month ≡ (day_after n).month) × (d.day ≡ (day_after n).day)
same_day n d e = by (day_after n) (numbered n) (early n d e)
  where
    by : (a : Day) → IsNumbered n a → a.year ≤ 9999 → (d.year ≡ pos a.year) × (d.month ≡ a.month) × (d.day ≡ a.day)
    by a h low =
        let other : Date = record { year = pos a.year; month = a.month; day = a.day; year_in = omega (arith, signed_arith, low); month_in = omega (arith, h.month.0, h.month.1); day_in = omega (arith, h.day.0, h.day.1) } in
        epoch_day_injective d other (e ∙ sym h.number)

-- months later
later_is : (d : Date) (a : Day) (k : ℕ) → d.year ≡ pos a.year → d.month ≡ a.month → d.day ≡ a.day → 1 ≤ a.month → add_months d (pos k) ≡ days_from_civil (pos (months_later k a).year) (months_later k a).month (months_later k a).day
later_is d a k y m s low =
    let N = month_number a + k in
    let parts = shift_parts d (pos k) (pos (N / 12)) (N % 12 + 1) (omega (arith, signed_arith, y, m, low)) (omega arith) (omega arith) in
    ap (λ z. days_from_civil z (shifted_month d (pos k)) (min d.day (days_in_month z (shifted_month d (pos k))))) parts.0
    ∙ ap (λ z. days_from_civil (pos (N / 12)) z (min d.day (days_in_month (pos (N / 12)) z))) parts.1
    ∙ ap (λ z. days_from_civil (pos (N / 12)) (N % 12 + 1) (min z (days_in_month (pos (N / 12)) (N % 12 + 1)))) s

pub months_are : (n k : ℕ) (d : Date) → epoch_day d ≡ pos n → unsigned_abs (add_months d (pos k)) ≡ number_of (months_later k (day_after n))
months_are n k d e = let s = same_day n d e in ap unsigned_abs (later_is d (day_after n) k s.0 s.1 s.2 (numbered n).month.0)

-- 1200 months from a moment of the store stay below the year 10000
far : days_from_civil (pos 4999) 1 1 ≡ pos 1106320
unfolding days_from_civil day_count days_of_years days_of_months
far = refl

pub can_shift : (n k : ℕ) (d : Date) → epoch_day d ≡ pos n → n ≤ 800000 → k ≤ 1200 → IsShiftable d (pos k)
can_shift n k d e low few =
    let c = civil d in
    let s = same_day n d e in
    elim (cases_lt 4998 (day_after n).year) [
      | inl late ↦ absurd (too_late (day_after n) (numbered n) late)
      | inr soon ↦ omega (arith, signed_arith, s.0, soon, few, d.month_in)
    ]
  where
    too_late : (a : Day) → IsNumbered n a → 4998 < a.year → ⊥
    too_late a h late =
        let less = days_from_civil-month (pos 4998) (pos a.year) 12 a.month 31 a.day ((omega (arith, signed_arith)), (omega arith, omega arith), (omega arith, omega arith)) h.month.0 h.month.1 h.day.0 (omega (arith, signed_arith, late, h.month.0)) in
        let last = days_from_civil-next_year (pos 4998) (pos 4999) (omega (arith, signed_arith)) (omega (arith, signed_arith)) in
        omega (arith, signed_arith, less, last, far, h.number, low)

-- a date at or after another month's is no earlier than 1970
pub not_before : (n k : ℕ) (d : Date) → epoch_day d ≡ pos n → IsShiftable d (pos k) → pos 0 ≤ℤ add_months d (pos k)
not_before n k d e can =
    let s = same_day n d e in
    let h = numbered n in
    let shifted = shifted_civil d (pos k) can in
    let less = days_from_civil-month (pos 1969) (shifted_year d (pos k)) 12 (shifted_month d (pos k)) 31 (shifted_day d (pos k)) ((omega (arith, signed_arith)), (omega arith, omega arith), (omega arith, omega arith)) shifted.1.0 shifted.1.1 shifted.2.0 (omega (arith, signed_arith, s.0, h.year, shifted.1.0)) in
    let last = days_from_civil-next_year (pos 1969) (pos 1970) (omega (arith, signed_arith)) (omega (arith, signed_arith)) in
    omega (arith, signed_arith, less, last, epoch)

-- ---- spans

pub date_add-months : (a : Date) (k : ℤ) (s : Span) → IsOnly Month k s → date_add a s ≡ add_months a k
date_add-months a k s h =
    let m : span_months s ≡ k = omega (arith, signed_arith, h.months) in
    let d : span_days s ≡ pos 0 = omega (arith, signed_arith, h.days) in
    let c : clock_days s ≡ pos 0 = signed_zero s.negative _ (omega (arith, h.others Hour (omega arith), h.others Minute (omega arith), h.others Second (omega arith), h.others Millisecond (omega arith), h.others Microsecond (omega arith), h.others Nanosecond (omega arith))) in
    rw (m, d, c) (omega (arith, signed_arith))

pub can_add-months : (a : Date) (k : ℤ) (s : Span) → IsOnly Month k s → IsShiftable a k → IsEpochDay (add_months a k) → CanAddToDate a s
can_add-months a k s h can day =
    let m : span_months s ≡ k = omega (arith, signed_arith, h.months) in
    (rw m can, rw (date_add-months a k s h) day)

-- a date that the library can shift to has a day number
pub shifted_in : (d : Date) (k : ℤ) → IsShiftable d k → IsEpochDay (add_months d k)
shifted_in d k can =
    let c = shifted_civil d k can in
    let b = day_count_bounds (shifted_year d k) (shifted_month d k) (shifted_day d k) c in
    omega (arith, signed_arith, b, days_from_civil-day_count (shifted_year d k) (shifted_month d k) (shifted_day d k))

-- what the code hands to the library, as plain numbers
pub months_only : (k : ℕ) (z : ℤ) (s : Span) → k ≤ 1200 → z ≡ pos k → IsOnly Month (to_z w64 (of_z w64 z)) s → IsOnly Month (pos k) s
months_only k z s few e h =
    let fits : FitsSigned w64 (pos k) = omega (arith, signed_arith, few) in
    subst (λ x. IsOnly Month x s) (ap (λ x. to_z w64 (of_z w64 x)) e ∙ to_z-of_z w64 (pos k) fits) h

pub days_only : (n : ℕ) (s : Span) → n ≤ 800000 → IsOnly DayUnit (to_z w64 n) s → IsOnly DayUnit (pos n) s
days_only n s few h = subst (λ x. IsOnly DayUnit x s) (to_z_pos w64 n (omega (arith, few))) h

pub first_day : (d : Date) → d.year ≡ pos 1970 → pos d.month ≡ pos 1 → pos d.day ≡ pos 1 → epoch_day d ≡ pos 0
first_day d y m s =
    let month : d.month ≡ 1 = omega (arith, signed_arith, m) in
    let day : d.day ≡ 1 = omega (arith, signed_arith, s) in
    ap (λ z. days_from_civil z d.month d.day) y ∙ ap (λ z. days_from_civil (pos 1970) z d.day) month ∙ ap (λ z. days_from_civil (pos 1970) 1 z) day ∙ epoch

-- a day number that is cast
pub cast_is : (r : ℤ) → IsEpochDay r → to_z w32 (of_z w32 r) ≡ r
cast_is r h = let fits : FitsSigned w32 r = omega (arith, signed_arith, h.0, h.1) in to_z-of_z w32 r fits

pub zero_plus : (n : ℕ) → pos 0 +ℤ pos n ≡ pos n
zero_plus n = omega (arith, signed_arith)

pub small_abs : (z : ℤ) → pos 0 ≤ℤ z → z ≤ℤ pos 2932896 → Fits w64 (unsigned_abs z)
small_abs (pos n) low high = omega (arith, signed_arith, high)
small_abs (negsuc n) low high = absurd (omega (arith, signed_arith, low))
