-- A number and its text.
use Rattle.std.proofs.Common.{◌≡◌, ◌↔◌, ◌<◌, ◌≤◌, ◌^◌, ◌∙◌, ℕ, Option, unwrap_or, subst, List, [], ◌∷◌, zero, suc, Some, None, Result, Ok, Err, length, get_or, refl, sym, ap, arith}
use Rattle.std.specs.Fmt.{decimal}
use Rattle.std.specs.Result.{OkIff}
use Rattle.std.specs.Str.Parse.{AllDigits, ParsesUnsigned, digits_value}
use Rattle.std.proofs.lemmas.Fmt.{decimal-digits_value, decimal_digit, first_decimal, parse-decimal}
use Rattle.std.proofs.lemmas.Str.Parse.{IsNumeralModel, parse_plain}
use Rattle.ebs_words.specs.Spellings.{IsNumber, IsServer}

own : IsNumeralModel (AllDigits 10) (digits_value 10)
own = record { to = λ ds p. p; from = λ ds p. p; same = λ ds p. refl }

-- a number that is read of a text without a sign or a zero in front is written so
written : (text : List ℕ) → 48 < get_or text 0 0 → AllDigits 10 text → 0 < length text → digits_value 10 text < 2 ^ 16 → text ≡ decimal (digits_value 10 text)
written text first digits some small = sym (decimal-digits_value own text digits some (λ e. absurd (omega arith)) (omega arith))

above : (text : List ℕ) (n : ℕ) → 48 < get_or text 0 0 → text ≡ decimal n → 1 ≤ n
above text zero first is = let zero : text ≡ 48 ∷ [] = is ∙ decimal_digit 0 (omega arith) in let bad : 48 < 48 = rw zero at first in absurd (omega arith)
above text (suc n) first is = omega arith

number_read : {E : Type 0} (most : ℕ) (text : List ℕ) (r : Result ℕ E) → 48 < get_or text 0 0 → ParsesUnsigned 16 10 text r → (n : ℕ) → r ≡ Ok n → n ≤ most → IsNumber most text n
number_read {E} most text r first parsed n is few =
    let read : OkIff r (AllDigits 10 text × (0 < length text) × (digits_value 10 text < 2 ^ 16)) (digits_value 10 text) =
    parse_plain own 16 text r parsed (λ e. absurd (omega arith)) in
    let given = rw is at read in
    let text_is : text ≡ decimal n = rw given.1 (written text first given.0.0 given.0.1 given.0.2) in
    (text_is, above text n first text_is, few)

number_parsed : {E : Type 0} (most : ℕ) (text : List ℕ) (r : Result ℕ E) → most < 2 ^ 16 → ParsesUnsigned 16 10 text r → (n : ℕ) → IsNumber most text n → r ≡ Ok n
number_parsed most text r small parsed n (is, least, few) = parse-decimal 16 n text r (omega arith) (omega arith) is parsed

pub number_signed : (most : ℕ) (text : List ℕ) → most < 2 ^ 16 → (48 < get_or text 0 0 → ⊥) → (n : ℕ) → (None ≡ Some n) ↔ IsNumber most text n
number_signed most text small first n = (λ e. cc, λ h. absurd (first (rw h.0 (first_decimal n (omega (arith, h.1)) (omega (arith, h.2))))))

pub number_found : {E : Type 0} (most : ℕ) (text : List ℕ) (r : Result ℕ E) (m : ℕ) → most < 2 ^ 16 → 48 < get_or text 0 0 → ParsesUnsigned 16 10 text r → r ≡ Ok m → m ≤ most → (n : ℕ) → (Some m ≡ Some n) ↔ IsNumber most text n
number_found most text r m small first parsed is few n = (
  λ e. let same : m ≡ n = cc in number_read most text r first parsed n (is ∙ ap Ok same) (omega arith),
  λ h. let read : Ok m ≡ Ok n = sym is ∙ number_parsed most text r small parsed n h in cc,
)

pub number_above : {E : Type 0} (most : ℕ) (text : List ℕ) (r : Result ℕ E) (m : ℕ) → most < 2 ^ 16 → ParsesUnsigned 16 10 text r → r ≡ Ok m → most < m → (n : ℕ) → (None ≡ Some n) ↔ IsNumber most text n
number_above most text r m small parsed is above n = (
  λ e. cc,
  λ h. let read : Ok m ≡ Ok n = sym is ∙ number_parsed most text r small parsed n h in let same : m ≡ n = cc in absurd (omega (arith, h.2)),
)

pub number_unread : {E : Type 0} (most : ℕ) (text : List ℕ) (r : Result ℕ E) (why : E) → most < 2 ^ 16 → ParsesUnsigned 16 10 text r → r ≡ Err why → (n : ℕ) → (None ≡ Some n) ↔ IsNumber most text n
number_unread most text r why small parsed is n = (λ e. cc, λ h. let read : Err why ≡ Ok n = sym is ∙ number_parsed most text r small parsed n h in cc)

-- two numbers are read where each is
pub both_read : (P Q : ℕ → Type 0) (p q : ℕ) → ((n : ℕ) → (Some p ≡ Some n) ↔ P n) → ((n : ℕ) → (Some q ≡ Some n) ↔ Q n) → (port workers : ℕ) → ◌≡◌ {A = Option (ℕ × ℕ)} (Some (p, q)) (Some (port, workers)) ↔ (P port × Q workers)
both_read P Q p q first second port workers = (
  λ e. let l : p ≡ port = ap (λ (o : Option (ℕ × ℕ)). (unwrap_or o (0, 0)).0) e in let r : q ≡ workers = ap (λ (o : Option (ℕ × ℕ)). (unwrap_or o (0, 0)).1) e in ((first port).0 (ap Some l), (second workers).0 (ap Some r)),
  λ h. let l : Some p ≡ Some port = (first port).1 h.0 in let r : Some q ≡ Some workers = (second workers).1 h.1 in let m : p ≡ port = cc in let n : q ≡ workers = cc in (λ i. Some (m i, n i)),
)

-- a list of two is its two
pub two_of : {A : Type 0} (xs : List A) (x y : A) → length xs ≡ 2 → x ≡ get_or xs 0 x → y ≡ get_or xs 1 y → xs ≡ x ∷ y ∷ []
two_of [] x y two first second = absurd (omega arith)
two_of (a ∷ []) x y two first second = absurd (omega arith)
two_of (a ∷ b ∷ []) x y two first second = λ i. sym first i ∷ sym second i ∷ []
two_of (a ∷ b ∷ c ∷ xs) x y two first second = absurd (omega arith)

pub server_words : (words : List (List ℕ)) (a b : List ℕ) → words ≡ a ∷ b ∷ [] → (r : Option (ℕ × ℕ)) → ((port workers : ℕ) → (r ≡ Some (port, workers)) ↔ (IsNumber 65535 a port × IsNumber 64 b workers))
    → (port workers : ℕ) → (r ≡ Some (port, workers)) ↔ IsServer words port workers
server_words words a b is r reads port workers = (
  λ e. let h = (reads port workers).0 e in (a, b, is, h.0, h.1),
  λ s. let two : a ∷ b ∷ [] ≡ s.0 ∷ s.1 ∷ [] = sym is ∙ s.2 in let first : s.0 ≡ a = cc in let second : s.1 ≡ b = cc in
      (reads port workers).1 (subst (λ text. IsNumber 65535 text port) first s.3, subst (λ text. IsNumber 64 text workers) second s.4),
)
