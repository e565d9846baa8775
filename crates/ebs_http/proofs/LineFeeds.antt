-- Where the line feeds of a head stand.
use Rattle.std.proofs.Common.{◌≡◌, ◌≢◌, ℕ, zero, suc, ◌<◌, ◌≤◌, ◌⊎◌, Bool, true, false, List, [], ◌∷◌, ◌++◌, length, refl, sym, ap, ◌∙◌, subst, arith, append_assoc, append-nil, All, inl, inr}
use Rattle.std.specs.Prelude.{◌==◌}
use Rattle.std.specs.List.{flat_map, list_any}
use Rattle.std.proofs.lemmas.Bool.{false≢true}
use Rattle.std.proofs.lemmas.List.Elements.{All-head, All-tail, All-cons, All-nil}
use Rattle.std.proofs.lemmas.List.Sums.{AllPass-from_list_all}
use Rattle.httparse.specs.Grammar.{is_token_byte, is_uri_byte, is_value_byte, AllPass, LineEnd, crlf, lf, print_end, print_blank, print_version, Field, IsField, print_field, print_section, RequestHead, IsRequestHead}
use Rattle.httparse.proofs.PieceLemmas.{print_field-append}
use Rattle.ebs_http.specs.inner.Begun.{print_line}

abbrev pub is_space : ℕ → Bool
is_space b = b == 32

token_ends : is_token_byte 10 ≡ false
unfolding is_token_byte
token_ends = refl

length_past : (p r : List ℕ) → 0 < length (p ++ 10 ∷ r)
length_past [] r = omega arith
length_past (a ∷ p) r = omega arith

-- bytes that pass a test which a line feed fails are passed over
skip_run : (test : ℕ → Bool) → test 10 ≡ false → (w q r s : List ℕ) → AllPass test w → q ++ 10 ∷ r ≡ w ++ s
    → (p : List ℕ) × (q ≡ w ++ p) × (p ++ 10 ∷ r ≡ s)
skip_run test fails [] q r s all e = (q, refl, e)
skip_run test fails (b ∷ w) [] r s all e =
    let same : b ≡ 10 = cc in
    absurd (false≢true (sym fails ∙ subst (λ (v : ℕ). test v ≡ true) same (All-head (λ v. test v ≡ true) b w all)))
skip_run test fails (b ∷ w) (a ∷ q) r s all e =
    let same : a ≡ b = cc in
    let tails : q ++ 10 ∷ r ≡ w ++ s = cc in
    let more = skip_run test fails w q r s (All-tail (λ v. test v ≡ true) b w all) tails in
    (more.0, (λ i. same i ∷ more.1 i), more.2)

skip_one : (c : ℕ) → c ≢ 10 → (q r s : List ℕ) → q ++ 10 ∷ r ≡ c ∷ s → (p : List ℕ) × (q ≡ c ∷ p) × (p ++ 10 ∷ r ≡ s)
skip_one c not [] r s e = absurd (not (let same : c ≡ 10 = cc in same))
skip_one c not (a ∷ q) r s e =
    let same : a ≡ c = cc in
    let tails : q ++ 10 ∷ r ≡ s = cc in
    (q, ap (λ (v : ℕ). v ∷ q) same, tails)

clash : (a b : ℕ) (x y : List ℕ) → a ≢ b → a ∷ x ≡ b ∷ y → ⊥
clash a b x y not e = not (let same : a ≡ b = cc in same)

-- a line feed is that of the line's end, or stands behind it
at_end : (e : LineEnd) (q r s : List ℕ) → q ++ 10 ∷ r ≡ print_end e ++ s
    → ((q ++ 10 ∷ [] ≡ print_end e) × (r ≡ s)) ⊎ ((p : List ℕ) × (q ≡ print_end e ++ p) × (p ++ 10 ∷ r ≡ s))
at_end lf [] r s e = inl (refl, let tails : r ≡ s = cc in tails)
at_end lf (a ∷ q) r s e =
    let same : a ≡ 10 = cc in
    let tails : q ++ 10 ∷ r ≡ s = cc in
    inr (q, ap (λ (v : ℕ). v ∷ q) same, tails)
at_end crlf [] r s e = absurd (clash 10 13 r (10 ∷ s) (λ x. omega (arith, x)) e)
at_end crlf (a ∷ []) r s e =
    let same : a ≡ 13 = cc in
    let tails : r ≡ s = cc in
    inl (ap (λ (v : ℕ). v ∷ 10 ∷ []) same, tails)
at_end crlf (a ∷ b ∷ q) r s e =
    let first : a ≡ 13 = cc in
    let second : b ≡ 10 = cc in
    let tails : q ++ 10 ∷ r ≡ s = cc in
    inr (q, (λ i. first i ∷ second i ∷ q), tails)

no_space : (e : LineEnd) (q : List ℕ) → q ++ 10 ∷ [] ≡ print_end e → list_any is_space q ≡ true → ⊥
no_space lf [] e any = false≢true any
no_space lf (a ∷ q) e any = omega (arith, ap (λ (x : List ℕ). length x) e, length_past q [])
no_space crlf [] e any = false≢true any
no_space crlf (a ∷ []) e any =
    let same : a ≡ 13 = cc in
    false≢true (subst (λ (v : ℕ). list_any is_space (v ∷ []) ≡ true) same any)
no_space crlf (a ∷ b ∷ q) e any = omega (arith, ap (λ (x : List ℕ). length x) e, length_past q [])

space_behind : (e : LineEnd) (p : List ℕ) → list_any is_space (print_end e ++ p) ≡ true → list_any is_space p ≡ true
space_behind lf p any = any
space_behind crlf p any = any

-- a line feed behind a space stands behind the empty lines
skip_blank : (es : List LineEnd) (q r s : List ℕ) → list_any is_space q ≡ true → q ++ 10 ∷ r ≡ print_blank es ++ s
    → (p : List ℕ) × (q ≡ print_blank es ++ p) × (p ++ 10 ∷ r ≡ s)
skip_blank [] q r s any e = (q, refl, e)
skip_blank (end ∷ es) q r s any e =
    elim (at_end end q r (print_blank es ++ s) (e ∙ append_assoc (print_end end) (print_blank es) s)) [
      | inl x ↦ absurd (no_space end q x.0 any)
      | inr x ↦
          let more = skip_blank es x.0 r s (space_behind end x.0 (subst (λ (v : List ℕ). list_any is_space v ≡ true) x.1 any)) x.2 in
          (more.0, x.1 ∙ (ap (λ (v : List ℕ). print_end end ++ v) more.1 ∙ sym (append_assoc (print_end end) (print_blank es) more.0)), more.2)
    ]

-- what the bytes up to a line feed are, piece by piece
after_run : (w q p s : List ℕ) → q ≡ w ++ p → p ++ 10 ∷ [] ≡ s → q ++ 10 ∷ [] ≡ w ++ s
after_run w q p s e f = ap (λ (x : List ℕ). x ++ 10 ∷ []) e ∙ (append_assoc w p (10 ∷ []) ∙ ap (λ (x : List ℕ). w ++ x) f)

after_one : (c : ℕ) (q p s : List ℕ) → q ≡ c ∷ p → p ++ 10 ∷ [] ≡ s → q ++ 10 ∷ [] ≡ c ∷ s
after_one c q p s e f = ap (λ (x : List ℕ). x ++ 10 ∷ []) e ∙ ap (λ (x : List ℕ). c ∷ x) f

-- a line feed in a section ends a field line or is its last byte
pub lines_before : (fs : List Field) (last : LineEnd) (q r : List ℕ) → All IsField fs → q ++ 10 ∷ r ≡ print_section fs last ++ []
    → ((gs : List Field) × All IsField gs × (q ++ 10 ∷ [] ≡ flat_map print_field gs)) ⊎ (r ≡ [])
lines_before [] last q r all e =
    elim (at_end last q r [] e) [
      | inl x ↦ inr x.1
      | inr x ↦ absurd (omega (arith, ap (λ (v : List ℕ). length v) x.2, length_past x.0 r))
    ]
lines_before (f ∷ fs) last q r all e =
    let field = All-head IsField f fs all in
    let tail = print_section fs last ++ [] in
    let whole : q ++ 10 ∷ r ≡ print_field f ++ tail =
    e ∙ (ap (λ (t : List ℕ). t ++ []) (append_assoc (print_field f) (flat_map print_field fs) (print_end last))
    ∙ append_assoc (print_field f) (flat_map print_field fs ++ print_end last) []) in
    let a = skip_run is_token_byte token_ends f.name q r _ field.name.1 (whole ∙ print_field-append f tail) in
    let b = skip_one 58 (λ x. omega (arith, x)) a.0 r _ a.2 in
    let c = skip_run is_value_byte refl f.raw b.0 r _ field.raw b.2 in
    let line : (s : List ℕ) → c.0 ++ 10 ∷ [] ≡ print_end f.end ++ s → q ++ 10 ∷ [] ≡ print_field f ++ s =
    λ s x. after_run f.name q a.0 _ a.1 (after_one 58 a.0 b.0 _ b.1 (after_run f.raw b.0 c.0 _ c.1 x)) ∙ sym (print_field-append f s) in
    elim (at_end f.end c.0 r tail c.2) [
      | inl x ↦ inl (f ∷ [], All-cons IsField f [] field (All-nil IsField), line [] (x.0 ∙ sym (append-nil (print_end f.end))))
      | inr x ↦ elim (lines_before fs last x.0 r (All-tail IsField f fs all) x.2) [
        | inl y ↦ inl (f ∷ y.0, All-cons IsField f y.0 field y.1, line _ (after_run (print_end f.end) c.0 x.0 _ x.1 y.2))
        | inr y ↦ inr y
      ]
    ]

version_passes : (minor : ℕ) → minor ≤ 1 → AllPass is_value_byte (print_version minor)
version_passes zero h = AllPass-from_list_all is_value_byte (print_version 0) refl
version_passes (suc zero) h = AllPass-from_list_all is_value_byte (print_version 1) refl
version_passes (suc (suc m)) h = absurd (omega (arith, h))

-- a line feed behind a space in a head ends its request line or a field line, or is its last byte
pub head_before : (h : RequestHead) (q r : List ℕ) → IsRequestHead h → list_any is_space q ≡ true
    → q ++ 10 ∷ r ≡ print_line h (print_section h.fields h.last ++ [])
    → ((gs : List Field) × All IsField gs × (q ++ 10 ∷ [] ≡ print_line h (flat_map print_field gs))) ⊎ (r ≡ [])
head_before h q r is any e =
    let z = skip_blank h.blank q r _ any e in
    let a = skip_run is_token_byte token_ends h.method z.0 r _ is.method.1 z.2 in
    let b = skip_one 32 (λ x. omega (arith, x)) a.0 r _ a.2 in
    let c = skip_run is_uri_byte refl h.target b.0 r _ is.target.1 b.2 in
    let d = skip_one 32 (λ x. omega (arith, x)) c.0 r _ c.2 in
    let v = skip_run is_value_byte refl (print_version h.minor) d.0 r _ (version_passes h.minor is.minor) d.2 in
    let line : (s : List ℕ) → v.0 ++ 10 ∷ [] ≡ print_end h.line_end ++ s → q ++ 10 ∷ [] ≡ print_line h s =
    λ s x. after_run (print_blank h.blank) q z.0 _ z.1 (after_run h.method z.0 a.0 _ a.1 (after_one 32 a.0 b.0 _ b.1
    (after_run h.target b.0 c.0 _ c.1 (after_one 32 c.0 d.0 _ d.1 (after_run (print_version h.minor) d.0 v.0 _ v.1 x))))) in
    elim (at_end h.line_end v.0 r (print_section h.fields h.last ++ []) v.2) [
      | inl x ↦ inl ([], All-nil IsField, line [] (x.0 ∙ sym (append-nil (print_end h.line_end))))
      | inr x ↦ elim (lines_before h.fields h.last x.0 r is.fields x.2) [
        | inl y ↦ inl (y.0, y.1, line _ (after_run (print_end h.line_end) v.0 x.0 _ x.1 y.2))
        | inr y ↦ inr y
      ]
    ]

-- no line feed stands behind a space where the target hasn't ended
pub none_in_target : (blank : List LineEnd) (method target q r : List ℕ) → AllPass is_token_byte method → AllPass is_uri_byte target
    → list_any is_space q ≡ true → q ++ 10 ∷ r ≡ print_blank blank ++ (method ++ 32 ∷ target) → ⊥
none_in_target blank method target q r token uri any e =
    let z = skip_blank blank q r _ any e in
    let a = skip_run is_token_byte token_ends method z.0 r _ token z.2 in
    let b = skip_one 32 (λ x. omega (arith, x)) a.0 r _ a.2 in
    let c = skip_run is_uri_byte refl target b.0 r [] uri (b.2 ∙ sym (append-nil target)) in
    omega (arith, ap (λ (v : List ℕ). length v) c.2, length_past c.0 r)
