-- A head as its field lines come.
use Rattle.std.proofs.Common.{◌≡◌, ℕ, ◌+◌, ◌<◌, true, List, [], ◌∷◌, ◌++◌, length, take, drop, get_or, nat_eq, refl, sym, ap, ◌∙◌, subst, arith, append_assoc, append-nil, length-append, length-drop, All, inl, inr}
use Rattle.std.specs.List.{flat_map, list_any}
use Rattle.std.proofs.lemmas.List.{drop-append-le, drop-drop, drop_at, drop_more, take-append-drop, length-take-le}
use Rattle.std.proofs.lemmas.Bool.{eqb-true}
use Rattle.std.proofs.lemmas.List.Elements.{All-append}
use Rattle.std.proofs.lemmas.Grind.{flat_map-append}
use Rattle.httparse.specs.Grammar.{LineEnd, Field, IsField, print_end, print_blank, print_version, print_field, ReadsSection, HasNoSection, MayBecomeSection, RequestHead, IsRequestHead, ReadsRequest, HasNoRequest, MayBecomeRequest}
use Rattle.httparse.specs.Pieces.{RequestStart}
use Rattle.httparse.proofs.GrammarLemmas.{cons-append, RequestTree, request_tree, request_head, request_pieces, request_from_pieces, print_request-append}
use Rattle.httparse.proofs.PieceLemmas.{RequestStart_deterministic, Section_skip, Stops_token}
use Rattle.ebs_http.specs.inner.Begun.{print_line, IsBegunUnder, HasBegun}
use Rattle.ebs_http.proofs.LineFeeds.{is_space, lines_before, head_before, none_in_target}

print_line-append : (h : RequestHead) (x more : List ℕ) → print_line h x ++ more ≡ print_line h (x ++ more)
print_line-append h x more = regroup (print_blank h.blank) h.method h.target (print_version h.minor) (print_end h.line_end) x more
  where
    regroup : (a b c d e f r : List ℕ)
        → (a ++ (b ++ 32 ∷ (c ++ 32 ∷ (d ++ (e ++ f))))) ++ r ≡ a ++ (b ++ 32 ∷ (c ++ 32 ∷ (d ++ (e ++ (f ++ r)))))
    regroup a b c d e f r = simp (append_assoc, cons-append)

line_reads : (h : RequestHead) (rest : List ℕ) → IsRequestHead h → RequestStart (request_tree h).0 (print_line h rest) rest
line_reads h rest is = (
  _,
  (refl, Stops_token h.method _ is.method.0 is.method.1),
  (
    _,
    (is.method.0, is.method.1, refl),
    (_, ((is.target.0, is.target.1, refl), is.target_text), (_, (is.minor, refl), refl)),
  ),
)

begun_reads : (bytes : List ℕ) (n : ℕ) (h : RequestHead) → IsBegunUnder bytes n h
    → RequestStart (request_tree h).0 bytes (flat_map print_field h.fields ++ drop n bytes)
begun_reads bytes n h b =
    subst (λ (x : List ℕ). RequestStart (request_tree h).0 x (flat_map print_field h.fields ++ drop n bytes)) (sym b.text) (line_reads h _ b.head)

-- more bytes behind
pub begun_append : (bytes more : List ℕ) (n : ℕ) → HasBegun bytes n → HasBegun (bytes ++ more) n
begun_append bytes more n (h, b) =
    let within = b.within in
    let tail = ap (λ (x : List ℕ). flat_map print_field h.fields ++ x) (sym (drop-append-le n bytes more within)) in (
      h,
      record {
        within = omega (arith, within, length-append bytes more);
        head = b.head;
        text = ap (λ (x : List ℕ). x ++ more) b.text ∙ (print_line-append h _ more
            ∙ ap (print_line h) (append_assoc (flat_map print_field h.fields) (drop n bytes) more ∙ tail));
      },
    )

-- no head is whole while the rest is no section
pub begun_none : (bytes : List ℕ) (n : ℕ) → HasBegun bytes n → HasNoSection (drop n bytes) → HasNoRequest bytes
begun_none bytes n (h, b) none k rest reads =
    let pieces = request_pieces bytes k rest reads in
    let same = RequestStart_deterministic.unique _ _ bytes _ _ pieces.1 (begun_reads bytes n h b) in
    let section : ReadsSection (flat_map print_field h.fields ++ drop n bytes) k.fields k.last rest =
    subst (λ (x : List ℕ). ReadsSection x k.fields k.last rest) same.1 pieces.2 in
    let skipped = Section_skip h.fields k.fields k.last _ (drop n bytes) rest (b.head.fields, refl) section in
    none skipped.0 k.last rest skipped.2

section_more : (fs gs : List Field) (last : LineEnd) (tail more : List ℕ) → All IsField fs → ReadsSection (tail ++ more) gs last []
    → ReadsSection ((flat_map print_field fs ++ tail) ++ more) (fs ++ gs) last []
section_more fs gs last tail more all reads = (
  All-append IsField fs gs all reads.0,
  append_assoc (flat_map print_field fs) tail more
      ∙ (ap (λ (x : List ℕ). flat_map print_field fs ++ x) reads.1
      ∙ (regroup (flat_map print_field fs) (flat_map print_field gs) (print_end last)
      ∙ ap (λ (x : List ℕ). (x ++ print_end last) ++ []) (sym (flat_map-append print_field fs gs)))),
)
  where
    regroup : (a b c : List ℕ) → a ++ ((b ++ c) ++ []) ≡ ((a ++ b) ++ c) ++ []
    regroup a b c = simp append_assoc

-- what completes the rest completes the head
pub begun_may : (bytes : List ℕ) (n : ℕ) → HasBegun bytes n → MayBecomeSection (drop n bytes) → MayBecomeRequest bytes
begun_may bytes n (h, b) (more, gs, last, reads) =
    let tree : RequestTree = ((request_tree h).0, (h.fields ++ gs, last)) in
    let start = RequestStart_deterministic.append _ bytes _ more (begun_reads bytes n h b) in
    let section = section_more h.fields gs last (drop n bytes) more b.head.fields reads in
    inl (more, request_head tree, request_from_pieces (bytes ++ more) tree [] (_, start, section))

nothing_more : (r more : List ℕ) → r ++ more ≡ [] → more ≡ []
nothing_more [] more e = e
nothing_more (a ∷ r) more e = absurd (omega (arith, ap (λ (x : List ℕ). length x) e))

behind : (q r more : List ℕ) → (q ++ 10 ∷ r) ++ more ≡ q ++ 10 ∷ (r ++ more)
behind q r more = append_assoc q (10 ∷ r) more

-- up to a line feed a partial section is whole field lines
section_lines : (tail q r : List ℕ) → tail ≡ q ++ 10 ∷ r → HasNoSection tail → MayBecomeSection tail
    → (gs : List Field) × All IsField gs × (q ++ 10 ∷ [] ≡ flat_map print_field gs)
section_lines tail q r cut none (more, fs, last, reads) =
    let whole = sym (ap (λ (x : List ℕ). x ++ more) cut ∙ behind q r more) ∙ reads.1 in
    elim (lines_before fs last q (r ++ more) reads.0 whole) [
      | inl x ↦ x
      | inr e ↦
          let nil = nothing_more r more e in
          let same : tail ++ more ≡ tail = ap (λ (x : List ℕ). tail ++ x) nil ∙ append-nil tail in
          absurd (none fs last [] (subst (λ (x : List ℕ). ReadsSection x fs last []) same reads))
    ]

line_cut : (q r : List ℕ) → q ++ 10 ∷ r ≡ (q ++ 10 ∷ []) ++ r
line_cut q r = sym (append_assoc q (10 ∷ []) r)

line_drop : (q r : List ℕ) → drop (length q + 1) (q ++ 10 ∷ r) ≡ r
line_drop q r = ap (drop (length q + 1)) (line_cut q r) ∙ drop_at (q ++ 10 ∷ []) r (length q + 1) (length-append q (10 ∷ []))

-- the place behind a line feed in the rest
pub begun_lines : (bytes q r : List ℕ) (n : ℕ) → HasBegun bytes n → drop n bytes ≡ q ++ 10 ∷ r → HasNoSection (drop n bytes)
    → MayBecomeSection (drop n bytes) → HasBegun bytes (n + (length q + 1))
begun_lines bytes q r n (h, b) cut none may =
    let gs = section_lines (drop n bytes) q r cut none may in
    let rest : drop (n + (length q + 1)) bytes ≡ r = sym (drop-drop (length q + 1) n bytes) ∙ (ap (drop (length q + 1)) cut ∙ line_drop q r) in
    let lines : flat_map print_field h.fields ++ drop n bytes ≡ flat_map print_field (h.fields ++ gs.0) ++ drop (n + (length q + 1)) bytes =
    ap (λ (x : List ℕ). flat_map print_field h.fields ++ x) (cut ∙ (line_cut q r ∙ (λ i. gs.2 i ++ sym rest i)))
    ∙ (sym (append_assoc (flat_map print_field h.fields) (flat_map print_field gs.0) (drop (n + (length q + 1)) bytes))
    ∙ ap (λ (x : List ℕ). x ++ drop (n + (length q + 1)) bytes) (sym (flat_map-append print_field h.fields gs.0))) in
    let size = ap (λ (x : List ℕ). length x) cut ∙ length-append q (10 ∷ r) in (
      record { blank = h.blank; method = h.method; target = h.target; minor = h.minor; line_end = h.line_end; fields = h.fields ++ gs.0; last = h.last },
      record {
        within = omega (arith, size, length-drop n bytes, b.within);
        head = record {
          method = b.head.method;
          target = b.head.target;
          target_text = b.head.target_text;
          minor = b.head.minor;
          fields = All-append IsField h.fields gs.0 b.head.fields gs.1;
        };
        text = b.text ∙ ap (print_line h) lines;
      },
    )

-- up to a line feed behind a space a partial head is its request line and whole field lines
head_lines : (bytes q r : List ℕ) → bytes ≡ q ++ 10 ∷ r → list_any is_space q ≡ true → HasNoRequest bytes → MayBecomeRequest bytes
    → (h : RequestHead) × IsRequestHead h × (q ++ 10 ∷ [] ≡ print_line h (flat_map print_field h.fields))
head_lines bytes q r cut any none (inr (blank, method, target, token, uri, e)) =
    absurd (none_in_target blank method target q r token.1 uri any (sym cut ∙ (e ∙ append_assoc (print_blank blank) method (32 ∷ target))))
head_lines bytes q r cut any none (inl (more, h, reads)) =
    let whole = sym (ap (λ (x : List ℕ). x ++ more) cut ∙ behind q r more) ∙ (reads.1 ∙ print_request-append h []) in
    elim (head_before h q (r ++ more) reads.0 any whole) [
      | inl x ↦ (
        record { blank = h.blank; method = h.method; target = h.target; minor = h.minor; line_end = h.line_end; fields = x.0; last = h.last },
        record { method = reads.0.method; target = reads.0.target; target_text = reads.0.target_text; minor = reads.0.minor; fields = x.1 },
        x.2,
      )
      | inr e ↦
          let nil = nothing_more r more e in
          let same : bytes ++ more ≡ bytes = ap (λ (x : List ℕ). bytes ++ x) nil ∙ append-nil bytes in
          absurd (none h [] (subst (λ (x : List ℕ). ReadsRequest x h []) same reads))
    ]

-- the place behind that line feed
pub begun_front : (bytes q r : List ℕ) → bytes ≡ q ++ 10 ∷ r → list_any is_space q ≡ true → HasNoRequest bytes → MayBecomeRequest bytes
    → HasBegun bytes (length q + 1)
begun_front bytes q r cut any none may =
    let found = head_lines bytes q r cut any none may in
    let h = found.0 in
    let rest : drop (length q + 1) bytes ≡ r = ap (drop (length q + 1)) cut ∙ line_drop q r in
    let size = ap (λ (x : List ℕ). length x) cut ∙ length-append q (10 ∷ r) in (
      h,
      record {
        within = omega (arith, size);
        head = found.1;
        text = cut ∙ (line_cut q r ∙ (ap (λ (x : List ℕ). x ++ r) found.2
            ∙ (print_line-append h (flat_map print_field h.fields) r
            ∙ ap (λ (x : List ℕ). print_line h (flat_map print_field h.fields ++ x)) (sym rest))));
      },
    )

cut_at : (xs : List ℕ) (k : ℕ) → k < length xs → nat_eq (get_or xs k 0) 10 ≡ true → xs ≡ take k xs ++ 10 ∷ drop (k + 1) xs
cut_at xs k below e =
    let same : get_or xs k 0 ≡ 10 = eqb-true (get_or xs k 0) 10 e in
    sym (take-append-drop k xs) ∙ ap (λ (x : List ℕ). take k xs ++ x) (drop_more xs k 0 below ∙ ap (λ (v : ℕ). v ∷ drop (k + 1) xs) same)

-- the same by the place of the line feed
pub begun_front_at : (bytes : List ℕ) (k : ℕ) → k < length bytes → nat_eq (get_or bytes k 0) 10 ≡ true → list_any is_space (take k bytes) ≡ true
    → HasNoRequest bytes → MayBecomeRequest bytes → HasBegun bytes (k + 1)
begun_front_at bytes k below e any none may =
    subst (λ (n : ℕ). HasBegun bytes (n + 1)) (length-take-le k bytes (omega (arith, below)))
    (begun_front bytes (take k bytes) (drop (k + 1) bytes) (cut_at bytes k below e) any none may)

pub begun_lines_at : (bytes : List ℕ) (n k : ℕ) → HasBegun bytes n → k < length (drop n bytes) → nat_eq (get_or (drop n bytes) k 0) 10 ≡ true
    → HasNoSection (drop n bytes) → MayBecomeSection (drop n bytes) → HasBegun bytes (n + (k + 1))
begun_lines_at bytes n k begun below e none may =
    subst (λ (m : ℕ). HasBegun bytes (n + (m + 1))) (length-take-le k (drop n bytes) (omega (arith, below)))
    (begun_lines bytes (take k (drop n bytes)) (drop (k + 1) (drop n bytes)) n begun (cut_at (drop n bytes) k below e) none may)
