-- What the router's captures are of a path that the tokens fit: the pieces, in turn.
use Rattle.std.proofs.Common.{◌≡◌, ℕ, suc, ◌+◌, ◌-◌, ◌<◌, List, [], ◌∷◌, ◌++◌, length, drop, get_or, map, zip, true, false, refl, sym, ap, ◌∙◌, subst, arith, ltb, leb, ◌==◌, ◌&&◌, ◌⊎◌, length-append, append-nil, get_or-drop, drop-drop, take_at, drop_at, inl, inr, lt-ltb, le-ltb, le-leb, eqb-true}
use Rattle.std.proofs.lemmas.Bool.{and_parts, and_right}
use Rattle.matchit.specs.Seek.{segment, has_slash}
use Rattle.matchit.specs.Params.{walk, wild_from, wild_stop, part_of, after_token}
use Rattle.ebs_rest.proofs.Fitting.{Fits, is_plain, ends_piece, segment_front}

past : (xs : List ℕ) (n x : ℕ) (t : List ℕ) → drop n xs ≡ x ∷ t → drop (n + 1) xs ≡ t
past xs n x t e = sym (drop-drop 1 n xs) ∙ ap (drop 1) e

here : (xs : List ℕ) (n x : ℕ) (t : List ℕ) → drop n xs ≡ x ∷ t → get_or xs n 0 ≡ x
here xs n x t e =
    let same : n + 0 ≡ n = omega arith in
    ap (λ (k : ℕ). get_or xs k 0) (sym same) ∙ sym (get_or-drop n xs 0 0) ∙ ap (λ (ys : List ℕ). get_or ys 0 0) e

-- where a piece ends
stop_last : (tokens path : List ℕ) (token : ℕ) (at : ℕ) → length tokens ≡ token + 1 → wild_stop tokens token path at ≡ length path
stop_last tokens path token at size =
    let last : ltb (token + 1) (length tokens) ≡ false = le-ltb (token + 1) (length tokens) (omega arith) in
    rw (and_right (ltb token (length tokens) && (get_or tokens token 0 == 256)) (ltb (token + 1) (length tokens)) last) refl

stop_before : (tokens path t piece rest : List ℕ) (token at : ℕ) → drop token tokens ≡ 256 ∷ 47 ∷ t → token + 1 < length tokens → drop at path ≡ piece ++ 47 ∷ rest → has_slash piece ≡ false
    → wild_stop tokens token path at ≡ at + length piece
stop_before tokens path t piece rest token at e size is whole =
    let a : ltb token (length tokens) ≡ true = lt-ltb token (length tokens) (omega arith) in
    let b : (get_or tokens token 0 == 256) ≡ true = rw (here tokens token 256 (47 ∷ t) e) refl in
    let c : ltb (token + 1) (length tokens) ≡ true = lt-ltb (token + 1) (length tokens) size in
    let own : length (segment (drop at path)) ≡ length piece + 1 = ap (λ (p : List ℕ). length (segment p)) is ∙ ap length (segment_front piece rest whole) ∙ length-append piece (47 ∷ []) in
    let its : length (segment (drop (token + 1) tokens)) ≡ 1 = ap (λ (p : List ℕ). length (segment p)) (past tokens token 256 (47 ∷ t) e) in
    rw (a, b, c, own, its) (omega arith)

-- a piece is followed by nothing or by a slash
abbrev pub IsBefore : List ℕ → List ℕ → Type 0
IsBefore t rest = ((t ≡ []) × (rest ≡ [])) ⊎ ((after : List ℕ) × (later : List ℕ) × (t ≡ 47 ∷ after) × (rest ≡ 47 ∷ later))

pub is_before : (t rest : List ℕ) (more : List (List ℕ)) → ends_piece t ≡ true → Fits t rest more → IsBefore t rest
is_before [] rest more ends fits = inl (refl, fits.0)
is_before (x ∷ t) rest more ends fits =
    let slash : x ≡ 47 = eqb-true x 47 ends in
    elim fits [
      | inl byte ↦ inr (t, byte.1, ap (λ (y : ℕ). y ∷ t) slash, byte.2 ∙ ap (λ (y : ℕ). y ∷ byte.1) slash)
      | inr param ↦ let other : x ≡ 256 = param.0 in absurd (omega arith)
    ]

stop_is : (tokens path t piece rest : List ℕ) (more : List (List ℕ)) (token at : ℕ) → is_plain (256 ∷ t) ≡ true → has_slash piece ≡ false → Fits t rest more
    → drop token tokens ≡ 256 ∷ t → length tokens ≡ token + suc (length t) → drop at path ≡ piece ++ rest → length path ≡ at + length (piece ++ rest) → wild_stop tokens token path at ≡ at + length piece
stop_is tokens path t piece rest more token at plain whole fits e size is long = elim (is_before t rest more (and_parts _ _ plain).0 fits) [
  | inl last ↦
      let none : length t ≡ 0 = ap length last.0 in
      let all : length (piece ++ rest) ≡ length piece = ap (λ (r : List ℕ). length (piece ++ r)) last.1 ∙ ap length (append-nil piece) in
      stop_last tokens path token at (omega arith) ∙ omega arith
  | inr before ↦
      let some : length t ≡ suc (length before.0) = ap length before.2 in
      stop_before tokens path before.0 piece before.1 token at (e ∙ ap (λ (s : List ℕ). 256 ∷ s) before.2) (omega arith) (is ∙ ap (λ (r : List ℕ). piece ++ r) before.3) whole
]

part_is : (path piece rest : List ℕ) (at : ℕ) → drop at path ≡ piece ++ rest → length path ≡ at + length (piece ++ rest) → part_of path at (at + length piece) ≡ piece
part_is path piece rest at is long =
    let size : length (piece ++ rest) ≡ length piece + length rest = length-append piece rest in
    let from : leb at (at + length piece) ≡ true = le-leb at (at + length piece) (omega arith) in
    let to : leb (at + length piece) (length path) ≡ true = le-leb (at + length piece) (length path) (omega arith) in
    let count : at + length piece - at ≡ length piece = omega arith in
    rw (from, to, count, is) (take_at piece rest (length piece) refl)

-- the names of the parameters
abbrev pub names_of : List ℕ → List (ℕ × ℕ) → List (List ℕ)
names_of text names = map (λ n. part_of text n.0 n.1) names

pub walked : (tokens text path t rest : List ℕ) (pieces : List (List ℕ)) (names : List (ℕ × ℕ)) (token at : ℕ)
    → is_plain t ≡ true → Fits t rest pieces → length names ≡ length pieces
    → drop token tokens ≡ t → length tokens ≡ token + length t → drop at path ≡ rest → length path ≡ at + length rest → length tokens < 18446744073709551615
    → walk tokens text path names token at ≡ zip (names_of text names) pieces
walked tokens text path t rest pieces [] token at plain fits same e size is long small = refl
walked tokens text path [] rest pieces (name ∷ names) token at plain fits same e size is long small =
    let none : length pieces ≡ 0 = ap length fits.1 in
    absurd (omega arith)
walked tokens text path (x ∷ t) rest pieces (name ∷ names) token at plain fits same e size is long small = elim fits [
  | inl byte ↦
      let low : x < 128 = byte.0 in
      let literal : ltb x 256 ≡ true = lt-ltb x 256 (omega arith) in
      let more : length rest ≡ suc (length byte.1) = ap length byte.2 in
      let within : ltb at (length path) ≡ true = lt-ltb at (length path) (omega arith) in
      let next : drop (token + 1) tokens ≡ t = past tokens token x t e in
      let after : drop (at + 1) path ≡ byte.1 = past path at x byte.1 (is ∙ byte.2) in
      let over : wild_from (x ∷ t) (length path) token at ≡ wild_from t (length path) (token + 1) (at + 1) = rw (literal, within) refl in
      let on : wild_from (drop token tokens) (length path) token at ≡ wild_from (drop (token + 1) tokens) (length path) (token + 1) (at + 1) =
      ap (λ (ts : List ℕ). wild_from ts (length path) token at) e ∙ over ∙ ap (λ (ts : List ℕ). wild_from ts (length path) (token + 1) (at + 1)) (sym next) in
      let step : walk tokens text path (name ∷ names) token at ≡ walk tokens text path (name ∷ names) (token + 1) (at + 1) =
      ap (λ (w : ℕ × ℕ). (part_of text name.0 name.1, part_of path w.1 (wild_stop tokens w.0 path w.1)) ∷ walk tokens text path names (after_token w.0) (wild_stop tokens w.0 path w.1)) on in
      step ∙ walked tokens text path t byte.1 pieces (name ∷ names) (token + 1) (at + 1) (and_parts _ _ plain).1 byte.3 same next (omega arith) after (omega arith) small
  | inr param ↦
      let ahead : drop token tokens ≡ 256 ∷ t = e ∙ ap (λ (y : ℕ). y ∷ t) param.0 in
      let head : is_plain (256 ∷ t) ≡ true = subst (λ (y : ℕ). is_plain (y ∷ t) ≡ true) param.0 plain in
      let from : drop at path ≡ param.1 ++ param.2 = is ∙ param.4 in
      let size_of : length rest ≡ length (param.1 ++ param.2) = ap length param.4 in
      let all : length (param.1 ++ param.2) ≡ length param.1 + length param.2 = length-append param.1 param.2 in
      let count : length pieces ≡ suc (length param.3) = ap length param.5 in
      let wild : wild_from (drop token tokens) (length path) token at ≡ (token, at) = ap (λ (ts : List ℕ). wild_from ts (length path) token at) ahead in
      let stop : wild_stop tokens token path at ≡ at + length param.1 = stop_is tokens path t param.1 param.2 param.3 token at head param.6 param.7 ahead size from (omega arith) in
      let part : part_of path at (at + length param.1) ≡ param.1 = part_is path param.1 param.2 at from (omega arith) in
      let after : after_token token ≡ token + 1 = omega arith in
      let behind : drop (at + length param.1) path ≡ param.2 = sym (drop-drop (length param.1) at path) ∙ ap (drop (length param.1)) from ∙ drop_at param.1 param.2 (length param.1) refl in
      let first : walk tokens text path (name ∷ names) token at ≡ (part_of text name.0 name.1, param.1) ∷ walk tokens text path names (token + 1) (at + length param.1) =
      ap (λ (w : ℕ × ℕ). (part_of text name.0 name.1, part_of path w.1 (wild_stop tokens w.0 path w.1)) ∷ walk tokens text path names (after_token w.0) (wild_stop tokens w.0 path w.1)) wild
      ∙ ap (λ (s : ℕ). (part_of text name.0 name.1, part_of path at s) ∷ walk tokens text path names (after_token token) s) stop
      ∙ ap (λ (p : List ℕ). (part_of text name.0 name.1, p) ∷ walk tokens text path names (after_token token) (at + length param.1)) part
      ∙ ap (λ (k : ℕ). (part_of text name.0 name.1, param.1) ∷ walk tokens text path names k (at + length param.1)) after in
      let others : walk tokens text path names (token + 1) (at + length param.1) ≡ zip (names_of text names) param.3 =
      walked tokens text path t param.2 param.3 names (token + 1) (at + length param.1) (and_parts _ _ plain).1 param.7 (omega arith) (past tokens token 256 t ahead) (omega arith) behind (omega arith) small in
      first ∙ ap (λ (ps : List (List ℕ × List ℕ)). (part_of text name.0 name.1, param.1) ∷ ps) others ∙ ap (λ (ps : List (List ℕ)). zip (names_of text (name ∷ names)) ps) (sym param.5)
]
