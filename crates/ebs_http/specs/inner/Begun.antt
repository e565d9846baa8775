-- A head of which the request line has come.
use Rattle.std.specs.Prelude.{ℕ, List, ◌∷◌, ◌++◌, ◌≡◌, ◌≤◌, length, drop}
use Rattle.std.specs.List.{flat_map}
use Rattle.httparse.specs.Ascii.{space}
use Rattle.httparse.specs.Grammar.{RequestHead, print_blank, print_version, print_end, IsRequestHead, print_field}

-- the request line of the head, with the empty lines before it, and then rest
abbrev pub print_line : RequestHead → List ℕ → List ℕ
print_line h rest =
    print_blank h.blank ++ (h.method ++ space ∷ (h.target ++ space ∷ (print_version h.minor ++ (print_end h.line_end ++ rest))))

-- the first n bytes are the request line and the field lines of this head
pub record IsBegunUnder (bytes : List ℕ) (n : ℕ) (h : RequestHead) : Type 0 where
  pub within : n ≤ length bytes
  pub head : IsRequestHead h
  pub text : bytes ≡ print_line h (flat_map print_field h.fields ++ drop n bytes)

-- the first n bytes are a request line and whole field lines
abbrev pub HasBegun : List ℕ → ℕ → Type 0
HasBegun bytes n = (h : RequestHead) × IsBegunUnder bytes n h
