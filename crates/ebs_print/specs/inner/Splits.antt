-- The bytes that are written fall into answers in one way.
use Rattle.std.specs.Prelude.{◌<◌, ◌^◌, length, ◌≡◌, ℕ, List, ◌++◌, map}
use Rattle.std.specs.List.{flat_map}
use Rattle.ebs_model.specs.declared.answer.Answer.{Answer}
use Rattle.ebs_print.specs.Printed.{text_of}

-- a text of less than 2^64 bytes, as all texts in memory are
abbrev pub IsShort : Answer → Type 0
IsShort a = length (text_of a) < 2 ^ 64

-- where bytes begin with the texts of two answers, the texts are the same: its head tells where each ends
abbrev pub AnswersSplit : Type 0
AnswersSplit = (a b : Answer) (rest more : List ℕ) → IsShort a → IsShort b → text_of a ++ rest ≡ text_of b ++ more → (text_of a ≡ text_of b) × (rest ≡ more)

-- fewer than 2^64 bytes are the texts of one list of answers at most
abbrev pub ListsSplit : Type 0
ListsSplit = (answers others : List Answer) → length (flat_map text_of answers) < 2 ^ 64 → flat_map text_of answers ≡ flat_map text_of others → map text_of answers ≡ map text_of others
