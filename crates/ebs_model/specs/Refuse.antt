-- Refusals in one order: each line of a `do` is a test, and the first that refuses is the answer.
use Rattle.std.specs.Prelude.{Result, Ok, Err, Bool, true, false, Option, None, Some, ℕ, List}
use Rattle.ebs_model.specs.declared.answer.Refusal.{Refusal}
use Rattle.ebs_model.specs.declared.answer.Refusal.TheVariants.{BadParameter}

infixr 1 ◌>>=◌
infixr 1 ◌>>◌
abbrev pub ◌>>=◌ : {A B : Type 0} → Result A Refusal → (A → Result B Refusal) → Result B Refusal
◌>>=◌ (Ok x) next = next x
◌>>=◌ (Err r) next = Err r

abbrev pub ◌>>◌ : {B : Type 0} → Result (Unit {0}) Refusal → Result B Refusal → Result B Refusal
◌>>◌ (Ok x) next = next
◌>>◌ (Err r) next = Err r

-- refused where the test holds
abbrev pub refuse_if : Bool → Refusal → Result (Unit {0}) Refusal
refuse_if true r = Err r
refuse_if false r = Ok tt

-- refused where there is nothing
abbrev pub some_or : {A : Type 0} → Option A → Refusal → Result A Refusal
some_or None r = Err r
some_or (Some x) r = Ok x

-- refused by the name of a bad member, where there is one
abbrev pub refuse_bad : Option (List ℕ) → Result (Unit {0}) Refusal
refuse_bad None = Ok tt
refuse_bad (Some name) = Err (BadParameter name)

-- what there is after a change that may be refused: a refusal leaves it
abbrev pub or_left : {A E : Type 0} → A → Result A E → A
or_left old (Ok new) = new
or_left old (Err r) = old
