-- Beside what is promised: the kinds of members, each as what it reads.
use Rattle.std.specs.Prelude.{ℕ, List, Option, Bool, true}
use Rattle.ebs_model.specs.Limits.{is_client_token}
use Rattle.ebs_members.specs.declared.kinds.Words.{Words}
use Rattle.ebs_members.specs.declared.kinds.Words.TheVariants.{Any, Description, Token}
use Rattle.ebs_members.specs.declared.kinds.Check.{Check}
use Rattle.ebs_members.specs.declared.kinds.Check.TheVariants.{Exactly, OnlyFalse, Absent}
use Rattle.ebs_members.specs.Sources.{Given}
use Rattle.ebs_members.specs.Kinds.{any_text, description, token, is_description, absent, exactly, only_false}

abbrev pub words : Words → Given → Option (List ℕ)
words Any given = any_text given
words Description given = description given
words Token given = token given

abbrev pub fits : Words → List ℕ → Bool
fits Any text = true
fits Description text = is_description text
fits Token text = is_client_token text

abbrev pub check : Check → Given → Option (Unit {0})
check (Exactly expected) given = exactly expected.now given
check OnlyFalse given = only_false given
check Absent given = absent given
