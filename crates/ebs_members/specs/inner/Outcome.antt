-- Beside what is promised: how the answer of a reader stands to what is wanted.
use Rattle.std.specs.Prelude.{◌≡◌, Result, Err, Ok}
use Rattle.ebs_model.specs.declared.answer.Refusal.{Refusal}
use Rattle.ebs_model.specs.declared.answer.Refusal.TheVariants.{BadParameter, NoSuchCall}
use Rattle.ebs_model.specs.declared.answer.Failure.{Failure}
use Rattle.ebs_model.specs.declared.answer.Failure.TheVariants.{Refused, Memory}
use Rattle.ebs_members.specs.declared.members.Wrong.{Wrong}
use Rattle.ebs_members.specs.declared.members.Wrong.TheVariants.{Member, NoSuchCall as no_such_call, Memory as memory}

-- what is wanted is refused so, unless memory ran out
abbrev pub Fails : {A : Type 0} → Result A Refusal → Failure → Type 0
Fails want (Refused r) = want ≡ Err r
Fails want Memory = Unit {0}

-- the answer is what is wanted, unless memory ran out
abbrev pub Gives : {A : Type 0} → Result A Refusal → Result A Failure → Type 0
Gives want (Ok x) = want ≡ Ok x
Gives want (Err e) = Fails want e

-- the same of what is read before names become texts
abbrev pub Misses : {A : Type 0} → Result A Refusal → Wrong → Type 0
Misses want (Member name) = want ≡ Err (BadParameter name.now)
Misses want no_such_call = want ≡ Err NoSuchCall
Misses want memory = Unit {0}

abbrev pub Reads : {A : Type 0} → Result A Refusal → Result A Wrong → Type 0
Reads want (Ok x) = want ≡ Ok x
Reads want (Err wrong) = Misses want wrong

-- memory ran out
abbrev pub RanOut : Wrong → Type 0
RanOut wrong = wrong ≡ memory

-- it isn't for want of memory
abbrev pub IsExact : {A : Type 0} → Result A Wrong → Type 0
IsExact (Ok x) = Unit {0}
IsExact (Err wrong) = RanOut wrong → ⊥

-- nothing is refused
abbrev pub IsGood : {A : Type 0} → Result A Refusal → Type 0
IsGood (Ok x) = Unit {0}
IsGood (Err r) = ⊥

-- what is handed out is the same; only a name takes memory
abbrev pub IsHandedOut : Wrong → Failure → Type 0
IsHandedOut (Member name) failure = Fails {A = Unit {0}} (Err (BadParameter name.now)) failure
IsHandedOut no_such_call failure = failure ≡ Refused NoSuchCall
IsHandedOut memory failure = failure ≡ Memory
