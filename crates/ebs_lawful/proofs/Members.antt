-- The members of a call, where none is bad.
use Rattle.std.proofs.Common.{◌≡◌, ℕ, Bool, true, false, List, Option, Some, None, refl}
use Rattle.std.specs.Option.{is_none}
use Rattle.ebs_model.specs.Limits.{unless}

pub none_is : {A : Type 0} (o : Option A) → is_none o ≡ true → o ≡ None
none_is None e = refl
none_is (Some x) e = absurd (cc)

pub both : (a : Bool) (name : List ℕ) (rest : Option (List ℕ)) → unless a name rest ≡ None → (a ≡ true) × (rest ≡ None)
both true name rest e = (refl, e)
both false name rest e = absurd (cc)

pub three : (a b c : Bool) (n1 n2 n3 : List ℕ) → unless a n1 (unless b n2 (unless c n3 None)) ≡ None → (a ≡ true) × (b ≡ true) × (c ≡ true)
three a b c n1 n2 n3 e = let one = both a _ _ e in let two = both b _ _ one.1 in (one.0, two.0, (both c _ _ two.1).0)

pub four : (a b c d : Bool) (n1 n2 n3 n4 : List ℕ) → unless a n1 (unless b n2 (unless c n3 (unless d n4 None))) ≡ None → (a ≡ true) × (b ≡ true) × (c ≡ true) × (d ≡ true)
four a b c d n1 n2 n3 n4 e = let one = both a _ _ e in let two = both b _ _ one.1 in let last = both c _ _ two.1 in (one.0, two.0, last.0, (both d _ _ last.1).0)
