-- Known bytes that stay as they were.
use Rattle.std.proofs.Common.{ℕ, List, Option, None, Some, refl, sym, ◌∙◌}
use Rattle.std.specs.Io.KnownBytes.{Keeps, Consumes}

pub keeps_itself : (a : Option (List ℕ)) → Keeps a a
keeps_itself None = tt
keeps_itself (Some xs) = refl

pub keeps_both : (a b c : Option (List ℕ)) → Keeps a b → Keeps b c → Keeps a c
keeps_both None b c p q = tt
keeps_both (Some xs) None c p q = absurd p
keeps_both (Some xs) (Some ys) None p q = absurd q
keeps_both (Some xs) (Some ys) (Some zs) p q = q ∙ p

pub consumes_kept : (a b c : Option (List ℕ)) (bs : List ℕ) → Keeps a b → Consumes b c bs → Consumes a c bs
consumes_kept None b c bs p q = tt
consumes_kept (Some xs) None c bs p q = absurd p
consumes_kept (Some xs) (Some ys) None bs p q = absurd q
consumes_kept (Some xs) (Some ys) (Some zs) bs p q = sym p ∙ q
