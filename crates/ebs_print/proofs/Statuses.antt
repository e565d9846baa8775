-- What no refusal's text begins with.
use Rattle.std.proofs.Common.{◌≡◌, ℕ, ◌<◌, List, [], ◌∷◌, ◌++◌, codes, refl, sym, ap, ◌∙◌, arith, drop, decimal, length, append_assoc}
use Rattle.std.specs.Fmt.{digits}
use Rattle.http.specs.StatusCode.{status_text}
use Rattle.ebs_model.specs.declared.answer.Refusal.{Refusal}
use Rattle.ebs_model.specs.declared.answer.Refusal.TheVariants.{BadParameter, BadSize, BadIndex, BadBlockToken, BadPageToken, WrongState, Unrelated, Checksum, NotFound, NotOwner, TokenConflict, OpenUploads, Quota, Locked, RuleLocked, Exhausted, Unavailable, Damaged, NoSuchCall}
use Rattle.ebs_model.specs.declared.answer.Answer.TheVariants.{Refused, Memory}
use Rattle.ebs_print.specs.Printed.{head, message, text_of}
use Rattle.ebs_print.specs.Refusals.{row_of}

abbrev first : List ℕ → ℕ
first [] = 0
first (b ∷ bytes) = b

-- the first digit of the status is above 2
abbrev IsFault : ℕ → Type 0
IsFault status = (rest : List ℕ) → 50 < first (status_text status ++ rest)

fault_400 : IsFault 400
unfolding digits
fault_400 rest = let digit : first (status_text 400 ++ rest) ≡ 52 = refl in omega (arith, digit)

fault_402 : IsFault 402
unfolding digits
fault_402 rest = let digit : first (status_text 402 ++ rest) ≡ 52 = refl in omega (arith, digit)

fault_403 : IsFault 403
unfolding digits
fault_403 rest = let digit : first (status_text 403 ++ rest) ≡ 52 = refl in omega (arith, digit)

fault_404 : IsFault 404
unfolding digits
fault_404 rest = let digit : first (status_text 404 ++ rest) ≡ 52 = refl in omega (arith, digit)

fault_409 : IsFault 409
unfolding digits
fault_409 rest = let digit : first (status_text 409 ++ rest) ≡ 52 = refl in omega (arith, digit)

fault_500 : IsFault 500
unfolding digits
fault_500 rest = let digit : first (status_text 500 ++ rest) ≡ 53 = refl in omega (arith, digit)

fault_503 : IsFault 503
unfolding digits
fault_503 rest = let digit : first (status_text 503 ++ rest) ≡ 53 = refl in omega (arith, digit)

fault_507 : IsFault 507
unfolding digits
fault_507 rest = let digit : first (status_text 507 ++ rest) ≡ 53 = refl in omega (arith, digit)

faults : (refusal : Refusal) → IsFault (row_of refusal).status
faults (BadParameter name) = fault_400
faults BadSize = fault_400
faults BadIndex = fault_400
faults BadBlockToken = fault_400
faults BadPageToken = fault_400
faults (WrongState name) = fault_409
faults Unrelated = fault_400
faults (Checksum stated found) = fault_400
faults (NotFound kind) = fault_404
faults NotOwner = fault_403
faults (TokenConflict key) = fault_409
faults OpenUploads = fault_400
faults (Quota what number) = fault_402
faults (Locked until) = fault_409
faults RuleLocked = fault_409
faults (Exhausted spent) = fault_402
faults Unavailable = fault_503
faults (Damaged stored found) = fault_500
faults NoSuchCall = fault_404

not_ok : (status : ℕ) (kind lines body rest : List ℕ) → IsFault status → message status kind lines body ≡ codes "HTTP/1.1 200 OK" ++ rest → ⊥
unfolding head
not_ok status kind lines body rest fault ok =
    let tail : List ℕ = codes "\r\nContent-Type: " ++ (kind ++ (codes "\r\nContent-Length: " ++ (decimal (length body) ++ (codes "\r\n" ++ (lines ++ codes "\r\n"))))) in
    let behind : (status_text status ++ tail) ++ body ≡ codes "200 OK" ++ rest = ap (drop 9) ok in
    let digit : first (status_text status ++ (tail ++ body)) ≡ 50 = ap first (sym (append_assoc (status_text status) tail body) ∙ behind) in
    let above = fault (tail ++ body) in
    omega (arith, digit, above)

pub refused_not_ok : (refusal : Refusal) (rest : List ℕ) → text_of (Refused refusal) ≡ codes "HTTP/1.1 200 OK" ++ rest → ⊥
refused_not_ok refusal rest ok = not_ok (row_of refusal).status _ _ _ rest (faults refusal) ok

pub memory_not_ok : (rest : List ℕ) → text_of Memory ≡ codes "HTTP/1.1 200 OK" ++ rest → ⊥
memory_not_ok rest ok = not_ok 507 _ _ _ rest fault_507 ok
