-- A head tells where its answer ends.
use Rattle.std.proofs.Common.{◌≡◌, ℕ, ◌<◌, ◌^◌, true, false, List, [], ◌∷◌, ◌++◌, codes, refl, sym, ap, ap₂, ◌∙◌, subst, arith, drop, get_or, decimal, length, length-append, append_assoc, map}
use Rattle.std.specs.List.{flat_map}
use Rattle.std.specs.Fmt.{digits}
use Rattle.std.proofs.lemmas.Fmt.{decimal_injective}
use Rattle.http.specs.StatusCode.{status_text}
use Rattle.ebs_model.specs.declared.answer.Answer.{Answer}
use Rattle.ebs_model.specs.declared.answer.Answer.TheVariants.{Started, BlockWritten, Completed, BlockList, ChangedList, BlockRead, ZeroBlockRead, SnapshotShown, SnapshotList, Done, LockShown, TierShown, VolumeShown, RuleShown, RuleList, PolicyShown, PolicyRan, Refused, Memory}
use Rattle.ebs_model.specs.declared.answer.Refusal.{Refusal}
use Rattle.ebs_model.specs.declared.answer.Refusal.TheVariants.{BadParameter, BadSize, BadIndex, BadBlockToken, BadPageToken, WrongState, Unrelated, Checksum, NotFound, NotOwner, TokenConflict, OpenUploads, Quota, Locked, RuleLocked, Exhausted, Unavailable, Damaged, NoSuchCall}
use Rattle.ebs_print.specs.Printed.{head, message, checksum_lines, block_lines, block_text, zeros, zero_digest, text_of, created_status}
use Rattle.ebs_shown.specs.Values.{base64_text}
use Rattle.ebs_print.specs.Refusals.{row_of}
use Rattle.ebs_print.specs.inner.Splits.{IsShort}
use Rattle.ebs_print.proofs.Lines.{is_plain, cut, same_length, plain_decimal, plain_base64}

-- the further lines of a head
data Lines : List ℕ → Type 0 where
  none : Lines []
  written : (digest : List ℕ) → Lines (checksum_lines digest)
  read : (size : ℕ) (digest : List ℕ) → is_plain (decimal size) ≡ true → Lines (block_lines size digest)

abbrev IsPlainStatus : ℕ → Type 0
IsPlainStatus status = is_plain (status_text status) ≡ true

-- a message whose lines are those
record Framed (text : List ℕ) : Type 0 where
  status : ℕ
  kind : List ℕ
  lines : List ℕ
  body : List ℕ
  is : text ≡ message status kind lines body
  small : length body < 2 ^ 64
  plain_status : IsPlainStatus status
  plain_kind : is_plain kind ≡ true
  lined : Lines lines

plain_200 : IsPlainStatus 200
unfolding digits
plain_200 = refl

plain_201 : IsPlainStatus 201
unfolding digits
plain_201 = refl

plain_202 : IsPlainStatus 202
unfolding digits
plain_202 = refl

plain_400 : IsPlainStatus 400
unfolding digits
plain_400 = refl

plain_402 : IsPlainStatus 402
unfolding digits
plain_402 = refl

plain_403 : IsPlainStatus 403
unfolding digits
plain_403 = refl

plain_404 : IsPlainStatus 404
unfolding digits
plain_404 = refl

plain_409 : IsPlainStatus 409
unfolding digits
plain_409 = refl

plain_500 : IsPlainStatus 500
unfolding digits
plain_500 = refl

plain_503 : IsPlainStatus 503
unfolding digits
plain_503 = refl

plain_507 : IsPlainStatus 507
unfolding digits
plain_507 = refl

plain_row : (refusal : Refusal) → IsPlainStatus (row_of refusal).status
plain_row (BadParameter name) = plain_400
plain_row BadSize = plain_400
plain_row BadIndex = plain_400
plain_row BadBlockToken = plain_400
plain_row BadPageToken = plain_400
plain_row (WrongState name) = plain_409
plain_row Unrelated = plain_400
plain_row (Checksum stated found) = plain_400
plain_row (NotFound kind) = plain_404
plain_row NotOwner = plain_403
plain_row (TokenConflict key) = plain_409
plain_row OpenUploads = plain_400
plain_row (Quota what number) = plain_402
plain_row (Locked until) = plain_409
plain_row RuleLocked = plain_409
plain_row (Exhausted spent) = plain_402
plain_row Unavailable = plain_503
plain_row (Damaged stored found) = plain_500
plain_row NoSuchCall = plain_404

body_small : (status : ℕ) (kind lines body : List ℕ) → length (message status kind lines body) < 2 ^ 64 → length body < 2 ^ 64
body_small status kind lines body short = omega (arith, short, length-append (head status kind (length body) lines) body)

framed_by : (status : ℕ) (kind lines body : List ℕ) → length (message status kind lines body) < 2 ^ 64 → IsPlainStatus status → is_plain kind ≡ true → (length body < 2 ^ 64 → Lines lines) → Framed (message status kind lines body)
framed_by status kind lines body short plain_status plain_kind lined =
    let small = body_small status kind lines body short in
    record { status = status; kind = kind; lines = lines; body = body; is = refl; small = small; plain_status = plain_status; plain_kind = plain_kind; lined = lined small }

block_framed : (digest bytes : List ℕ) → length (block_text digest bytes) < 2 ^ 64 → Framed (block_text digest bytes)
block_framed digest bytes short = framed_by 200 _ (block_lines (length bytes) digest) bytes short plain_200 refl (λ small. read (length bytes) digest (plain_decimal (length bytes) small))

framed : (a : Answer) → IsShort a → Framed (text_of a)
framed (Started description owner parent key start tags size) short = framed_by 201 _ [] _ short plain_201 refl (λ small. none)
framed (BlockWritten digest) short = framed_by 201 _ (checksum_lines digest) _ short plain_201 refl (λ small. written digest)
framed Completed short = framed_by 202 _ [] _ short plain_202 refl (λ small. none)
framed (BlockList entries expiry next size) short = framed_by 200 _ [] _ short plain_200 refl (λ small. none)
framed (ChangedList entries expiry next size) short = framed_by 200 _ [] _ short plain_200 refl (λ small. none)
framed (BlockRead digest bytes) short = block_framed digest bytes short
framed ZeroBlockRead short = block_framed zero_digest zeros short
framed (SnapshotShown true row) short = framed_by 201 _ [] _ short plain_201 refl (λ small. none)
framed (SnapshotShown false row) short = framed_by 200 _ [] _ short plain_200 refl (λ small. none)
framed (SnapshotList next rows) short = framed_by 200 _ [] _ short plain_200 refl (λ small. none)
framed Done short = framed_by 200 _ [] _ short plain_200 refl (λ small. none)
framed (LockShown name until) short = framed_by 200 _ [] _ short plain_200 refl (λ small. none)
framed (TierShown until name) short = framed_by 200 _ [] _ short plain_200 refl (λ small. none)
framed (VolumeShown true size origin tags key) short = framed_by 201 _ [] _ short plain_201 refl (λ small. none)
framed (VolumeShown false size origin tags key) short = framed_by 200 _ [] _ short plain_200 refl (λ small. none)
framed (RuleShown true row) short = framed_by 201 _ [] _ short plain_201 refl (λ small. none)
framed (RuleShown false row) short = framed_by 200 _ [] _ short plain_200 refl (λ small. none)
framed (RuleList rows) short = framed_by 200 _ [] _ short plain_200 refl (λ small. none)
framed (PolicyShown true key last) short = framed_by 201 _ [] _ short plain_201 refl (λ small. none)
framed (PolicyShown false key last) short = framed_by 200 _ [] _ short plain_200 refl (λ small. none)
framed (PolicyRan deleted made) short = framed_by 200 _ [] _ short plain_200 refl (λ small. none)
framed (Refused refusal) short = framed_by (row_of refusal).status _ [] _ short (plain_row refusal) refl (λ small. none)
framed Memory short = framed_by 507 _ [] _ short plain_507 refl (λ small. none)

-- the head as its lines, one after another, with what follows
abbrev laid : List ℕ → List ℕ → List ℕ → List ℕ → List ℕ → List ℕ
laid status kind size lines rest =
    codes "HTTP/1.1 " ++ (status ++ (codes "\r\nContent-Type: " ++ (kind ++ (codes "\r\nContent-Length: "
    ++ (size ++ (codes "\r\n" ++ (lines ++ (codes "\r\n" ++ rest))))))))

flat : (status : ℕ) (kind lines body rest : List ℕ) → message status kind lines body ++ rest ≡ laid (status_text status) kind (decimal (length body)) lines (body ++ rest)
unfolding head
flat status kind lines body rest =
    let size : List ℕ = decimal (length body) in
    let after : List ℕ = body ++ rest in
    let t3 : List ℕ = codes "\r\n" ++ (lines ++ codes "\r\n") in
    let t2 : List ℕ = codes "\r\nContent-Length: " ++ (size ++ t3) in
    let t1 : List ℕ = codes "\r\nContent-Type: " ++ (kind ++ t2) in
    append_assoc (codes "HTTP/1.1 " ++ (status_text status ++ t1)) body rest
    ∙ ap (λ (l : List ℕ). codes "HTTP/1.1 " ++ l) (append_assoc (status_text status) t1 after
    ∙ ap (λ (l : List ℕ). status_text status ++ (codes "\r\nContent-Type: " ++ l)) (append_assoc kind t2 after
    ∙ ap (λ (l : List ℕ). kind ++ (codes "\r\nContent-Length: " ++ l)) (append_assoc size t3 after
    ∙ ap (λ (l : List ℕ). size ++ (codes "\r\n" ++ l)) (append_assoc lines (codes "\r\n") after))))

checksum_flat : (digest z : List ℕ) → checksum_lines digest ++ z ≡ codes "x-amz-Checksum: " ++ (base64_text digest ++ 13 ∷ (codes "\nx-amz-Checksum-Algorithm: SHA256\r\n" ++ z))
unfolding checksum_lines
checksum_flat digest z = ap (λ (l : List ℕ). codes "x-amz-Checksum: " ++ l) (append_assoc (base64_text digest) (codes "\r\nx-amz-Checksum-Algorithm: SHA256\r\n") z)

checksum_cut : (digest other y z : List ℕ) → checksum_lines digest ++ y ≡ checksum_lines other ++ z → (checksum_lines digest ≡ checksum_lines other) × (y ≡ z)
unfolding checksum_lines
checksum_cut digest other y z e =
    let same = sym (checksum_flat digest y) ∙ e ∙ checksum_flat other z in
    let tails = cut (base64_text digest) (base64_text other) (codes "\nx-amz-Checksum-Algorithm: SHA256\r\n" ++ y) (codes "\nx-amz-Checksum-Algorithm: SHA256\r\n" ++ z) (plain_base64 digest) (plain_base64 other) (ap (drop 16) same) in
    (ap (λ (l : List ℕ). codes "x-amz-Checksum: " ++ (l ++ codes "\r\nx-amz-Checksum-Algorithm: SHA256\r\n")) tails.0, ap (drop 35) tails.1)

block_flat : (size : ℕ) (digest z : List ℕ) → block_lines size digest ++ z ≡ codes "x-amz-Data-Length: " ++ (decimal size ++ 13 ∷ 10 ∷ (checksum_lines digest ++ z))
unfolding block_lines
block_flat size digest z = ap (λ (l : List ℕ). codes "x-amz-Data-Length: " ++ l) (append_assoc (decimal size) (codes "\r\n" ++ checksum_lines digest) z)

block_cut : (size count : ℕ) (digest other y z : List ℕ) → is_plain (decimal size) ≡ true → is_plain (decimal count) ≡ true → block_lines size digest ++ y ≡ block_lines count other ++ z → (block_lines size digest ≡ block_lines count other) × (y ≡ z)
unfolding block_lines
block_cut size count digest other y z p q e =
    let same = sym (block_flat size digest y) ∙ e ∙ block_flat count other z in
    let tails = cut (decimal size) (decimal count) (10 ∷ (checksum_lines digest ++ y)) (10 ∷ (checksum_lines other ++ z)) p q (ap (drop 19) same) in
    let checksums = checksum_cut digest other y z (ap (drop 1) tails.1) in
    (ap₂ (λ (n l : List ℕ). codes "x-amz-Data-Length: " ++ (n ++ (codes "\r\n" ++ l))) tails.0 checksums.0, checksums.1)

-- the byte at a place
abbrev byte : ℕ → List ℕ → ℕ
byte k bytes = get_or bytes k 0

-- the further lines end at the empty line
lines_cut : (l m rest more : List ℕ) → Lines l → Lines m → l ++ 13 ∷ 10 ∷ rest ≡ m ++ 13 ∷ 10 ∷ more → (l ≡ m) × (rest ≡ more)
unfolding checksum_lines block_lines
lines_cut _ _ rest more none none e = (refl, ap (drop 2) e)
lines_cut _ _ rest more none (written digest) e = let no : 13 ≡ 120 = ap (byte 0) e in absurd (omega (arith, no))
lines_cut _ _ rest more none (read size digest plain) e = let no : 13 ≡ 120 = ap (byte 0) e in absurd (omega (arith, no))
lines_cut _ _ rest more (written digest) none e = let no : 120 ≡ 13 = ap (byte 0) e in absurd (omega (arith, no))
lines_cut _ _ rest more (written digest) (written other) e = let same = checksum_cut digest other (13 ∷ 10 ∷ rest) (13 ∷ 10 ∷ more) e in (same.0, ap (drop 2) same.1)
lines_cut _ _ rest more (written digest) (read size other plain) e = let no : 67 ≡ 68 = ap (byte 6) e in absurd (omega (arith, no))
lines_cut _ _ rest more (read size digest plain) none e = let no : 120 ≡ 13 = ap (byte 0) e in absurd (omega (arith, no))
lines_cut _ _ rest more (read size digest plain) (written other) e = let no : 68 ≡ 67 = ap (byte 6) e in absurd (omega (arith, no))
lines_cut _ _ rest more (read size digest p) (read count other q) e = let same = block_cut size count digest other (13 ∷ 10 ∷ rest) (13 ∷ 10 ∷ more) p q e in (same.0, ap (drop 2) same.1)

same_message : (s t : ℕ) (k j l m b c : List ℕ) → status_text s ≡ status_text t → k ≡ j → l ≡ m → b ≡ c → message s k l b ≡ message t j m c
unfolding head
same_message s t k j l m b c status kind lines body = λ i.
    (codes "HTTP/1.1 " ++ (status i ++ (codes "\r\nContent-Type: " ++ (kind i ++ (codes "\r\nContent-Length: "
    ++ (decimal (length (body i)) ++ (codes "\r\n" ++ (lines i ++ codes "\r\n")))))))) ++ body i

pub answers_split : (a b : Answer) (rest more : List ℕ) → IsShort a → IsShort b → text_of a ++ rest ≡ text_of b ++ more → (text_of a ≡ text_of b) × (rest ≡ more)
answers_split a b rest more short brief e =
    let f = framed a short in
    let g = framed b brief in
    let same = sym (flat f.status f.kind f.lines f.body rest) ∙ ap (λ (t : List ℕ). t ++ rest) (sym f.is) ∙ e ∙ ap (λ (t : List ℕ). t ++ more) g.is ∙ flat g.status g.kind g.lines g.body more in
    let statuses = cut (status_text f.status) (status_text g.status) _ _ f.plain_status g.plain_status (ap (drop 9) same) in
    let kinds = cut f.kind g.kind _ _ f.plain_kind g.plain_kind (ap (drop 15) statuses.1) in
    let sizes = cut (decimal (length f.body)) (decimal (length g.body)) _ _ (plain_decimal _ f.small) (plain_decimal _ g.small) (ap (drop 17) kinds.1) in
    let lines = lines_cut f.lines g.lines (f.body ++ rest) (g.body ++ more) f.lined g.lined (ap (drop 1) sizes.1) in
    let bodies = same_length f.body g.body rest more (decimal_injective _ _ f.small g.small sizes.0) lines.1 in
    (f.is ∙ same_message f.status g.status f.kind g.kind f.lines g.lines f.body g.body statuses.0 kinds.0 lines.0 bodies.0 ∙ sym g.is, bodies.1)

some_message : (status : ℕ) (kind lines body : List ℕ) → message status kind lines body ≡ [] → ⊥
unfolding head
some_message status kind lines body e = cc

pub some_text : (a : Answer) → text_of a ≡ [] → ⊥
some_text (Started description owner parent key start tags size) = some_message 201 _ _ _
some_text (BlockWritten digest) = some_message 201 _ _ _
some_text Completed = some_message 202 _ _ _
some_text (BlockList entries expiry next size) = some_message 200 _ _ _
some_text (ChangedList entries expiry next size) = some_message 200 _ _ _
some_text (BlockRead digest bytes) = some_message 200 _ _ _
some_text ZeroBlockRead = some_message 200 _ _ _
some_text (SnapshotShown created row) = some_message (created_status created) _ _ _
some_text (SnapshotList next rows) = some_message 200 _ _ _
some_text Done = some_message 200 _ _ _
some_text (LockShown name until) = some_message 200 _ _ _
some_text (TierShown until name) = some_message 200 _ _ _
some_text (VolumeShown created size origin tags key) = some_message (created_status created) _ _ _
some_text (RuleShown created row) = some_message (created_status created) _ _ _
some_text (RuleList rows) = some_message 200 _ _ _
some_text (PolicyShown created key last) = some_message (created_status created) _ _ _
some_text (PolicyRan deleted made) = some_message 200 _ _ _
some_text (Refused refusal) = some_message (row_of refusal).status _ _ _
some_text Memory = some_message 507 _ _ _

front_empty : (xs ys : List ℕ) → xs ++ ys ≡ [] → xs ≡ []
front_empty [] ys e = refl
front_empty (x ∷ xs) ys e = cc

front_short : (xs ys : List ℕ) → length (xs ++ ys) < 2 ^ 64 → length xs < 2 ^ 64
front_short xs ys short = omega (arith, short, length-append xs ys)

rest_short : (xs ys : List ℕ) → length (xs ++ ys) < 2 ^ 64 → length ys < 2 ^ 64
rest_short xs ys short = omega (arith, short, length-append xs ys)

pub lists_split : (answers others : List Answer) → length (flat_map text_of answers) < 2 ^ 64 → flat_map text_of answers ≡ flat_map text_of others → map text_of answers ≡ map text_of others
lists_split [] [] short e = refl
lists_split [] (b ∷ others) short e = absurd (some_text b (front_empty (text_of b) (flat_map text_of others) (sym e)))
lists_split (a ∷ answers) [] short e = absurd (some_text a (front_empty (text_of a) (flat_map text_of answers) e))
lists_split (a ∷ answers) (b ∷ others) short e =
    let brief : length (text_of b ++ flat_map text_of others) < 2 ^ 64 = subst (λ (l : List ℕ). length l < 2 ^ 64) e short in
    let first = answers_split a b (flat_map text_of answers) (flat_map text_of others) (front_short (text_of a) _ short) (front_short (text_of b) _ brief) e in
    ap₂ (λ (t : List ℕ) (ts : List (List ℕ)). t ∷ ts) first.0 (lists_split answers others (rest_short (text_of a) _ short) first.1)
