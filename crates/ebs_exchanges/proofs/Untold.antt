-- A change that was recorded and that nobody was told of: what it leaves.
use Rattle.std.proofs.Common.{◌≡◌, ◌⊎◌, inl, inr, ℕ, ◌==◌, arith, Bool, true, false, List, length, codes, Option, None, Some, refl, sym, ap, ◌∙◌, subst}
use Rattle.std.proofs.lemmas.Bool.Decides.{nat_tests}
use Rattle.std.specs.FinMap as fin
use Rattle.ebs_model.specs.declared.keys.SnapKey.{SnapKey}
use Rattle.ebs_model.specs.declared.keys.VolKey.{VolKey}
use Rattle.ebs_model.specs.declared.keys.Moment.{Moment}
use Rattle.ebs_model.specs.declared.keys.TokenKey.{TokenKey}
use Rattle.ebs_model.specs.declared.rows.TokenRow.{TokenRow}
use Rattle.ebs_model.specs.declared.rows.VolRow.{VolRow}
use Rattle.ebs_model.specs.declared.request.Call.{Call}
use Rattle.ebs_model.specs.declared.request.Request.{Request}
use Rattle.ebs_model.specs.declared.request.Request.TheVariants.{StartSnapshot, PutSnapshotBlock, CompleteSnapshot, WriteVolumeBlock}
use Rattle.ebs_model.specs.declared.answer.Answer.{Answer}
use Rattle.ebs_model.specs.declared.answer.FirstKey.{FirstKey}
use Rattle.ebs_model.specs.declared.answer.FirstKey.TheVariants.{Snap, Vol}
use Rattle.ebs_model.specs.Quotas.{block_size}
use Rattle.ebs_model.specs.Arrays.{WholeArray}
use Rattle.ebs_model.specs.Limits.{bad_member, bad_put, has_ten_digits, unless}
use Rattle.ebs_model.specs.inner.Orders.{tokens_total, exact_tokens}
use Rattle.ebs_model.specs.Calls.Start.{with_token}
use Rattle.ebs_model.specs.Machine.{Machine, advance, moment_of}
use Rattle.ebs_model.specs.Step.{step}
use Rattle.ebs_laws.specs.Puts.{IsAccepted}
use Rattle.ebs_laws.specs.UploadLaws.{CallKeepsNumbers}
use Rattle.ebs_laws.specs.TimeLaws.{TimePassesInParts}
use Rattle.ebs_laws.specs.BlockLaws.{OtherCallKeepsBytes}
use Rattle.ebs_laws.specs.VolumeLaws.{VolumesStayGiven}
use Rattle.ebs_laws.specs.DiskLaws.{OtherCallKeepsDisk, OtherCallKeepsBlank}
use Rattle.ebs_laws.proofs.Cases.{Outcome, Accepted, step-cases}
use Rattle.ebs_laws.proofs.Maps.{by_key, get-other}
use Rattle.ebs_laws.proofs.Others.{others, IsCreated}
use Rattle.ebs_laws.proofs.Whole.{creation}
use Rattle.ebs_exchanges.specs.Stops.{IsDoneAs, IsUntold}
use Rattle.ebs_exchanges.specs.ReadBack.{put_call, token_of}
use Rattle.ebs_exchanges.proofs.Machines.{IsGiven, Has, AsksAt, asked_put, given_aged, has_aged, step_is}

-- ---- what was done, beside what was asked for

-- it is within its limits, uses the token that was asked for, and puts where it was asked to
record IsAlike (done asked : Request) : Type 0 where
  good : bad_member done ≡ None
  uses : token_of done ≡ token_of asked
  puts : (key : FirstKey) (index : ℕ) → AsksAt key index done → AsksAt key index asked

good_rest : (test : Bool) (name : List ℕ) (next other : Option (List ℕ)) → unless test name next ≡ None → other ≡ None → unless test name other ≡ None
good_rest true name next other good rest = rest
good_rest false name next other good rest = absurd cc

whole_block : (index size : ℕ) → bad_put index size ≡ None → (found : List ℕ) → length found ≡ block_size → bad_put index (length found) ≡ None
whole_block index size good found whole =
    good_rest (has_ten_digits index) (codes "blockIndex") (unless (size == block_size) (codes "body") None) (unless (length found == block_size) (codes "body") None) good
    (ap (λ (n : ℕ). unless (n == block_size) (codes "body") None) whole)

equal : (n m : ℕ) → (n == m) ≡ true → n ≡ m
equal n m is = grind (arith, is, nat_tests)

test_passes : (test : Bool) (name : List ℕ) (next : Option (List ℕ)) → unless test name next ≡ None → (test ≡ true) × (next ≡ None)
test_passes true name next good = (refl, good)
test_passes false name next good = absurd cc

whole_size : (index size : ℕ) → bad_put index size ≡ None → size ≡ block_size
whole_size index size good =
    let rest = (test_passes (has_ten_digits index) (codes "blockIndex") (unless (size == block_size) (codes "body") None) good).1 in
    equal size block_size (test_passes (size == block_size) (codes "body") None rest).0

-- a call within its limits may be done as it was asked
pub as_asked : (request : Request) → bad_member request ≡ None → IsDoneAs request request
as_asked (PutSnapshotBlock k i digest bytes) good = (bytes, whole_size i (length bytes) good, refl)
as_asked (WriteVolumeBlock k i digest bytes) good = (bytes, whole_size i (length bytes) good, refl)
as_asked request good = refl

put_there : (key : FirstKey) (index : ℕ) (k : SnapKey) (i : ℕ) (digest found bytes : List ℕ) → AsksAt key index (PutSnapshotBlock k i digest found) → AsksAt key index (PutSnapshotBlock k i digest bytes)
put_there (Snap key) index k i digest found bytes asks = asks
put_there (Vol key) index k i digest found bytes asks = asks

written_there : (key : FirstKey) (index : ℕ) (k : VolKey) (i : ℕ) (digest found bytes : List ℕ) → AsksAt key index (WriteVolumeBlock k i digest found) → AsksAt key index (WriteVolumeBlock k i digest bytes)
written_there (Snap key) index k i digest found bytes asks = asks
written_there (Vol key) index k i digest found bytes asks = asks

alike : (done asked : Request) → IsDoneAs done asked → bad_member asked ≡ None → IsAlike done asked
alike done (PutSnapshotBlock k i digest bytes) (found, whole, is) good = record {
  good = ap bad_member is ∙ whole_block i (length bytes) good found whole;
  uses = ap token_of is;
  puts = λ key index asks. put_there key index k i digest found bytes (subst (AsksAt key index) is asks);
}
alike done (WriteVolumeBlock k i digest bytes) (found, whole, is) good = record {
  good = ap bad_member is ∙ whole_block i (length bytes) good found whole;
  uses = ap token_of is;
  puts = λ key index asks. written_there key index k i digest found bytes (subst (AsksAt key index) is asks);
}
alike done asked is good = record { good = ap bad_member is ∙ good; uses = ap token_of is; puts = λ key index asks. subst (AsksAt key index) is asks }

-- ---- the client tokens that a call uses

module _ (key : TokenKey) (row : TokenRow) (m : Machine) (account : ℕ) where
  abbrev Comes : Request → Outcome → Type 0
  Comes request d = fin.get d.0.tokens key ≡ Some row → (fin.get m.tokens key ≡ Some row) ⊎ ((key.account ≡ account) × (token_of request ≡ Some key.text))

  comes_of : (owner number : ℕ) (first : Request) (token : Option (List ℕ)) → fin.get (with_token m.tokens m.clock owner number first token) key ≡ Some row → (fin.get m.tokens key ≡ Some row) ⊎ ((key.account ≡ owner) × (token ≡ Some key.text))
  comes_of owner number first None is = inl is
  comes_of owner number first (Some text) is =
      let at : TokenKey = record { account = owner; text = text } in
      by_key tokens_total exact_tokens ((fin.get m.tokens key ≡ Some row) ⊎ ((key.account ≡ owner) × (Some text ≡ Some key.text))) key at
      (λ same. inr (ap (λ (k : TokenKey). k.account) same, ap (λ (k : TokenKey). Some k.text) (sym same)))
      (λ other. inl (sym (get-other tokens_total exact_tokens m.tokens at (record { at = m.clock; first = first; number = number }) key other) ∙ is))

  created_comes : {request : Request} (v : VolKey) (new : VolRow) (array : WholeArray) (token : Option (List ℕ)) (answer : Answer) → IsCreated m account v new array token request answer
      → fin.get (with_token m.tokens m.clock v.account v.number (creation new token) token) key ≡ Some row → (fin.get m.tokens key ≡ Some row) ⊎ ((key.account ≡ account) × (token_of request ≡ Some key.text))
  created_comes {request = request} v new array token answer is there = told (comes_of v.account v.number (creation new token) token there)
    where
      told : (fin.get m.tokens key ≡ Some row) ⊎ ((key.account ≡ v.account) × (token ≡ Some key.text)) → (fin.get m.tokens key ≡ Some row) ⊎ ((key.account ≡ account) × (token_of request ≡ Some key.text))
      told (inl was) = inl was
      told (inr (own, same)) = inr (own ∙ ap (λ (k : VolKey). k.account) is.key_is, ap token_of is.request_is ∙ same)

  comes_accepted : (request : Request) → Accepted (Comes request) m account request
  comes_accepted (StartSnapshot size parent text tags token timeout) = (λ from tests is. comes_of account _ (StartSnapshot size parent text tags token timeout) token is, λ used tests is. inl is)
  comes_accepted (PutSnapshotBlock k index digest bytes) = λ s is passes tests there. inl there
  comes_accepted (CompleteSnapshot k count checksum) = λ s is passes tests there. inl there
  comes_accepted request = others (Comes request) m account request (λ answer says there. inl there) (λ k s new answer is same says there. inl there) (λ k s answer is same says there. inl there) (λ v new array token answer is says there. created_comes v new array token answer is there)
      (λ v new answer out is says there. inl there) (λ v old text tags is made there. inl there) (λ v old i digest bytes is asked there. inl there) (λ command change answer is says there. inl there) (λ snaps own policies answer is says there. inl there)

tokens_by : (n : Machine) (account : ℕ) (reading : Moment) (request : Request) (key : TokenKey) (row : TokenRow) → fin.get (step n account reading request).0.tokens key ≡ Some row → (fin.get n.tokens key ≡ Some row) ⊎ ((key.account ≡ account) × (token_of request ≡ Some key.text))
tokens_by n account reading request key row =
    let at = advance n (moment_of n reading) in
    step-cases (Comes key row at account request) n account reading request (comes_accepted key row at account request) (λ refusal is. inl is)

-- ---- what the change leaves

module _ (parts : TimePassesInParts) (keeps_numbers : CallKeepsNumbers) (keeps_volumes : VolumesStayGiven) (keeps : OtherCallKeepsBytes) (disk_keeps : OtherCallKeepsDisk) (blank_keeps : OtherCallKeepsBlank) where
  pub stays_has : (key : FirstKey) (m : Machine) (account : ℕ) (at : Moment) (request : Request) (index : ℕ) (found : Option (List ℕ))
      → let s = step m account at request in Has m key index found → (AsksAt key index request → IsAccepted s.1 → ⊥) → Has s.0 key index found
  stays_has (Snap key) m account at request index None has none = absurd has
  stays_has (Snap key) m account at request index (Some bytes) has none = keeps m account at request key index bytes has none
  stays_has (Vol key) m account at request index None has none = blank_keeps m account at request key index has none
  stays_has (Vol key) m account at request index (Some bytes) has none = disk_keeps m account at request key index bytes has none

  module _ (call : Call) (second : ℕ) (old new : Machine) (l : IsUntold call second old new) where
    abbrev at : Moment
    at = record { second = second }

    abbrev then : Machine
    then = advance old at

    like : IsAlike l.done call.request
    like = alike l.done call.request l.is_done l.within

    pub stepped : step then call.account at l.done ≡ (new, l.answer)
    stepped = step_is parts old at call.account l.done new l.answer like.good l.acts

    pub lost_given : IsGiven old → IsGiven new
    lost_given given =
        let aged = given_aged old at given in
        subst (λ (d : Machine × Answer). IsGiven d.0) stepped (keeps_numbers then call.account at l.done aged.0, keeps_volumes then call.account at l.done aged.1)

    pub lost_tokens : (key : TokenKey) (row : TokenRow) → fin.get new.tokens key ≡ Some row → (fin.get old.tokens key ≡ Some row) ⊎ ((key.account ≡ call.account) × (token_of call.request ≡ Some key.text))
    lost_tokens key row there = told (tokens_by then call.account at l.done key row (subst (λ (d : Machine × Answer). fin.get d.0.tokens key ≡ Some row) (sym stepped) there))
      where
        told : (fin.get old.tokens key ≡ Some row) ⊎ ((key.account ≡ call.account) × (token_of l.done ≡ Some key.text))
            → (fin.get old.tokens key ≡ Some row) ⊎ ((key.account ≡ call.account) × (token_of call.request ≡ Some key.text))
        told (inl was) = inl was
        told (inr (own, same)) = inr (own, sym like.uses ∙ same)

    pub lost_keeps : (key : FirstKey) (index : ℕ) (found : Option (List ℕ)) → ((digest bytes : List ℕ) → call.request ≡ put_call key index digest bytes → ⊥) → Has old key index found → Has new key index found
    lost_keeps key index found none has =
        subst (λ (d : Machine × Answer). Has d.0 key index found) stepped
        (stays_has key then call.account at l.done index found (has_aged key index found old at l.on_time has)
        (λ asks accepted. let asked = asked_put key index call.request (like.puts key index asks) in none asked.digest asked.bytes asked.is))
