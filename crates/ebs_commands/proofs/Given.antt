-- The calls of a sample, one after another.
use Rattle.std.proofs.Common.{if◌then◌else◌, ◌≡◌, ◌∙◌, ◌+◌, ◌≤◌, ◌<◌, ◌++◌, ℕ, suc, length, take, drop, get_or, subst, Bool, true, false, cond, List, [], ◌∷◌, Result, Ok, Err, map, IfOk, IfErr, ◌⊎◌, inl, inr, refl, sym, ap, ap₂, arith, append_assoc}
use Rattle.std.proofs.Math.Seq.{split_at, take-suc}
use Rattle.std.proofs.lemmas.List.{map-append}
use Rattle.ebs_model.specs.Quotas.{Rose}
use Rattle.ebs_world.specs.View.{View}
use Rattle.ebs_model.specs.declared.keys.Moment.{Moment}
use Rattle.ebs_model.specs.declared.request.Request.{Request}
use Rattle.ebs_model.specs.declared.answer.Answer.{Answer}
use Rattle.ebs_model.specs.declared.answer.Answer.TheVariants as said
use Rattle.ebs_recovery.specs.inner.Fits.{Seen}
use Rattle.ebs_model.specs.declared.answer.Refusal.TheVariants.{Unavailable}
use Rattle.ebs_commands.specs.Ticks.{goes_on, Asked}
use Rattle.ebs_commands.specs.inner.Chains.{Applies, Chain}
use Rattle.ebs_commands.specs.Samples.{Answers, AreFrontOf, GoOn, accepted_in, asked_in, asked_of, is_accepted, request_of}
use Rattle.ebs_commands.specs.inner.Samples.{Gives, GivesAll}
use Rattle.ebs_commands.specs.declared.ending.CommandEnd.{CommandEnd}
use Rattle.ebs_commands.specs.declared.ending.CommandEnd.TheVariants.{Done, DiskFailed, AlreadyMade, OutputFailed, Memory, Damaged, Exhausted}
use Rattle.ebs_commands.specs.declared.rounds.SampleCall.{SampleCall}
use Rattle.ebs_commands.proofs.SoFar.{chain_more}

-- a chain lets no fault be forgotten
pub chain_count : {D : Type 0} (view : D → View) (sound : Type 0) (d : D) (s : Seen) (xs : Answers) (e : D) (t : Seen) → Chain view sound d s xs e t → (view d).faults ≤ (view e).faults
chain_count view sound d s [] e t chain = rw chain.0 (omega arith)
chain_count view sound d s (x ∷ xs) e t (mid, between, first, rest) = let more = chain_count view sound mid between xs e t rest in omega (arith, first.ran.ran.count, more)

pub rose_since : (a b c : ℕ) → a ≤ b → Rose b c → Rose a c
rose_since a b c later rose = omega (arith, later, rose)

ok_no : {P : Type 0} (n : ℕ) (end : CommandEnd) → Ok n ≡ Err end → P
ok_no n end is = cc

no_disk : {P : Type 0} → (let starved : Result ℕ CommandEnd = Err Memory in starved ≡ Err DiskFailed) → P
no_disk is = cc

go_more : (xs : Answers) (x : Asked × Answer) → GoOn xs → goes_on x.1 ≡ true → GoOn (xs ++ x ∷ [])
go_more [] x on goes = (goes, tt)
go_more (y ∷ xs) x on goes = (on.0, go_more xs x on.1 goes)

accepted_more : (xs : Answers) (x : Asked × Answer) → accepted_in (xs ++ x ∷ []) ≡ accepted_in xs + (if is_accepted x.1 then 1 else 0)
accepted_more [] x = omega arith
accepted_more (y ∷ xs) x =
    let more = accepted_more xs x in
    let left : accepted_in ((y ∷ xs) ++ x ∷ []) ≡ (if is_accepted y.1 then 1 else 0) + accepted_in (xs ++ x ∷ []) = refl in
    let right : accepted_in (y ∷ xs) ≡ (if is_accepted y.1 then 1 else 0) + accepted_in xs = refl in
    omega (arith, left, right, more)

asked_more : (calls : List SampleCall) (c : SampleCall) (xs : Answers) (answer : Answer) → map asked_of calls ≡ asked_in xs → map asked_of (calls ++ c ∷ []) ≡ asked_in (xs ++ (asked_of c, answer) ∷ [])
asked_more calls c xs answer same = map-append asked_of calls (c ∷ []) ∙ (ap (λ (xs : List Asked). xs ++ asked_of c ∷ []) same ∙ sym (map-append (λ (x : Asked × Answer). x.0) xs ((asked_of c, answer) ∷ [])))

counted : (b : Bool) → ◌≡◌ {A = ℕ} (cond b 1 0) (if b then 1 else 0)
counted true = refl
counted false = refl

pub at_most_one : (b : Bool) (k : ℕ) → k ≡ cond b 1 0 → k ≤ 1
at_most_one true k is = rw is (omega arith)
at_most_one false k is = rw is (omega arith)

-- one call more was given
one_more : {D : Type 0} (view : D → View) (sound : Type 0) (front : List SampleCall) (c : SampleCall) (n k : ℕ) (accepted : Bool) (d : D) (s : Seen) (m : D) (b : Seen) (e : D) (t : Seen)
    → k ≡ cond accepted 1 0 → GivesAll view sound (Ok n) front d s m b → Gives view sound (Ok accepted) c m b e t → GivesAll view sound (Ok (n + k)) (front ++ c ∷ []) d s e t
one_more view sound front c n k accepted d s m b e t one given (answer, applies, is, goes) = record {
  answers = given.answers ++ (asked_of c, answer) ∷ [];
  chain = chain_more view sound d s given.answers m b (asked_of c) answer e t given.chain applies;
  ends = (
    (asked_more front c given.answers answer given.ends.0.0, go_more given.answers (asked_of c, answer) given.ends.0.1 goes),
    ap₂ (λ (a b : ℕ). a + b) given.ends.1 (one ∙ (counted accepted ∙ ap (λ (yes : Bool). if yes then 1 else 0) is)) ∙ sym (accepted_more given.answers (asked_of c, answer)),
  );
  rose = λ is. ok_no _ _ is;
}

front_more : (front rest : List SampleCall) (c : SampleCall) (xs : Answers) (answer : Answer) → map asked_of front ≡ asked_in xs → AreFrontOf (front ++ c ∷ rest) (xs ++ (asked_of c, answer) ∷ [])
front_more front rest c xs answer same = (
  map asked_of rest,
  map-append asked_of front (c ∷ rest) ∙ (ap (λ (xs : List Asked). xs ++ asked_of c ∷ map asked_of rest) same
      ∙ (sym (append_assoc (asked_in xs) (asked_of c ∷ []) (map asked_of rest)) ∙ ap (λ (xs : List Asked). xs ++ map asked_of rest) (sym (map-append (λ (x : Asked × Answer). x.0) xs ((asked_of c, answer) ∷ []))))),
)

front_is : (front rest : List SampleCall) (c : SampleCall) (xs : Answers) → map asked_of front ≡ asked_in xs → AreFrontOf (front ++ c ∷ rest) xs
front_is front rest c xs same = (asked_of c ∷ map asked_of rest, map-append asked_of front (c ∷ rest) ∙ ap (λ (xs : List Asked). xs ++ asked_of c ∷ map asked_of rest) same)

-- the calls end at this one
stopped : {D : Type 0} (view : D → View) (sound : Type 0) (front rest : List SampleCall) (c : SampleCall) (n : ℕ) (end : CommandEnd) (d : D) (s : Seen) (m : D) (b : Seen) (e : D) (t : Seen)
    → GivesAll view sound (Ok n) front d s m b → Gives view sound (Err end) c m b e t → GivesAll view sound (Err end) (front ++ c ∷ rest) d s e t
stopped view sound front rest c n DiskFailed d s m b e t given applies = record {
  answers = given.answers ++ (asked_of c, said.Refused Unavailable) ∷ [];
  chain = chain_more view sound d s given.answers m b (asked_of c) (said.Refused Unavailable) e t given.chain applies;
  ends = (front_more front rest c given.answers (said.Refused Unavailable) given.ends.0.0, (given.answers, asked_of c, refl, given.ends.0.1));
  rose = λ _. rose_since (view d).faults (view m).faults (view e).faults (chain_count view sound d s given.answers m b given.chain) (applies.cause refl);
}
stopped view sound front rest c n Memory d s m b e t given (inr applies) = record {
  answers = given.answers ++ (asked_of c, said.Memory) ∷ [];
  chain = chain_more view sound d s given.answers m b (asked_of c) said.Memory e t given.chain applies;
  ends = (front_more front rest c given.answers said.Memory given.ends.0.0, inr (given.answers, asked_of c, refl, given.ends.0.1));
  rose = λ is. no_disk is;
}
stopped view sound front rest c n Memory d s m b e t given (inl still) = record {
  answers = given.answers;
  chain = rw (still.0, still.1) given.chain;
  ends = (front_is front rest c given.answers given.ends.0.0, inl given.ends.0.1);
  rose = λ is. no_disk is;
}
stopped view sound front rest c n Done d s m b e t given gives = absurd gives
stopped view sound front rest c n OutputFailed d s m b e t given gives = absurd gives
stopped view sound front rest c n AlreadyMade d s m b e t given gives = absurd gives
stopped view sound front rest c n Damaged d s m b e t given gives = absurd gives
stopped view sound front rest c n Exhausted d s m b e t given gives = absurd gives

-- the call at a place
module _ {D : Type 0} (view : D → View) (sound : Type 0) (calls : List SampleCall) (i : ℕ) (other : SampleCall) (d : D) (s : Seen) (m : D) (b : Seen) (e : D) (t : Seen) (n : ℕ) (small : i < length calls) (given : GivesAll view sound (Ok n) (take i calls) d s m b) where
  pub more_at : (k : ℕ) (accepted : Bool) → k ≡ cond accepted 1 0 → Gives view sound (Ok accepted) (get_or calls i other) m b e t → GivesAll view sound (Ok (n + k)) (take (i + 1) calls) d s e t
  more_at k accepted one gives =
      let next : suc i ≡ i + 1 = omega arith in
      subst (λ (j : ℕ). GivesAll view sound (Ok (n + k)) (take j calls) d s e t) next
      (subst (λ (cs : List SampleCall). GivesAll view sound (Ok (n + k)) cs d s e t) (sym (take-suc calls i other small)) (one_more view sound (take i calls) (get_or calls i other) n k accepted d s m b e t one given gives))

  pub stopped_at : (end : CommandEnd) → Gives view sound (Err end) (get_or calls i other) m b e t → GivesAll view sound (Err end) calls d s e t
  stopped_at end gives =
      subst (λ (cs : List SampleCall). GivesAll view sound (Err end) cs d s e t) (sym (split_at calls i other small)) (stopped view sound (take i calls) (drop (suc i) calls) (get_or calls i other) n end d s m b e t given gives)

asked_is : (account : ℕ) (reading : Moment) (request : Request) (c : SampleCall) → account ≡ 1 → reading ≡ (asked_of c).reading → request ≡ request_of c → (let x : Asked = record { account = account; reading = reading; request = request } in x ≡ asked_of c)
asked_is account reading request c a b r = λ i. record { account = a i; reading = b i; request = r i }

-- one answer, and what was made of it
module _ {D : Type 0} (view : D → View) (sound : Type 0) (c : SampleCall) (answer : Answer) (d : D) (s : Seen) (e : D) (t : Seen) where
  gives_as : (result : Result Bool CommandEnd) → Applies view sound d s (asked_of c) answer e t → IfOk result (λ (accepted : Bool). (accepted ≡ is_accepted answer) × (goes_on answer ≡ true))
      → IfErr result (λ (end : CommandEnd). ((end ≡ Memory) × (answer ≡ said.Memory)) ⊎ ((end ≡ DiskFailed) × (answer ≡ said.Refused Unavailable))) → Gives view sound result c d s e t
  gives_as (Ok accepted) applies on stop = (answer, applies, on.0, on.1)
  gives_as (Err end) applies on (inl (is, why)) = rw is (inr (rw why at applies))
  gives_as (Err end) applies on (inr (is, why)) = rw is (rw why at applies)

  pub gives_by : (account : ℕ) (reading : Moment) (request : Request) (result : Result Bool CommandEnd) → account ≡ 1 → reading ≡ (asked_of c).reading → request ≡ request_of c
      → (let x : Asked = record { account = account; reading = reading; request = request } in Applies view sound d s x answer e t) → IfOk result (λ (accepted : Bool). (accepted ≡ is_accepted answer) × (goes_on answer ≡ true))
      → IfErr result (λ (end : CommandEnd). ((end ≡ Memory) × (answer ≡ said.Memory)) ⊎ ((end ≡ DiskFailed) × (answer ≡ said.Refused Unavailable))) → Gives view sound result c d s e t
  gives_by account reading request result a b r applies on stop = gives_as result (subst (λ (x : Asked). Applies view sound d s x answer e t) (asked_is account reading request c a b r) applies) on stop
