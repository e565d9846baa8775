-- What was put last is read back, in the life of a disk.
use Rattle.std.proofs.Common.{◌≡◌, ◌⊎◌, inl, inr, ℕ, ◌+◌, ◌<◌, true, if◌then◌else◌, is_some, suc, Option, None, List, [], ◌∷◌, ◌++◌, Some, Result, Ok, refl, sym, ap, ◌∙◌, subst, arith, codes}
use Rattle.std.specs.FinMap as fin
use Rattle.std.specs.FinMap.{get-empty}
use Rattle.std.specs.List.{Contains}
use Rattle.sha2.specs.Sha256.{sha256}
use Rattle.ebs_model.specs.declared.keys.SnapKey.{SnapKey}
use Rattle.ebs_model.specs.declared.keys.VolKey.{VolKey}
use Rattle.ebs_model.specs.declared.keys.Moment.{Moment}
use Rattle.ebs_model.specs.declared.keys.TokenKey.{TokenKey}
use Rattle.ebs_model.specs.declared.keys.AnyKey.TheVariants as any
use Rattle.ebs_model.specs.declared.rows.TokenRow.{TokenRow}
use Rattle.ebs_model.specs.declared.request.Call.{Call}
use Rattle.ebs_model.specs.declared.request.Request.{Request}
use Rattle.ebs_model.specs.declared.request.Request.TheVariants.{StartSnapshot, GetSnapshotBlock, DescribeSnapshot, CreateVolume, CreateSnapshot, ReadVolumeBlock, RunPolicy}
use Rattle.ebs_model.specs.declared.answer.Answer.{Answer}
use Rattle.ebs_model.specs.declared.answer.Answer.TheVariants.{Started, BlockWritten, BlockRead, ZeroBlockRead, VolumeShown, SnapshotShown, PolicyRan, Refused, Memory}
use Rattle.ebs_model.specs.declared.answer.FirstKey.{FirstKey}
use Rattle.ebs_model.specs.declared.answer.FirstKey.TheVariants.{Snap, Vol}
use Rattle.ebs_model.specs.declared.answer.Refusal.{Refusal}
use Rattle.ebs_model.specs.declared.answer.Refusal.TheVariants.{Unavailable}
use Rattle.ebs_model.specs.Calls.Start.{first_key}
use Rattle.ebs_model.specs.Keys.{token_cmp}
use Rattle.ebs_model.specs.Time.{Snapshot}
use Rattle.ebs_model.specs.Machine.{Machine, advance, empty_machine}
use Rattle.ebs_model.specs.Step.{step}
use Rattle.ebs_laws.specs.Words.{started_id, created_id, use_of, IsUnused, next_number}
use Rattle.ebs_model.specs.Timed.{made_id}
use Rattle.ebs_laws.specs.PolicyLaws.{RunGivesNumbers}
use Rattle.ebs_laws.specs.RunBytes.{IsOf, CallKeepsVolume, RunHasBytes}
use Rattle.ebs_laws.specs.ShownLaws.{ShownIsTheRow}
use Rattle.ebs_laws.proofs.Begun.{numbered}
use Rattle.ebs_laws.proofs.RunBytes.{is-of-aged}
use Rattle.ebs_laws.specs.TokenLaws.{OnlyStartsUseTokens, RepeatTellsFirst}
use Rattle.ebs_laws.specs.TimeLaws.{TimePassesInParts}
use Rattle.ebs_laws.specs.Puts.{changes_by}
use Rattle.ebs_laws.specs.PutLaws.{ChangesAreCounted}
use Rattle.ebs_laws.specs.UploadLaws.{CallKeepsNumbers}
use Rattle.ebs_laws.specs.BlockLaws.{HasBytes, PutLeavesBytes, OtherCallKeepsBytes, ChildHasBytes, GetAnswersBytes}
use Rattle.ebs_laws.specs.VolumeLaws.{VolumesStayGiven, CreationTellsFirst}
use Rattle.ebs_laws.specs.DiskLaws.{HasVolumeBytes, IsBlank, WriteLeavesBytes, OtherCallKeepsDisk, ReadAnswersBytes, VolumeHasBytes, SnapshotHasBytes, OtherCallKeepsBlank, NewVolumeIsBlank, BlankReadsZeros}
use Rattle.ebs_print.specs.Printed.{text_of}
use Rattle.ebs_rest.specs.CallOf.{call_of}
use Rattle.ebs_exchanges.specs.Exchanges.{Exchange}
use Rattle.ebs_exchanges.specs.Stops.{Point, Does, no_call, starved, unavailable, changed, answered, IsUntold}
use Rattle.ebs_exchanges.specs.Lives.{Event, exchanged, commanded, restarted, lost, lost_command, aged, at_rest, Happens, Passes}
use Rattle.ebs_exchanges.specs.inner.Lives.{IsLater, same, moved}
use Rattle.ebs_exchanges.specs.inner.LifeLaws.{LifeReadsBack}
use Rattle.ebs_exchanges.specs.ReadBack.{Tells, Loses, Answers, Asks, call_by, put_call, token_of, Puts, Starts, Creates, CreatesEmpty, Snaps, RunMakes, ShowsOf, BeginsFrom, Gets, NoPut, IsFirst, LastPut, put, inherited, ran, IsUnwritten, ReadsLastPut, ReadsZeros}
use Rattle.ebs_exchanges.proofs.Machines.{IsGiven, Has, asked_put, given_aged, has_aged}
use Rattle.ebs_exchanges.proofs.Later.{StandsLater, later_on}
use Rattle.ebs_exchanges.proofs.Untold.{lost_given, lost_tokens, lost_keeps, stays_has, stepped}

-- the point between two parts of a life
record Between (es fs : List Event) (a c : Point) : Type 0 where
  middle : Point
  first : Passes a es middle
  second : Passes middle fs c

between : (es fs : List Event) (a c : Point) → Passes a (es ++ fs) c → Between es fs a c
between [] fs a c passes = record { middle = a; first = refl; second = passes }
between (e ∷ es) fs a c (next, happens, later) =
    let rest = between es fs next c later in
    record { middle = rest.middle; first = (next, happens, rest.first); second = rest.second }

-- ---- what the recorded machine has, the running one has

later_given : (m n : Machine) → IsLater m n → IsGiven m → IsGiven n
later_given m n (same is) given = subst IsGiven (sym is) given
later_given m n (moved at later is) given = subst IsGiven (sym is) (given_aged m at given)

later_has : (key : FirstKey) (index : ℕ) (found : Option (List ℕ)) (m n : Machine) → IsLater m n → Has m key index found → Has n key index found
later_has key index found m n (same is) has = subst (λ (m : Machine). Has m key index found) (sym is) has
later_has key index found m n (moved at later is) has = subst (λ (m : Machine). Has m key index found) (sym is) (has_aged key index found m at later has)

later_tokens : (k : TokenKey) (m n : Machine) → IsLater m n → fin.get n.tokens k ≡ fin.get m.tokens k
later_tokens k m n (same is) = ap (λ (m : Machine). fin.get m.tokens k) is
later_tokens k m n (moved at later is) = ap (λ (m : Machine). fin.get m.tokens k) is

-- ---- client tokens

-- no client token was used
abbrev HasNoTokens : Machine → Type 0
HasNoTokens m = (k : TokenKey) (row : TokenRow) → fin.get m.tokens k ≡ Some row → ⊥

none_used : (secret : List ℕ) → HasNoTokens (empty_machine secret)
none_used secret k row e = let no : ◌≡◌ {A = Option TokenRow} None (Some row) = sym (get-empty token_cmp k) ∙ e in cc

abbrev first_made : TokenKey → TokenRow → FirstKey
first_made k row = first_key k.account row

-- a client token was used by a call whose answer has the id that is kept with it, or by one that nobody was told of
data IsUsedIn (es : List Event) (k : TokenKey) (row : TokenRow) : Type 0 where
  by_answer : (e : Event) (call : Call) (answer : Answer) → Contains es e → Tells e call answer → made_id answer ≡ Some (first_made k row) → IsUsedIn es k row
  by_lost : (e : Event) (call : Call) → Contains es e → Loses e call → k.account ≡ call.account → token_of call.request ≡ Some k.text → IsUsedIn es k row

abbrev token_key : ℕ → List ℕ → TokenKey
token_key account text = record { account = account; text = text }

used_later : (e : Event) (es : List Event) (k : TokenKey) (row : TokenRow) → IsUsedIn es k row → IsUsedIn (e ∷ es) k row
used_later e es k row (by_answer f call answer (n, short, at) tells is) = by_answer f call answer (suc n, omega (arith, short), at) tells is
used_later e es k row (by_lost f call (n, short, at) loses own uses) = by_lost f call (suc n, omega (arith, short), at) loses own uses

-- neither a refusal nor want of memory is told by status 200
abbrev pub RefusedIsTold : Type 0
RefusedIsTold = (refusal : Refusal) (rest : List ℕ) → text_of (Refused refusal) ≡ codes "HTTP/1.1 200 OK" ++ rest → ⊥

abbrev pub MemoryIsTold : Type 0
MemoryIsTold = (rest : List ℕ) → text_of Memory ≡ codes "HTTP/1.1 200 OK" ++ rest → ⊥

abbrev read : Call → Result Call Refusal
read call = Ok call

same_call : (r : Result Call Refusal) (a b : Call) → r ≡ Ok a → r ≡ Ok b → a ≡ b
same_call r a b is other = let same : read a ≡ read b = sym is ∙ other in cc

-- ---- what came of an event: nothing that is recorded but what time left of it; a call that was made and answered so; or one that nobody was told of

data Came (e : Event) (p q : Point) : Type 0 where
  nothing : IsLater p.recorded q.recorded → Came e p q
  turned : (call : Call) (at : Moment) (answer : Answer) → Tells e call answer → step p.running call.account at call.request ≡ (q.running, answer) → q.recorded ≡ q.running → Came e p q
  untold : (call : Call) (second : ℕ) → IsUntold call second p.recorded q.recorded → Loses e call → Came e p q

abbrev recorded_of : Point → Machine
recorded_of p = p.recorded

came_of : (e : Event) (p q : Point) → Happens p e q → Came e p q
came_of (exchanged x) p q (no_call refusal makes told stays) = nothing (same (ap recorded_of stays))
came_of (exchanged x) p q (starved told stays) = nothing (same (ap recorded_of stays))
came_of (exchanged x) p q (unavailable call makes told stays) = nothing (same (ap recorded_of stays))
came_of (exchanged x) p q (changed call makes steps more one) = turned call (record { second = x.reading }) x.answer (makes, refl) steps one
came_of (exchanged x) p q (answered call makes steps none stays) = nothing (same stays)
came_of (commanded x) p q (inl (steps, inl (more, one))) = turned x.call (record { second = x.reading }) x.answer (refl, refl) steps one
came_of (commanded x) p q (inl (steps, inr (none, stays))) = nothing (same stays)
came_of (commanded x) p q (inr (stop, stays)) = nothing (same (ap recorded_of stays))
came_of restarted p q is = nothing (same (ap recorded_of is))
came_of (lost m second) p q ((call, makes, l), is) = untold call second l makes
came_of (lost_command call second) p q (l, is) = untold call second l refl
came_of (aged second) p q (early, is) = nothing (moved (record { second = second }) early (ap recorded_of is))

-- ---- a call whose answer is neither a refusal nor want of memory: the running machine's step

record IsStepped (p q : Point) (account : ℕ) (request : Request) (answer : Answer) : Type 0 where
  at : Moment
  steps : step p.running account at request ≡ (q.running, answer)
  recorded : (q.recorded ≡ q.running) ⊎ (q.running.changes ≡ p.running.changes)

step_of : (p q : Point) (at : Moment) (made call : Call) (told answer : Answer) → made ≡ call → told ≡ answer → step p.running made.account at made.request ≡ (q.running, told) → step p.running call.account at call.request ≡ (q.running, answer)
step_of p q at made call told answer one is steps =
    ap (λ (c : Call). step p.running c.account at c.request) (sym one) ∙ steps ∙ ap (λ (a : Answer). (q.running, a)) is

module _ (request : Request) (answer : Answer) (heard : answer ≡ Memory → ⊥) (accepted : (refusal : Refusal) → answer ≡ Refused refusal → ⊥) where
  stepped_on : (e : Event) (p q : Point) → Happens p e q → (a : Answers e request answer) → IsStepped p q a.0 request answer
  stepped_on (exchanged x) p q (no_call refusal makes told stays) (account, (asks, is)) = absurd (accepted refusal (sym is ∙ told))
  stepped_on (exchanged x) p q (starved told stays) (account, (asks, is)) = absurd (heard (sym is ∙ told))
  stepped_on (exchanged x) p q (unavailable call makes told stays) (account, (asks, is)) = absurd (accepted Unavailable (sym is ∙ told))
  stepped_on (exchanged x) p q (changed call makes steps more one) (account, (asks, is)) =
      record { at = record { second = x.reading }; steps = step_of p q _ call (call_by account request) x.answer answer (same_call (call_of x.message) call (call_by account request) makes asks) is steps; recorded = inl one }
  stepped_on (exchanged x) p q (answered call makes steps none stays) (account, (asks, is)) =
      record { at = record { second = x.reading }; steps = step_of p q _ call (call_by account request) x.answer answer (same_call (call_of x.message) call (call_by account request) makes asks) is steps; recorded = inr none }
  stepped_on (commanded x) p q (inl (steps, inl (more, one))) (account, (asks, is)) =
      record { at = record { second = x.reading }; steps = step_of p q _ x.call (call_by account request) x.answer answer asks is steps; recorded = inl one }
  stepped_on (commanded x) p q (inl (steps, inr (none, stays))) (account, (asks, is)) =
      record { at = record { second = x.reading }; steps = step_of p q _ x.call (call_by account request) x.answer answer asks is steps; recorded = inr none }
  stepped_on (commanded x) p q (inr (inl memory, stays)) (account, (asks, is)) = absurd (heard (sym is ∙ memory))
  stepped_on (commanded x) p q (inr (inr stop, stays)) (account, (asks, is)) = absurd (accepted Unavailable (sym is ∙ stop))
  stepped_on restarted p q is (account, none) = absurd none
  stepped_on (lost m second) p q is (account, none) = absurd none
  stepped_on (lost_command call second) p q is (account, none) = absurd none
  stepped_on (aged second) p q is (account, none) = absurd none

module _ (counted : ChangesAreCounted) where
  -- what its answer says to be a change is recorded
  is_recorded : (p q : Point) (account : ℕ) (request : Request) (answer : Answer) → IsStepped p q account request answer → changes_by p.running account request answer ≡ 1 → q.recorded ≡ q.running
  is_recorded p q account request answer s one = by s.recorded
    where
      more : q.running.changes ≡ p.running.changes + changes_by p.running account request answer
      more = subst (λ (d : Machine × Answer). d.0.changes ≡ p.running.changes + changes_by p.running account request d.1) s.steps (counted p.running account s.at request)

      by : (q.recorded ≡ q.running) ⊎ (q.running.changes ≡ p.running.changes) → q.recorded ≡ q.running
      by (inl is) = is
      by (inr none) = absurd (omega (arith, more, none, one))

  -- so what a step leaves then, the recorded machine has
  left_by : (P : Machine → Type 0) (p q : Point) (account : ℕ) (request : Request) (answer : Answer) → IsStepped p q account request answer → changes_by p.running account request answer ≡ 1
      → ((at : Moment) → let s = step p.running account at request in s.1 ≡ answer → P s.0) → P q.recorded
  left_by P p q account request answer s one leaves =
      subst P (sym (is_recorded p q account request answer s one))
      (subst (λ (d : Machine × Answer). d.1 ≡ answer → P d.0) s.steps (leaves s.at) refl)

-- what a call tells, told of an equal one
told_as : (e : Event) (made call : Call) (told answer : Answer) → made ≡ call → told ≡ answer → Tells e made told → Tells e call answer
told_as e made call told answer one is tells = subst (λ (a : Answer). Tells e call a) is (subst (λ (c : Call). Tells e c told) one tells)

put_counts : (m : Machine) (account : ℕ) (key : FirstKey) (index : ℕ) (digest bytes stated : List ℕ) → changes_by m account (put_call key index digest bytes) (BlockWritten stated) ≡ 1
put_counts m account (Snap key) index digest bytes stated = refl
put_counts m account (Vol key) index digest bytes stated = refl

abbrev once : Option TokenRow → ℕ
once o = if is_some o then 0 else 1

module _ (refused_not_ok : RefusedIsTold) (memory_not_ok : MemoryIsTold) (parts : TimePassesInParts) (counted : ChangesAreCounted) (keeps_numbers : CallKeepsNumbers) (keeps_volumes : VolumesStayGiven) (only : OnlyStartsUseTokens) (again : RepeatTellsFirst) (created_again : CreationTellsFirst)
    (put_leaves : PutLeavesBytes) (keeps : OtherCallKeepsBytes) (child_has : ChildHasBytes) (get_answers : GetAnswersBytes)
    (write_leaves : WriteLeavesBytes) (disk_keeps : OtherCallKeepsDisk) (volume_has : VolumeHasBytes) (snapshot_has : SnapshotHasBytes) (read_answers : ReadAnswersBytes) (blank_keeps : OtherCallKeepsBlank) (volume_blank : NewVolumeIsBlank) (blank_zeros : BlankReadsZeros)
    (run_has : RunHasBytes) (run_gives : RunGivesNumbers) (keeps_of : CallKeepsVolume) (shows_row : ShownIsTheRow) where
  -- ---- what every event keeps

  abbrev IsSound : Point → Type 0
  IsSound p = StandsLater p × IsGiven p.recorded

  given_on : (e : Event) (p q : Point) → Came e p q → IsSound p → IsGiven q.recorded
  given_on e p q (nothing stays) (stood, given) = later_given p.recorded q.recorded stays given
  given_on e p q (turned call at answer tells steps one) (stood, given) =
      let now = later_given p.recorded p.running stood given in
      subst IsGiven (ap (λ (d : Machine × Answer). d.0) steps ∙ sym one) (keeps_numbers p.running call.account at call.request now.0, keeps_volumes p.running call.account at call.request now.1)
  given_on e p q (untold call second l loses) (stood, given) = lost_given parts keeps_numbers keeps_volumes keeps disk_keeps blank_keeps call second p.recorded q.recorded l given

  sound_on : (e : Event) (p q : Point) → Happens p e q → IsSound p → IsSound q
  sound_on e p q happens sound = (later_on parts e p q happens sound.0, given_on e p q (came_of e p q happens) sound)

  sound_run : (es : List Event) (p q : Point) → Passes p es q → IsSound p → IsSound q
  sound_run [] p q is sound = subst IsSound (sym is) sound
  sound_run (e ∷ es) p q (next, happens, later) sound = sound_run es next q later (sound_on e p next happens sound)

  -- ---- a client token is used by a start or a creation whose answer has the id that is kept with it, or by one that nobody was told of
  module _ (k : TokenKey) (row : TokenRow) where
    abbrev IsKept : Machine → Type 0
    IsKept m = fin.get m.tokens k ≡ Some row

    used_on : (e : Event) (es : List Event) (p q : Point) → Came e p q → IsSound p → IsKept q.recorded → IsKept p.recorded ⊎ IsUsedIn (e ∷ es) k row
    used_on e es p q (nothing stays) sound there = inl (sym (later_tokens k p.recorded q.recorded stays) ∙ there)
    used_on e es p q (turned call at answer tells steps one) sound there =
        by (subst (λ (d : Machine × Answer). IsKept d.0 → IsKept p.running ⊎ ((k.account ≡ call.account) × (made_id d.1 ≡ Some (first_key call.account row)))) steps
        (only p.running call.account at call.request k row) (subst IsKept one there))
      where
        by : IsKept p.running ⊎ ((k.account ≡ call.account) × (made_id answer ≡ Some (first_key call.account row))) → IsKept p.recorded ⊎ IsUsedIn (e ∷ es) k row
        by (inl was) = inl (sym (later_tokens k p.recorded p.running sound.0) ∙ was)
        by (inr (own, is)) = inr (by_answer e call answer (0, omega arith, refl) tells (is ∙ ap (λ (n : ℕ). made n) (sym own)))
          where
            made : ℕ → Option FirstKey
            made n = Some (first_key n row)
    used_on e es p q (untold call second l loses) sound there = by (lost_tokens parts keeps_numbers keeps_volumes keeps disk_keeps blank_keeps call second p.recorded q.recorded l k row there)
      where
        by : IsKept p.recorded ⊎ ((k.account ≡ call.account) × (token_of call.request ≡ Some k.text)) → IsKept p.recorded ⊎ IsUsedIn (e ∷ es) k row
        by (inl was) = inl was
        by (inr (own, uses)) = inr (by_lost e call (0, omega arith, refl) loses own uses)

    used_run : (es : List Event) (p q : Point) → Passes p es q → IsSound p → IsKept q.recorded → IsKept p.recorded ⊎ IsUsedIn es k row
    used_run [] p q is sound there = inl (subst (λ (p : Point). IsKept p.recorded) is there)
    used_run (e ∷ es) p q (next, happens, later) sound there = at (used_run es next q later (sound_on e p next happens sound) there)
      where
        at : IsKept next.recorded ⊎ IsUsedIn es k row → IsKept p.recorded ⊎ IsUsedIn (e ∷ es) k row
        at (inl there) = used_on e es p next (came_of e p next happens) sound there
        at (inr used) = inr (used_later e es k row used)

  -- so the token of a start or of a creation that is the first of its key is unused
  module _ (before : List Event) (start p : Point) (passes : Passes start before p) (sound : IsSound start) (bare : HasNoTokens start.recorded) (e : Event) (key : FirstKey) (first : IsFirst e key before) where
    module _ (mine : Call) (answer : Answer) (tells : Tells e mine answer) where
      stood : StandsLater p
      stood = (sound_run before start p passes sound).0

      earlier : (row : TokenRow) (text : List ℕ) → token_of mine.request ≡ Some text → fin.get p.running.tokens (token_key mine.account text) ≡ Some row → first_key mine.account row ≡ key → ⊥
      earlier row text own there is =
          among (used_run (token_key mine.account text) row before start p passes sound (sym (later_tokens (token_key mine.account text) p.recorded p.running stood) ∙ there))
        where
          among : (fin.get start.recorded.tokens (token_key mine.account text) ≡ Some row) ⊎ IsUsedIn before (token_key mine.account text) row → ⊥
          among (inl was) = bare (token_key mine.account text) row was
          among (inr (by_answer f call told at says made)) = first.told f call told at says (made ∙ ap (λ (k : FirstKey). Some k) is)
          among (inr (by_lost f call at loses account_is uses)) = first.untold f call mine answer at loses tells (record { account_is = sym account_is; token = text; first = uses; second = own })

      named : (token : Option (List ℕ)) → token_of mine.request ≡ token → (row : TokenRow) → use_of p.running mine.account token ≡ Some row → first_key mine.account row ≡ key → ⊥
      named None own row there is = cc
      named (Some text) own row there is = earlier row text own there is

      unused : ((row : TokenRow) → use_of p.running mine.account (token_of mine.request) ≡ Some row → first_key mine.account row ≡ key) → IsUnused p.running mine.account (token_of mine.request)
      unused same_key = by (use_of p.running mine.account (token_of mine.request)) refl
        where
          by : (o : Option TokenRow) → use_of p.running mine.account (token_of mine.request) ≡ o → IsUnused p.running mine.account (token_of mine.request)
          by None is = is
          by (Some row) is = absurd (named (token_of mine.request) refl row is (same_key row is))

  -- ---- what stands there until a put

  put_has : (key : FirstKey) (m : Machine) (account : ℕ) (at : Moment) (index : ℕ) (digest bytes stated : List ℕ) → IsGiven m
      → let s = step m account at (put_call key index digest bytes) in s.1 ≡ BlockWritten stated → Has s.0 key index (Some bytes)
  put_has (Snap key) m account at index digest bytes stated given is = put_leaves m account at key index digest bytes stated given.0 is
  put_has (Vol key) m account at index digest bytes stated given is = write_leaves m account at key index digest bytes stated given.1 is

  -- ---- what a snapshot is of

  later_of : (key : SnapKey) (volume : Option VolKey) (m n : Machine) → IsLater m n → IsOf m key volume → IsOf n key volume
  later_of key volume m n (same is) of = subst (λ (m : Machine). IsOf m key volume) (sym is) of
  later_of key volume m n (moved at later is) of = subst (λ (m : Machine). IsOf m key volume) (sym is) (is-of-aged key volume m at of)

  of_on : (key : SnapKey) (volume : Option VolKey) (e : Event) (p q : Point) → Came e p q → StandsLater p → IsOf p.recorded key volume → IsOf q.recorded key volume
  of_on key volume e p q (nothing stays) later of = later_of key volume p.recorded q.recorded stays of
  of_on key volume e p q (turned call at answer tells steps one) later of =
      subst (λ (m : Machine). IsOf m key volume) (ap (λ (d : Machine × Answer). d.0) steps ∙ sym one) (keeps_of p.running call.account at call.request key volume (later_of key volume p.recorded p.running later of))
  of_on key volume e p q (untold call second l loses) later of =
      let at : Moment = record { second = second } in
      subst (λ (d : Machine × Answer). IsOf d.0 key volume) (stepped parts keeps_numbers keeps_volumes keeps disk_keeps blank_keeps call second p.recorded q.recorded l)
      (keeps_of (advance p.recorded at) call.account at l.done key volume (is-of-aged key volume p.recorded at of))

  of_run : (key : SnapKey) (volume : Option VolKey) (es : List Event) (p q : Point) → Passes p es q → IsSound p → IsOf p.recorded key volume → IsOf q.recorded key volume
  of_run key volume [] p q is sound of = subst (λ (p : Point). IsOf p.recorded key volume) (sym is) of
  of_run key volume (e ∷ es) p q (next, happens, later) sound of = of_run key volume es next q later (sound_on e p next happens sound) (of_on key volume e p next (came_of e p next happens) sound.0 of)

  -- what is shown is the row that the running machine has
  shown_of : (volume : VolKey) (key : SnapKey) (own : Option VolKey) (e : Event) (p q : Point) → Happens p e q → StandsLater p → ShowsOf e volume key → IsOf p.recorded key own → own ≡ Some volume
  shown_of volume key own e p q happens later shows of =
      let account = shows.answers.0 in
      let went = stepped_on (DescribeSnapshot key) (SnapshotShown shows.created shows.row) (λ e. cc) (λ refusal e. cc) e p q happens shows.answers in
      let (s, may, created_is, row_is) = shows_row p.running account went.at key shows.created shows.row (ap (λ (d : Machine × Answer). d.1) went.steps) in
      sym ((later_of key own p.recorded p.running later of).1 s may.is_there) ∙ sym row_is.volume_is ∙ shows.of

  module _ (index : ℕ) where
    module _ (found : Option (List ℕ)) (key : FirstKey) where
      abbrev HasIt : Point → Type 0
      HasIt p = Has p.recorded key index found

      keeps_on : (e : Event) (es : List Event) (p q : Point) → Came e p q → StandsLater p → NoPut key index (e ∷ es) → HasIt p → HasIt q
      keeps_on e es p q (nothing stays) stood none has = later_has key index found p.recorded q.recorded stays has
      keeps_on e es p q (turned call at answer tells steps one) stood none has =
          subst (λ (m : Machine). Has m key index found) (ap (λ (d : Machine × Answer). d.0) steps ∙ sym one)
          (stays_has parts keeps_numbers keeps_volumes keeps disk_keeps blank_keeps key p.running call.account at call.request index found (later_has key index found p.recorded p.running stood has)
          (λ asks accepted.
          let asked = asked_put key index call.request asks in
          none.told e asked.bytes (0, omega arith, refl)
          (record { digest = asked.digest; stated = accepted.0; answers = (call.account, told_as e call (call_by call.account (put_call key index asked.digest asked.bytes)) answer (BlockWritten accepted.0) (ap (call_by call.account) asked.is) (sym (ap (λ (d : Machine × Answer). d.1) steps) ∙ accepted.1) tells) })))
      keeps_on e es p q (untold call second l loses) stood none has =
          lost_keeps parts keeps_numbers keeps_volumes keeps disk_keeps blank_keeps call second p.recorded q.recorded l key index found
          (λ digest bytes is. none.untold e call.account digest bytes (0, omega arith, refl) (subst (λ (r : Request). Loses e (call_by call.account r)) is loses)) has

      fewer : (e : Event) (es : List Event) → NoPut key index (e ∷ es) → NoPut key index es
      fewer e es none = record {
        told = λ f bytes (n, short, at). none.told f bytes (suc n, omega (arith, short), at);
        untold = λ f account digest bytes (n, short, at). none.untold f account digest bytes (suc n, omega (arith, short), at);
      }

      keeps_run : (es : List Event) (p q : Point) → Passes p es q → IsSound p → NoPut key index es → HasIt p → HasIt q
      keeps_run [] p q is sound none has = subst HasIt (sym is) has
      keeps_run (e ∷ es) p q (next, happens, later) sound none has =
          keeps_run es next q later (sound_on e p next happens sound) (fewer e es none) (keeps_on e es p next (came_of e p next happens) sound.0 none has)

    put_on : (e : Event) (key : FirstKey) (bytes : List ℕ) (p q : Point) → Happens p e q → Puts e key index bytes → IsSound p → Has q.recorded key index (Some bytes)
    put_on e key bytes p q happens puts sound =
        let request = put_call key index puts.digest bytes in
        left_by counted (λ m. Has m key index (Some bytes)) p q puts.answers.0 request (BlockWritten puts.stated)
        (stepped_on request (BlockWritten puts.stated) (λ e. cc) (λ refusal e. cc) e p q happens puts.answers)
        (put_counts p.running puts.answers.0 key index puts.digest bytes puts.stated)
        (λ at. put_has key p.running puts.answers.0 at index puts.digest bytes puts.stated (later_given p.recorded p.running sound.0 sound.1))

    -- what begins with the blocks of another
    module _ (bytes : List ℕ) (e : Event) (p q : Point) (happens : Happens p e q) (sound : IsSound p) where
      now_given : IsGiven p.running
      now_given = later_given p.recorded p.running sound.0 sound.1

      abbrev IsFresh : FirstKey → Type 0
      IsFresh key = (mine : Call) (answer : Answer) → Tells e mine answer → ((row : TokenRow) → use_of p.running mine.account (token_of mine.request) ≡ Some row → first_key mine.account row ≡ key) → IsUnused p.running mine.account (token_of mine.request)

      start_on : (parent key : SnapKey) (s : Starts e parent key) → IsFresh (Snap key) → HasBytes p.recorded parent index bytes → HasBytes q.recorded key index bytes
      start_on parent key s fresh has =
          let account = s.answers.0 in
          let request = StartSnapshot s.size (Some parent) s.description s.tags s.token s.timeout in
          let answer = Started s.told s.owner s.from key s.begin s.shown s.gib in
          let went = stepped_on request answer (λ e. cc) (λ refusal e. cc) e p q happens s.answers in
          let new = fresh (call_by account request) answer s.answers.1 (λ row used. again p.running account went.at s.size (Some parent) s.description s.tags s.token s.timeout row key used (ap (λ (d : Machine × Answer). started_id d.1) went.steps)) in
          left_by counted (λ m. HasBytes m key index bytes) p q account request answer went (ap once new)
          (λ at. child_has p.running account at s.size parent s.description s.tags s.token s.timeout s.told s.owner s.from key s.begin s.shown s.gib index bytes now_given.0 new
          (later_has (Snap parent) index (Some bytes) p.recorded p.running sound.0 has))

      create_on : (origin : SnapKey) (key : VolKey) (s : Creates e origin key) → IsFresh (Vol key) → HasBytes p.recorded origin index bytes → HasVolumeBytes q.recorded key index bytes
      create_on origin key s fresh has =
          let account = s.answers.0 in
          let request = CreateVolume (Some origin) s.size s.tags s.token in
          let answer = VolumeShown true s.gib s.from s.shown key in
          let went = stepped_on request answer (λ e. cc) (λ refusal e. cc) e p q happens s.answers in
          let new = fresh (call_by account request) answer s.answers.1 (λ row used. created_again p.running account went.at (Some origin) s.size s.tags s.token row key used (ap (λ (d : Machine × Answer). created_id d.1) went.steps)) in
          left_by counted (λ m. HasVolumeBytes m key index bytes) p q account request answer went (ap once new)
          (λ at. volume_has p.running account at origin s.size s.tags s.token true s.gib s.from s.shown key index bytes new (later_has (Snap origin) index (Some bytes) p.recorded p.running sound.0 has))

      snap_on : (volume : VolKey) (key : SnapKey) (s : Snaps e volume key) → HasVolumeBytes p.recorded volume index bytes → HasBytes q.recorded key index bytes
      snap_on volume key s has =
          let account = s.answers.0 in
          let request = CreateSnapshot volume s.description s.tags in
          let answer = SnapshotShown true s.row in
          subst (λ (k : SnapKey). HasBytes q.recorded k index bytes) s.key_is
          (left_by counted (λ m. HasBytes m s.row.key index bytes) p q account request answer (stepped_on request answer (λ e. cc) (λ refusal e. cc) e p q happens s.answers) refl
          (λ at. snapshot_has p.running account at volume s.description s.tags true s.row index bytes (later_has (Vol volume) index (Some bytes) p.recorded p.running sound.0 has)))

      begin_on : (source key : FirstKey) → BeginsFrom e source key → IsFresh key → Has p.recorded source index (Some bytes) → Has q.recorded key index (Some bytes)
      begin_on (Snap parent) (Snap key) begins fresh has = start_on parent key begins fresh has
      begin_on (Snap origin) (Vol key) begins fresh has = create_on origin key begins fresh has
      begin_on (Vol volume) (Snap key) begins fresh has = snap_on volume key begins has
      begin_on (Vol volume) (Vol key) begins fresh has = absurd begins

      -- a volume without an origin begins with nothing
      empty_on : (key : VolKey) (s : CreatesEmpty e key) → IsFresh (Vol key) → IsBlank q.recorded key index
      empty_on key s fresh =
          let account = s.answers.0 in
          let request = CreateVolume None s.size s.tags s.token in
          let answer = VolumeShown true s.gib s.from s.shown key in
          let went = stepped_on request answer (λ e. cc) (λ refusal e. cc) e p q happens s.answers in
          let new = fresh (call_by account request) answer s.answers.1 (λ row used. created_again p.running account went.at None s.size s.tags s.token row key used (ap (λ (d : Machine × Answer). created_id d.1) went.steps)) in
          left_by counted (λ m. IsBlank m key index) p q account request answer went (ap once new)
          (λ at. volume_blank p.running account at s.size s.tags s.token true s.gib s.from s.shown key index new)

    -- what a run of a policy made
    module _ (bytes : List ℕ) (volume : VolKey) (key : SnapKey) (e : Event) (p q : Point) (happens : Happens p e q) (sound : IsSound p) (runs : RunMakes e key) where
      abbrev said : Answer
      said = PolicyRan runs.deleted runs.made

      left_so : (P : Machine → Type 0) → ((at : Moment) → let s = step p.running runs.answers.0 at (RunPolicy runs.policy) in s.1 ≡ said → P s.0) → P q.recorded
      left_so P leaves = left_by counted P p q runs.answers.0 (RunPolicy runs.policy) said (stepped_on (RunPolicy runs.policy) said (λ e. cc) (λ refusal e. cc) e p q happens runs.answers) refl leaves

      number_given : key.number < next_number q.recorded key.account
      number_given = left_so (λ m. key.number < next_number m key.account)
          (λ at is.
          let (number, named_so, above, below) = run_gives p.running runs.answers.0 at runs.policy runs.deleted runs.made (any.Snap key) is runs.is_made in
          subst (λ (k : SnapKey). k.number < next_number (step p.running runs.answers.0 at (RunPolicy runs.policy)).0 k.account) (sym (snap_is named_so)) below)
        where
          snap_is : {a b : SnapKey} → any.Snap a ≡ any.Snap b → a ≡ b
          snap_is e = cc

      ran_on : HasVolumeBytes p.recorded volume index bytes → IsOf q.recorded key (Some volume) → HasBytes q.recorded key index bytes
      ran_on has = left_so (λ m. IsOf m key (Some volume) → HasBytes m key index bytes)
          (λ at is of. run_has p.running runs.answers.0 at runs.policy runs.deleted runs.made key volume index bytes (later_given p.recorded p.running sound.0 sound.1).0 (later_has (Vol volume) index (Some bytes) p.recorded p.running sound.0 has) is runs.is_made of)

      -- whatever it is of, until it is shown
      shown_has : HasVolumeBytes p.recorded volume index bytes → (mid : List Event) (middle : Point) → Passes q mid middle → IsSound q → (shown : Event) (next : Point) → Happens middle shown next → ShowsOf shown volume key → HasBytes q.recorded key index bytes
      shown_has has mid middle passes now shown next does shows = by (fin.get q.recorded.snaps key) refl
        where
          nothing : {s : Snapshot} → ◌≡◌ {A = Option Snapshot} None (Some s) → ⊥
          nothing e = cc

          single : {s t : Snapshot} → ◌≡◌ {A = Option Snapshot} (Some s) (Some t) → t ≡ s
          single e = cc

          of_it : (s : Snapshot) → fin.get q.recorded.snaps key ≡ Some s → IsOf q.recorded key s.row.volume
          of_it s is = (number_given, λ t e. ap (λ (t : Snapshot). t.row.volume) (single (sym is ∙ e)))

          by : (o : Option Snapshot) → fin.get q.recorded.snaps key ≡ o → HasBytes q.recorded key index bytes
          by None is = let count = numbered (fin.get q.recorded.own key.account) in let below = number_given in (omega (arith, below, count), 0, λ s e stands. absurd (nothing (sym is ∙ e)))
          by (Some s) is =
              let of = shown_of volume key s.row.volume shown middle next does (sound_run mid q middle passes now).0 shows (of_run key s.row.volume mid q middle passes now (of_it s is)) in
              ran_on has (subst (IsOf q.recorded key) of (of_it s is))

    -- ---- an exchange whose message asks for a block, and which was answered by status 200
    module _ (wanted : Answer) (x : Exchange) (request : Request) (asks : Asks x.message request) (rest : List ℕ) (is_ok : text_of x.answer ≡ codes "HTTP/1.1 200 OK" ++ rest) (p q : Point) where
      by_step : (call : Call) → call_of x.message ≡ Ok call → step p.running call.account (record { second = x.reading }) call.request ≡ (q.running, x.answer) → (let s = step p.running asks.0 (record { second = x.reading }) request in (s.1 ≡ wanted) ⊎ ((refusal : Refusal) × (s.1 ≡ Refused refusal))) → x.answer ≡ wanted
      by_step call makes steps answers = by (subst (λ (d : Machine × Answer). (d.1 ≡ wanted) ⊎ ((refusal : Refusal) × (d.1 ≡ Refused refusal))) (step_of p q (record { second = x.reading }) call (call_by asks.0 request) x.answer x.answer (same_call (call_of x.message) call (call_by asks.0 request) makes asks.1) refl steps) answers)
        where
          refused_ok : (refusal : Refusal) → x.answer ≡ Refused refusal → ⊥
          refused_ok refusal is = refused_not_ok refusal rest (ap text_of (sym is) ∙ is_ok)

          by : (x.answer ≡ wanted) ⊎ ((refusal : Refusal) × (x.answer ≡ Refused refusal)) → x.answer ≡ wanted
          by (inl is) = is
          by (inr (refusal, is)) = absurd (refused_ok refusal is)

      read_on : Does p x q → (let s = step p.running asks.0 (record { second = x.reading }) request in (s.1 ≡ wanted) ⊎ ((refusal : Refusal) × (s.1 ≡ Refused refusal))) → x.answer ≡ wanted
      read_on (no_call refusal makes said stays) answers = absurd (refused_not_ok refusal rest (ap text_of (sym said) ∙ is_ok))
      read_on (starved said stays) answers = absurd (memory_not_ok rest (ap text_of (sym said) ∙ is_ok))
      read_on (unavailable call makes said stays) answers = absurd (refused_not_ok Unavailable rest (ap text_of (sym said) ∙ is_ok))
      read_on (changed call makes steps more one) answers = by_step call makes steps answers
      read_on (answered call makes steps none stays) answers = by_step call makes steps answers

    get_on : (key : FirstKey) (bytes : List ℕ) (x : Exchange) (p q : Point) → Does p x q → StandsLater p → Gets x key index → Has p.recorded key index (Some bytes) → x.answer ≡ BlockRead (sha256 bytes) bytes
    get_on (Snap key) bytes x p q does stood gets has =
        read_on (BlockRead (sha256 bytes) bytes) x (GetSnapshotBlock key index gets.asks.0) gets.asks.1 gets.rest gets.is_ok p q does
        (get_answers p.running gets.asks.1.0 (record { second = x.reading }) key index gets.asks.0 bytes (later_has (Snap key) index (Some bytes) p.recorded p.running stood has))
    get_on (Vol key) bytes x p q does stood gets has =
        read_on (BlockRead (sha256 bytes) bytes) x (ReadVolumeBlock key index) gets.asks gets.rest gets.is_ok p q does
        (read_answers p.running gets.asks.0 (record { second = x.reading }) key index bytes (later_has (Vol key) index (Some bytes) p.recorded p.running stood has))

  -- ---- over a whole life
  module _ (start : Point) (sound : IsSound start) (bare : HasNoTokens start.recorded) where
    cut_at : (es before after : List Event) (p : Point) (e : Event) → es ≡ before ++ e ∷ after → Passes start es p → Between before (e ∷ after) start p
    cut_at es before after p e is passes = between before (e ∷ after) start p (subst (λ (l : List Event). Passes start l p) is passes)

    left : (es : List Event) (key : FirstKey) (index : ℕ) (bytes : List ℕ) (p : Point) → Passes start es p → LastPut es key index bytes → Has p.recorded key index (Some bytes)
    left es key index bytes p passes (put _ before after e _ _ _ is puts none) =
        let cut = cut_at es before after p e is passes in
        let (next, happens, later) = cut.second in
        let there = sound_run before start cut.middle cut.first sound in
        keeps_run index (Some bytes) key after next p later (sound_on e cut.middle next happens there) none
        (put_on index e key bytes cut.middle next happens puts there)
    left es key index bytes p passes (inherited _ before after e source _ _ _ is had begins first none) =
        let cut = cut_at es before after p e is passes in
        let (next, happens, later) = cut.second in
        let there = sound_run before start cut.middle cut.first sound in
        keeps_run index (Some bytes) key after next p later (sound_on e cut.middle next happens there) none
        (begin_on index bytes e cut.middle next happens there source key begins
        (unused before start cut.middle cut.first sound bare e key first)
        (left before source index bytes cut.middle cut.first had))
    left es (Snap key) index bytes p passes (ran _ before mid after e shown volume _ _ _ is had runs shows none) =
        let cut = cut_at es before (mid ++ shown ∷ after) p e is passes in
        let (next, happens, later) = cut.second in
        let there = sound_run before start cut.middle cut.first sound in
        let now = sound_on e cut.middle next happens there in
        let rest = between mid (shown ∷ after) next p later in
        let (told, does, last) = rest.second in
        keeps_run index (Some bytes) (Snap key) (mid ++ shown ∷ after) next p later now none
        (shown_has index bytes volume key e cut.middle next happens there runs (left before (Vol volume) index bytes cut.middle cut.first had) mid rest.middle rest.first now shown told does shows)

    blank : (es : List Event) (key : VolKey) (index : ℕ) (p : Point) → Passes start es p → IsUnwritten es key index → IsBlank p.recorded key index
    blank es key index p passes u =
        let cut = cut_at es u.before u.after p u.e u.is passes in
        let (next, happens, later) = cut.second in
        let there = sound_run u.before start cut.middle cut.first sound in
        keeps_run index None (Vol key) u.after next p later (sound_on u.e cut.middle next happens there) u.no_write
        (empty_on index [] u.e cut.middle next happens there key u.creates (unused u.before start cut.middle cut.first sound bare u.e (Vol key) u.first))

    reads_last : (es : List Event) (p : Point) → Passes start es p → ReadsLastPut es
    reads_last es p passes before after x key index bytes is had gets =
        let cut = cut_at es before after p (exchanged x) is passes in
        let (next, does, later) = cut.second in
        let there = sound_run before start cut.middle cut.first sound in
        ap text_of (get_on index key bytes x cut.middle next does there.0 gets (left before key index bytes cut.middle cut.first had))

    reads_zeros : (es : List Event) (p : Point) → Passes start es p → ReadsZeros es
    reads_zeros es p passes before after x key index is unwritten gets =
        let cut = cut_at es before after p (exchanged x) is passes in
        let (next, does, later) = cut.second in
        let there = sound_run before start cut.middle cut.first sound in
        ap text_of (read_on index ZeroBlockRead x (ReadVolumeBlock key index) gets.asks gets.rest gets.is_ok cut.middle next does
        (blank_zeros cut.middle.running gets.asks.0 (record { second = x.reading }) key index (later_has (Vol key) index None cut.middle.recorded cut.middle.running there.0 (blank before key index cut.middle cut.first unwritten))))

  pub reads_back : ((secret : List ℕ) → IsGiven (empty_machine secret)) → LifeReadsBack
  reads_back given es p (secret, passes) =
      let start = at_rest (empty_machine secret) in
      (reads_last start (same refl, given secret) (none_used secret) es p passes, reads_zeros start (same refl, given secret) (none_used secret) es p passes)
