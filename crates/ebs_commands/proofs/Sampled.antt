-- How a sample ends.
use Rattle.std.proofs.Common.{zero, suc, Bool, true, false, ◌<◌, ◌*◌, ◌^◌, ◌%◌, ◌==◌, if◌then◌else◌, ◌≡◌, ◌∙◌, ◌+◌, ◌≤◌, ℕ, length, List, [], ◌∷◌, Result, Ok, Err, OnOk, OnErr, IfErr, ◌⊎◌, inl, inr, refl, sym, ap, ap₂, subst, arith}
use Rattle.std.proofs.lemmas.List.{length-append, length-map}
use Rattle.ebs_disk_store.specs.Opened.{IsUnmarked}
use Rattle.ebs_world.specs.Ends.{Outlet}
use Rattle.ebs_model.specs.Quotas.{Rose}
use Rattle.ebs_model.specs.declared.keys.Moment.{Moment}
use Rattle.ebs_world.specs.View.{View, Ran}
use Rattle.ebs_journal.specs.inner.Line.{Line}
use Rattle.ebs_journal.specs.Opening.{OffMaking}
use Rattle.ebs_recovery.specs.inner.Fits.{Fits, Seen, new_store}
use Rattle.ebs_commands.specs.Lines.{sample_lines}
use Rattle.ebs_commands.specs.Ends.{FailedAt, Writes, Wrote}
use Rattle.ebs_commands.specs.Ticks.{Asked}
use Rattle.ebs_commands.specs.inner.Chains.{Chain}
use Rattle.ebs_commands.specs.inner.Ticks.{end_of}
use Rattle.ebs_commands.specs.Samples.{Answers, AreAll, Begins, SampleEnds, StopAt, accepted_in, asked_in, asked_of, moment_in, round_calls, rounds_below, sample_calls, zeros}
use Rattle.ebs_commands.specs.inner.Collects.{Collects, Ended, Failed, IsCollectedOr, used}
use Rattle.ebs_commands.specs.inner.Samples.{CollectsAll, CollectsNone, EndsEarly, GivesAll, Samples, sampled}
use Rattle.ebs_commands.specs.declared.sampling.Counts.{Counts}
use Rattle.ebs_disk_store.specs.declared.collecting.Usage.{Usage}
use Rattle.ebs_disk_store.specs.declared.pointing.StoreStop.{StoreStop}
use Rattle.ebs_disk_store.specs.inner.Told.{at_reading}
use Rattle.ebs_commands.specs.declared.ending.CommandEnd.{CommandEnd}
use Rattle.ebs_commands.specs.declared.ending.CommandEnd.TheVariants.{Done, DiskFailed, AlreadyMade, OutputFailed, Memory, Damaged, Exhausted}
use Rattle.ebs_commands.specs.declared.rounds.SampleCall.{SampleCall}
use Rattle.ebs_commands.specs.declared.rounds.SampleCall.TheVariants.{CreateSnapshot, Delete, Write}
use Rattle.ebs_commands.proofs.Collected.{as_none, collected_with, unwritten}
use Rattle.ebs_commands.proofs.Given.{chain_count, rose_since}

at_last : (a b c : ℕ) → a ≤ b → b ≤ c → a ≤ c
at_last a b c first second = omega (arith, first, second)

as_many : (calls : List SampleCall) (answers : Answers) → AreAll calls answers → length answers ≡ length calls
as_many calls answers all = sym (length-map answers (λ (x : Asked × _). x.0)) ∙ (ap (λ (xs : List Asked). length xs) (sym all.0) ∙ length-map calls asked_of)

-- nothing was written where the calls ended early
unwritten_early : (end : CommandEnd) (text : List ℕ) (calls : List SampleCall) (answers : Answers) (old new : Outlet) → StopAt end calls answers → new ≡ old → Writes end text old new
unwritten_early DiskFailed text calls answers old new stop still = still
unwritten_early Memory text calls answers old new stop still = still
unwritten_early Done text calls answers old new stop still = absurd stop
unwritten_early OutputFailed text calls answers old new stop still = absurd stop
unwritten_early AlreadyMade text calls answers old new stop still = still
unwritten_early Damaged text calls answers old new stop still = still
unwritten_early Exhausted text calls answers old new stop still = still

-- the disk failed in the collection, or in its checkpoint
none_rose : (sound : Type 0) (v w : View) (s t : Seen) (now : Moment) (end : CommandEnd) → IsCollectedOr (Err end) (Failed sound v w s t) (Ended sound v w s t now) → end ≡ DiskFailed → Rose v.faults w.faults
none_rose sound v w s t now DiskFailed (inl failed) is = failed.rose
none_rose sound v w s t now DiskFailed (inr ended) is = ended.point
none_rose sound v w s t now Memory why is = absurd (apart is)
  where
    apart : Memory ≡ DiskFailed → ⊥
    apart is = cc
none_rose sound v w s t now Exhausted why is = absurd (apart is)
  where
    apart : Exhausted ≡ DiskFailed → ⊥
    apart is = cc
none_rose sound v w s t now Done why is = absurd why
none_rose sound v w s t now OutputFailed why is = absurd why
none_rose sound v w s t now AlreadyMade why is = absurd why
none_rose sound v w s t now Damaged why is = absurd why

as_err : (end : CommandEnd) → end ≡ DiskFailed → (let r : Result ℕ CommandEnd = Err end in r ≡ Err DiskFailed)
as_err end is = rw is refl

done_apart : {P : Type 0} → Done ≡ DiskFailed → P
done_apart is = cc

unput_apart : {P : Type 0} → OutputFailed ≡ DiskFailed → P
unput_apart is = cc

starved_apart : {P : Type 0} → Memory ≡ DiskFailed → P
starved_apart is = cc

module _ {D : Type 0} (view : D → View) (sound : Type 0) (rounds : ℕ) (calls : List SampleCall) (d mid : D) (s : Seen) (journal : Line) (are : calls ≡ sample_calls rounds) (is : s ≡ new_store zeros journal) (made : Fits sound (view mid) s) (unmarked : (view d).tells ≡ true → IsUnmarked (view d)) (ran : Ran OffMaking (view d) (view mid)) (begins : Begins (view d) (view mid)) (e : D) (old new : Outlet) where
  abbrev rose : Type 0
  rose = Rose (view d).faults (view e).faults

  abbrev fails : D → Seen → Seen → Type 0
  fails given t u = Collects view sound (moment_in rounds) given t e u × Failed sound (view given) (view e) t u

  abbrev finishes : D → Seen → Seen → Result (Unit {0}) StoreStop → Type 0
  finishes given t u point = Collects view sound (moment_in rounds) given t e u × Ended sound (view given) (view e) t u (at_reading t (moment_in rounds)) point

  made_of : (end : CommandEnd) (given : D) (t u : Seen) → Fits sound (view given) t → (answers : Answers) → Chain view sound mid s answers given t
      → SampleEnds end rose ((e ≡ given) × (u ≡ t)) (fails given t u) (finishes given t u) (used u.slots) calls answers old new → Samples view sound end rounds d e old new
  made_of end given t u fits answers chain ended = sampled (record {
    mid = mid;
    journal = journal;
    given = given;
    last = t;
    behind = u;
    answers = answers;
    unmarked = unmarked;
    ran = ran;
    begins = begins;
    made = subst (λ (x : Seen). Fits sound (view mid) x) is made;
    chain = subst (λ (x : Seen). Chain view sound mid x answers given t) is chain;
    fits = fits;
    ends = subst (λ (cs : List SampleCall). SampleEnds end rose ((e ≡ given) × (u ≡ t)) (fails given t u) (finishes given t u) (used u.slots) cs answers old new) are ended;
  })

  abbrev text : Answers → Seen → List ℕ
  text answers u = sample_lines (length answers) (accepted_in answers) (used u.slots)

  -- the calls ended early
  early : (end : CommandEnd) (t : Seen) → Fits sound (view e) t → GivesAll view sound (Err end) calls mid s e t → new ≡ old → Samples view sound end rounds d e old new
  early end t fits given still = made_of end e t t fits given.answers given.chain (record {
    went = inl (given.ends, (refl, refl));
    written = unwritten_early end (text given.answers t) calls given.answers old new given.ends still;
    rose = λ failed. rose_since (view d).faults (view mid).faults (view e).faults ran.count (given.rose (as_err end failed));
  })

  -- the collection failed, or its checkpoint wasn't written
  failed : (end : CommandEnd) → CollectsNone view sound end calls (moment_in rounds) mid s e → new ≡ old → Samples view sound end rounds d e old new
  failed end none still =
      let w = none.went in
      let count = chain_count view sound mid s w.gives.answers w.given w.last w.gives.chain in
      let Fails : Type 0 = Failed sound (view w.given) (view e) w.last w.behind in
      let Finishes : Result (Unit {0}) StoreStop → Type 0 = Ended sound (view w.given) (view e) w.last w.behind (at_reading w.last (moment_in rounds)) in
      made_of end w.given w.last w.behind w.fits w.gives.answers w.gives.chain (record {
        went = inr (w.gives.ends.0, collected_with Fails (fails w.given w.last w.behind) Finishes (finishes w.given w.last w.behind) (λ why. (w.collects, why)) (λ r ended. (w.collects, ended)) end (as_none Fails Finishes end none.why));
        written = unwritten Fails Finishes end (text w.gives.answers w.behind) old new none.why still;
        rose = λ why. rose_since (view d).faults (view w.given).faults (view e).faults (at_last (view d).faults (view mid).faults (view w.given).faults ran.count count)
            (none_rose sound (view w.given) (view e) w.last w.behind (at_reading w.last (moment_in rounds)) end none.why why);
      })

  -- no counts were told
  pub uncounted : (end : CommandEnd) → EndsEarly view sound end calls mid s e ⊎ CollectsNone view sound end calls (moment_in rounds) mid s e → new ≡ old → Samples view sound end rounds d e old new
  uncounted end (inl ended) still = early end ended.last ended.fits ended.gives still
  uncounted end (inr none) still = failed end none still

  module _ (counts : Counts) (all : CollectsAll view sound counts calls (moment_in rounds) mid s e) where
    -- no memory was left for the lines
    pub untold : new ≡ old → Samples view sound Memory rounds d e old new
    untold still =
        let w = all.went in
        made_of Memory w.given w.last w.behind w.fits w.gives.answers w.gives.chain (record { went = inr (w.gives.ends.0, inl (w.collects, all.ended)); written = still; rose = λ why. starved_apart why })

    lines_are : sample_lines (length calls) counts.accepted counts.usage ≡ sample_lines (length all.went.gives.answers) (accepted_in all.went.gives.answers) (used all.went.behind.slots)
    lines_are =
        let given = all.went.gives in
        ap₂ (λ (n k : ℕ). sample_lines n k counts.usage) (sym (as_many calls given.answers given.ends.0)) given.ends.1
        ∙ ap (λ (x : Usage). sample_lines (length given.answers) (accepted_in given.answers) x) all.usage

    -- the lines, by what was answered
    abbrev told_lines : List ℕ
    told_lines = sample_lines (length all.went.gives.answers) (accepted_in all.went.gives.answers) (used all.went.behind.slots)

    wrote_lines : (lines : List ℕ) → lines ≡ sample_lines (length calls) counts.accepted counts.usage → Wrote old new lines → Wrote old new told_lines
    wrote_lines lines spelled wrote = subst (λ (x : List ℕ). Wrote old new x) (spelled ∙ lines_are) wrote

    failed_lines : (lines : List ℕ) → lines ≡ sample_lines (length calls) counts.accepted counts.usage → FailedAt old new lines → FailedAt old new told_lines
    failed_lines lines spelled failed = subst (λ (x : List ℕ). FailedAt old new x) (spelled ∙ lines_are) failed

    done : Wrote old new told_lines → Samples view sound Done rounds d e old new
    done wrote =
        let w = all.went in
        made_of Done w.given w.last w.behind w.fits w.gives.answers w.gives.chain (record { went = inr (w.gives.ends.0, (w.collects, all.ended)); written = wrote; rose = λ why. done_apart why })

    unput : FailedAt old new told_lines → Samples view sound OutputFailed rounds d e old new
    unput failed =
        let w = all.went in
        made_of OutputFailed w.given w.last w.behind w.fits w.gives.answers w.gives.chain (record { went = inr (w.gives.ends.0, (w.collects, all.ended)); written = failed; rose = λ why. unput_apart why })

    -- the lines were put, or the output failed
    pub told : (result : Result (Unit {0}) CommandEnd) (lines : List ℕ) → lines ≡ sample_lines (length calls) counts.accepted counts.usage
        → OnOk result (Wrote old new lines) → OnErr result (FailedAt old new lines) → IfErr result (λ (end : CommandEnd). end ≡ OutputFailed) → Samples view sound (end_of result) rounds d e old new
    told (Ok v) lines spelled wrote failed end = done (wrote_lines lines spelled wrote)
    told (Err why) lines spelled wrote failed end = subst (λ (x : CommandEnd). Samples view sound x rounds d e old new) (sym end) (unput (failed_lines lines spelled failed))

one_or_none : (b : Bool) (c : SampleCall) → length (if b then c ∷ [] else []) ≤ 1
one_or_none true c = omega arith
one_or_none false c = omega arith

round_length : (r : ℕ) → length (round_calls r) ≤ 6
round_length r = let more = one_or_none (r % 3 == 2) (Delete r) in omega (arith, more)

rounds_length : (n : ℕ) → length (rounds_below n) ≤ 6 * n
rounds_length zero = omega arith
rounds_length (suc n) = let sum = length-append (rounds_below n) (round_calls n) in let below = rounds_length n in let more = round_length n in omega (arith, sum, below, more)

sample_length : (n : ℕ) → length (sample_calls n) ≤ 6 * n + 3
sample_length n = let sum = length-append (rounds_below n) (CreateSnapshot n ∷ Write n 9 ∷ []) in let below = rounds_length n in omega (arith, sum, below)

pub few : (rounds : ℕ) (calls : List SampleCall) → rounds < 2 ^ 16 → calls ≡ sample_calls rounds → length calls < 2 ^ 43
few rounds calls small are =
    let many : length calls ≡ length (sample_calls rounds) = ap (λ (cs : List SampleCall). length cs) are in
    let most = sample_length rounds in
    omega (arith, small, many, most)
