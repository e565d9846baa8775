-- The calls of a sample in a disk's life.
use Rattle.std.proofs.Common.{zero, suc, ◌≡◌, ◌⊎◌, ◌<◌, ◌≤◌, ◌%◌, ◌-◌, ◌==◌, ◌++◌, if◌then◌else◌, inl, inr, ℕ, Bool, true, false, List, [], ◌∷◌, length, map, max, min, Result, Ok, refl, sym, ap, subst, ◌∙◌, arith, codes}
use Rattle.std.specs.declared.option.Option.{Option}
use Rattle.std.specs.declared.option.Option.TheVariants.{None}
use Rattle.std.specs.List.{AllByRecursion}
use Rattle.std.proofs.lemmas.Bool.Decides.{nat_tests}
use Rattle.std.proofs.lemmas.List.{length-replicate}
use Rattle.std.proofs.Math.Nat.{mod-lt}
use Rattle.ebs_world.specs.Ends.{Outlet}
use Rattle.ebs_world.specs.View.{View, IsTrueToItself}
use Rattle.ebs_world.specs.inner.Runs.{leaves_not}
use Rattle.ebs_model.specs.Quotas.{block_size, last_second, Rose}
use Rattle.ebs_model.specs.Limits.{bad_member, bad_put, has_ten_digits, unless}
use Rattle.ebs_model.specs.Machine.{Machine, empty_machine}
use Rattle.ebs_recovery.specs.inner.Fits.{Fit, Seen, new_store}
use Rattle.ebs_recovery.specs.Stands.{Stands, no_secret, unmade}
use Rattle.ebs_recovery.specs.inner.StandLaws.{StandingRests}
use Rattle.ebs_disk_store.specs.inner.Told.{IfSound}
use Rattle.ebs_service.specs.inner.Served.{OwnChain}
use Rattle.ebs_service.specs.inner.Fronts.{CallsStood}
use Rattle.ebs_commands.specs.Ticks.{Asked}
use Rattle.ebs_commands.specs.Samples.{Answers, AreAll, AreFrontOf, SampleEnds, StopAt, accepted_in, asked_in, asked_of, block_of, filled, moment_in, request_of, round_calls, rounds_below, sample_calls, zeros}
use Rattle.ebs_commands.specs.Collects.{CollectedAs, Promised, usage_of}
use Rattle.ebs_commands.specs.Lines.{sample_lines}
use Rattle.ebs_commands.specs.inner.Collects.{Collects, used}
use Rattle.ebs_commands.specs.inner.Samples.{IsSampled}
use Rattle.ebs_disk_store.specs.declared.collecting.Usage.{Usage}
use Rattle.ebs_disk_store.specs.declared.pointing.StoreStop.{StoreStop}
use Rattle.ebs_commands.specs.declared.ending.CommandEnd.{CommandEnd}
use Rattle.ebs_commands.specs.declared.ending.CommandEnd.TheVariants as ends
use Rattle.ebs_commands.specs.declared.rounds.SampleCall.{SampleCall}
use Rattle.ebs_commands.specs.declared.rounds.SampleCall.TheVariants.{CreateSnapshot, Delete, Write}
use Rattle.ebs_cli.specs.Left.{own_calls}
use Rattle.ebs_cli.specs.Told.{moment_at}
use Rattle.ebs_cli.specs.Done.{AgesBehind, EndsAt, FailsAt, IsSampledOn}
use Rattle.ebs_opening.proofs.Having.{has_new}
use Rattle.ebs_cli.proofs.Calling.{AreWithin, CommandedTo, Laws, chain_alike, chain_clean, chain_tells, chain_unleased, commanded_to, own_chain}
use Rattle.ebs_cli.proofs.Aging.{Laws as AgingLaws, all_left, collected_with, ends_at, kept_still, usage_is, writes_with}
use Rattle.ebs_cli.proofs.Slotted.{IsUnleased}
use Rattle.ebs_cli.proofs.Told.{kept_of, own_replies_are}
use Rattle.ebs_cli.proofs.Had.{all_made}

-- ---- the calls of a sample are within their limits

abbrev AreGood : List SampleCall → Type 0
AreGood cs = AllByRecursion (λ (c : SampleCall). bad_member (request_of c) ≡ None) cs

filled_length : (count byte : ℕ) → length (filled count byte) ≡ count
unfolding filled
filled_length count byte = length-replicate count byte

short : (n : ℕ) → n < 1000 → has_ten_digits n ≡ true
short n small = grind (arith, nat_tests)

sized : (n size : ℕ) → n ≡ size → (n == size) ≡ true
sized n size is = grind (arith, nat_tests)

passes : (test : Bool) (name : List ℕ) (next : Option (List ℕ)) → test ≡ true → next ≡ None → unless test name next ≡ None
passes true name next is rest = rest
passes false name next is rest = absurd cc

good_put : (index byte : ℕ) → index < 1000 → bad_put index (length (block_of byte)) ≡ None
good_put index byte small =
    passes (has_ten_digits index) (codes "blockIndex") (unless (length (block_of byte) == block_size) (codes "body") None) (short index small)
    (passes (length (block_of byte) == block_size) (codes "body") None (sized (length (block_of byte)) block_size (filled_length block_size byte)) refl)

good_deletion : (b : Bool) (r : ℕ) → AreGood (if b then Delete r ∷ [] else [])
good_deletion true r = (refl, tt)
good_deletion false r = tt

good_round : (r : ℕ) → AreGood (round_calls r)
good_round r =
    let least : r % 16 < 16 = mod-lt r (omega arith) in
    (refl, (good_put (r % 16) (r % 256) (omega (arith, least)), (good_put 100 (r % 7) (omega arith), (refl, (good_put 0 (255 - r % 256) (omega arith), good_deletion (r % 3 == 2) r)))))

good_both : (xs ys : List SampleCall) → AreGood xs → AreGood ys → AreGood (xs ++ ys)
good_both [] ys first second = second
good_both (x ∷ xs) ys (good, rest) second = (good, good_both xs ys rest second)

good_rounds : (n : ℕ) → AreGood (rounds_below n)
good_rounds zero = tt
good_rounds (suc n) = good_both (rounds_below n) (round_calls n) (good_rounds n) (good_round n)

good_sample : (n : ℕ) → AreGood (sample_calls n)
good_sample n = (refl, good_both (rounds_below n) (CreateSnapshot n ∷ Write n 9 ∷ []) (good_rounds n) (refl, (good_put 0 9 (omega arith), tt)))

-- ---- and so are those that were given

abbrev AreFit : List Asked → Type 0
AreFit xs = AllByRecursion (λ (a : Asked). bad_member a.request ≡ None) xs

fit_calls : (cs : List SampleCall) → AreGood cs → AreFit (map asked_of cs)
fit_calls [] good = tt
fit_calls (c ∷ cs) (good, rest) = (good, fit_calls cs rest)

fit_front : (xs ys : List Asked) → AreFit (xs ++ ys) → AreFit xs
fit_front [] ys fit = tt
fit_front (x ∷ xs) ys (fit, rest) = (fit, fit_front xs ys rest)

fit_answers : (xs : Answers) → AreFit (asked_in xs) → AreWithin xs
fit_answers [] fit = tt
fit_answers (x ∷ xs) (fit, rest) = (fit, fit_answers xs rest)

from_all : (cs : List SampleCall) (xs : Answers) → AreGood cs → map asked_of cs ≡ asked_in xs → AreWithin xs
from_all cs xs good is = fit_answers xs (subst AreFit is (fit_calls cs good))

from_front : (cs : List SampleCall) (xs : Answers) → AreGood cs → AreFrontOf cs xs → AreWithin xs
from_front cs xs good (rest, is) = fit_answers xs (fit_front (asked_in xs) rest (subst AreFit is (fit_calls cs good)))

front_of : (end : CommandEnd) (cs : List SampleCall) (xs : Answers) → StopAt end cs xs → AreFrontOf cs xs
front_of ends.DiskFailed cs xs stop = stop.0
front_of ends.Memory cs xs stop = stop.0
front_of ends.Done cs xs stop = absurd stop
front_of ends.OutputFailed cs xs stop = absurd stop
front_of ends.AlreadyMade cs xs stop = absurd stop
front_of ends.Damaged cs xs stop = absurd stop
front_of ends.Exhausted cs xs stop = absurd stop

given_within : {Nothing Collected : Type 0} (end : CommandEnd) (cs : List SampleCall) (xs : Answers) → AreGood cs → (StopAt end cs xs × Nothing) ⊎ (AreAll cs xs × Collected) → AreWithin xs
given_within end cs xs good (inl (stop, nothing)) = from_front cs xs good (front_of end cs xs stop)
given_within end cs xs good (inr (all, collected)) = from_all cs xs good all.0

-- ---- how a sample ends, told by what is kept

module _ {N Fa M Ga : Type 0} {E H : Result (Unit {0}) StoreStop → Type 0} (Faults : Type 0) (cs : List SampleCall) (xs : Answers) (old_usage new_usage : Usage) (nothing : N → M) (fails : AreAll cs xs → Fa → Ga)
    (finishes : AreAll cs xs → (r : Result (Unit {0}) StoreStop) → E r → H r) (same : (r : Result (Unit {0}) StoreStop) → E r → old_usage ≡ new_usage) (old new : Outlet) where
  abbrev Went : CommandEnd → Type 0
  Went end = (StopAt end cs xs × N) ⊎ (AreAll cs xs × CollectedAs end Fa E)

  abbrev lines_of : Usage → List ℕ
  lines_of usage = sample_lines (length xs) (accepted_in xs) usage

  went_as : (end : CommandEnd) → Went end → (StopAt end cs xs × M) ⊎ (AreAll cs xs × CollectedAs end Ga H)
  went_as end (inl (stop, none)) = inl (stop, nothing none)
  went_as end (inr (all, went)) = inr (all, collected_with Fa Ga E H (fails all) (finishes all) end went)

  lines_done : Went ends.Done → lines_of old_usage ≡ lines_of new_usage
  lines_done (inl (stop, none)) = absurd stop
  lines_done (inr (all, ended)) = ap lines_of (same (Ok tt) ended)

  lines_unput : Went ends.OutputFailed → lines_of old_usage ≡ lines_of new_usage
  lines_unput (inl (stop, none)) = absurd stop
  lines_unput (inr (all, ended)) = ap lines_of (same (Ok tt) ended)

  pub sample_ends : (end : CommandEnd) → SampleEnds end Faults N Fa E old_usage cs xs old new → SampleEnds end Faults M Ga H new_usage cs xs old new
  sample_ends end ended = record {
    went = went_as end ended.went;
    written = writes_with end (lines_of old_usage) (lines_of new_usage) old new (λ is. lines_done (subst Went is ended.went)) (λ is. lines_unput (subst Went is ended.went)) ended.written;
    rose = ended.rose;
  }

-- a store's records are no later than its clock
clock_early : (v : View) (s : Seen) → Fit v s → s.recorded.clock.second ≤ s.clock.second
clock_early v s fit = subst (λ (n : ℕ). n ≤ s.clock.second) (sym (ap (λ (m : Machine). m.clock.second) fit.right.kept)) fit.right.early

later : (a b c d : ℕ) → a ≡ b → b ≤ c → a ≤ max c d
later a b c d is early = omega (arith, is, early)

-- over an honest disk they are the machine's own steps, from the empty machine on
module _ {D : Type 0} (view : D → View) (sound : Type 0) (end : CommandEnd) (rounds : ℕ) (d e : D) (old new : Outlet) where
  within : (made : IsSampled view sound end rounds d e old new) → AreWithin made.answers
  within made = given_within end (sample_calls rounds) made.answers (good_sample rounds) made.ends.went

  abbrev pub stood_of : IsSampled view sound end rounds d e old new → Type 0
  stood_of made = OwnChain sound view (new_store zeros made.journal) made.mid (own_calls made.answers) made.last made.given
      → IfSound sound (view made.mid) (CallsStood (view made.mid) (view made.given) (new_store zeros made.journal) made.last (own_calls made.answers))

  abbrev sample_lives : IsSampled view sound end rounds d e old new → Type 0
  sample_lives made = sound → (view d).tells ≡ true → (view d).honest ≡ true → CommandedTo (empty_machine zeros) (view made.mid) (view made.given) made.last (own_calls made.answers)

  lives_on : (made : IsSampled view sound end rounds d e old new) → Laws → StandingRests → ((x : D) → IsTrueToItself (view x)) → stood_of made → sample_lives made
  lives_on made laws rests law stood is_sound told honest =
      let true_at : (view made.mid).honest ≡ true = made.ran.kept_honest ∙ honest in
      commanded_to laws (view made.mid) (view made.mid) (view made.given) (new_store zeros made.journal) made.last (empty_machine zeros) (own_calls made.answers) (law made.given)
      (chain_alike view sound made.answers made.mid made.given (new_store zeros made.journal) made.last made.chain ∙ true_at) (omega arith)
      (has_new (view made.mid) zeros made.journal (rests (λ a i. 0) (empty_machine no_secret) (unmade refl refl)))
      (λ all. leaves_not (view made.mid) (λ c. Stands c (empty_machine zeros)) (law made.mid) true_at all)
      (stood (own_chain view sound made.answers made.mid made.given (new_store zeros made.journal) made.last (within made) made.chain) is_sound (made.ran.told ∙ told) true_at)

  -- the collection behind them
  module _ (made : IsSampled view sound end rounds d e old new) (lives : sample_lives made) (laws : AgingLaws) where
    abbrev reading : ℕ
    reading = (moment_in rounds).second

    abbrev second : ℕ
    second = (moment_at (kept_of made.last) reading).second

    abbrev Ages : Type 0
    Ages = AgesBehind view sound d made.given e (λ is told honest. (lives is told honest).commanded.after.recorded) second

    unleased : IsUnleased made.last.slots
    unleased = chain_unleased view sound made.answers made.mid made.given (new_store zeros made.journal) made.last made.chain refl

    ages : AreAll (sample_calls rounds) made.answers → Collects view sound (moment_in rounds) made.given made.last e made.behind → Ages
    ages all collects = record {
      ran = collects.ran;
      leaves = λ is told honest.
          let to = lives is told honest in
          let tells = chain_tells view sound made.answers made.mid made.given (new_store zeros made.journal) made.last made.chain ∙ (made.ran.told ∙ told) in
          let true_at = chain_alike view sound made.answers made.mid made.given (new_store zeros made.journal) made.last made.chain ∙ (made.ran.kept_honest ∙ honest) in
          let early = clock_early (view made.given) made.last (made.fits is tells true_at) in
          all_left laws to.commanded.after.recorded second
          (later to.commanded.after.recorded.clock.second made.last.recorded.clock.second made.last.clock.second (min reading last_second) (ap (λ (m : Machine). m.clock.second) to.is) early)
          (view made.given) made.last (chain_clean view sound made.answers made.mid made.given (new_store zeros made.journal) made.last made.chain all.1 refl) (sym to.is) (view e) (collects.moments is tells true_at);
    }

    promised : Promised sound (view d) → Promised sound (view made.given)
    promised p = (
      p.0,
      chain_tells view sound made.answers made.mid made.given (new_store zeros made.journal) made.last made.chain ∙ (made.ran.told ∙ p.1),
      chain_alike view sound made.answers made.mid made.given (new_store zeros made.journal) made.last made.chain ∙ (made.ran.kept_honest ∙ p.2),
    )

    behind_unleased : made.behind.slots.leases ≡ made.last.slots.leases → used made.behind.slots ≡ usage_of (kept_of made.behind).state.slots 0
    behind_unleased same = usage_is made.behind (same ∙ unleased)

    pub ends_of : SampleEnds end (Rose (view d).faults (view e).faults) ((e ≡ made.given) × (kept_of made.behind ≡ kept_of made.last)) (Ages × FailsAt view made.given e (kept_of made.last) (kept_of made.behind))
        (λ point. Ages × EndsAt view (Promised sound (view d)) made.given e (kept_of made.last) (kept_of made.behind) reading point) (usage_of (kept_of made.behind).state.slots 0) (sample_calls rounds) made.answers old new
    ends_of = sample_ends _ (sample_calls rounds) made.answers (used made.behind.slots) (usage_of (kept_of made.behind).state.slots 0)
        (λ w. (w.0, ap kept_of w.1))
        (λ all w. (ages all w.0, (w.1.rose, kept_still sound (view made.given) (view e) made.last made.behind w.1)))
        (λ all point w. (ages all w.0, ends_at view sound (Promised sound (view d)) made.given e made.last made.behind (moment_in rounds) promised point w.1))
        (λ point w. behind_unleased w.1.finished.leases)
        old new end made.ends

  -- what was made and given, by what is kept of it
  pub sampled_on : (made : IsSampled view sound end rounds d e old new) → Laws → AgingLaws → StandingRests → ((x : D) → IsTrueToItself (view x)) → stood_of made
      → IfSound sound (view made.mid) (CallsStood (view made.mid) (view made.mid) (new_store zeros made.journal) (new_store zeros made.journal) []) → IsSampledOn view sound end rounds d e old new
  sampled_on made laws aging rests law stood begun =
      let lives = lives_on made laws rests law stood in
      record {
        mid = made.mid;
        begun = record { unmarked = made.unmarked; stands = λ is_sound told honest. all_made (view made.mid) zeros made.journal (law made.mid) honest (begun is_sound told honest) };
        ran = made.ran;
        begins = made.begins;
        answers = made.answers;
        given = made.given;
        last = kept_of made.last;
        replies = own_replies_are view sound (own_calls made.answers) (new_store zeros made.journal) made.last made.mid made.given (λ told. refl)
            (own_chain view sound made.answers made.mid made.given (new_store zeros made.journal) made.last (within made) made.chain);
        commanded = λ is told honest. (lives is told honest).commanded;
        behind = kept_of made.behind;
        ends = ends_of made lives aging;
      }
