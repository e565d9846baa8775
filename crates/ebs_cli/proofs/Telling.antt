-- What a status tells of a session.
use Rattle.std.proofs.Common.{◌≡◌, ◌⊎◌, inr, ℕ, ◌<◌, List, Some, None, refl, sym, ◌∙◌, arith, Option}
use Rattle.ebs_model.specs.Quotas.{Rose}
use Rattle.ebs_world.specs.Image.{Everywhere}
use Rattle.ebs_world.specs.View.{View, IsTrueToItself}
use Rattle.ebs_world.specs.inner.Runs.{leaves_not, ran_not, was_whole}
use Rattle.ebs_world.specs.Ends.{Outlet}
use Rattle.ebs_journal.specs.Opening.{OffMaking}
use Rattle.ebs_exchanges.specs.Exchanges.{Exchange}
use Rattle.ebs_disk_store.specs.Opened.{NoneNewOrOld, IsPromising}
use Rattle.ebs_commands.specs.declared.ending.CommandEnd.TheVariants as commands
use Rattle.ebs_disk_store.specs.declared.refusal.OpenRefusal.{OpenRefusal}
use Rattle.ebs_disk_store.specs.declared.refusal.OpenRefusal.TheVariants.{DiskFailed, NotMade, AlreadyMade, NotAJournal, BadVersion, BadRecord, BadCheckpoint, NotBuilt, Memory}
use Rattle.ebs_session.specs.Session.{TellsOf, status_of}
use Rattle.ebs_session.specs.inner.Session.{session_with}
use Rattle.ebs_session.specs.declared.end.End.{End}
use Rattle.ebs_session.specs.declared.end.End.TheVariants as ends
use Rattle.ebs_words.specs.declared.words.Command.{Command as Word}
use Rattle.ebs_cli.specs.Done.{MakesOne}
use Rattle.ebs_cli.specs.Keeps.{AreWhole}
use Rattle.ebs_cli.specs.OnDisk.{IsUnbegun, Played, answered, unbegun, WentOnDisk}
use Rattle.ebs_cli.specs.inner.OnDisk.{WentWhere}
use Rattle.ebs_cli.specs.Outcomes.{IsWhole, TellsFor, status_for, unready_at}
use Rattle.ebs_cli.specs.declared.outcome.Outcome.{Outcome}
use Rattle.ebs_cli.specs.declared.outcome.Outcome.TheVariants.{Unready, Session, Command}

-- over the disk that the promise is of, it is what the disk has
pub on_disk : (Untouched : Type 0) (Keeps : List Exchange → Type 0) (v w : View) (left_old left_new written_old written_new clock_old clock_new : Option (List ℕ)) (done : Outcome)
    → Played Untouched (λ xs. WentWhere (IsPromising v) v w xs × Keeps xs × AreWhole xs) v w left_old left_new written_old written_new clock_old clock_new done
    → Played Untouched (λ xs. WentOnDisk v w xs × Keeps xs × AreWhole xs) v w left_old left_new written_old written_new clock_old clock_new done
on_disk Untouched Keeps v w left_old left_new written_old written_new clock_old clock_new done (answered end is s) = answered end is (session_with (λ xs h. (
  record {
    tells = h.0.tells;
    honest = h.0.honest;
    counted = h.0.counted;
    went = λ told honest m stands. h.0.went (λ _ _. (m, stands)) told honest m stands;
  },
  h.1,
  h.2,
)) s)
on_disk Untouched Keeps v w left_old left_new written_old written_new clock_old clock_new done (unbegun refusal is why still) = unbegun refusal is why still

-- where the words weren't read nothing is begun
pub unread : (v : View) → IsTrueToItself v → IsUnbegun v v Memory
unread v law = record { cause = tt; opening = record { ran = ran_not OffMaking v law; unwritten = λ told marked. ran_not Everywhere v law }; stays = λ told honest m stands all c since. all c (law.only_now honest c since) }

-- and no store is made
pub none_made : (v : View) (secret : List ℕ) (outlet : Outlet) → IsTrueToItself v → MakesOne (Unit {0}) v v secret outlet outlet commands.Memory
none_made v secret outlet law = record {
  inits = (tt, refl);
  moments = λ told honest. leaves_not v (NoneNewOrOld v secret) law honest (λ c now. inr (inr (was_whole Everywhere v.may_leave c now)));
  opening = (unread v law).opening;
}

-- ---- the words

pub word_is : (found : Option Word) (a b : Word) → found ≡ Some a → found ≡ Some b → a ≡ b
word_is found a b is that = same (sym is ∙ that)
  where
    same : Some a ≡ Some b → a ≡ b
    same e = cc

pub no_word : {A : Type 0} (found : Option Word) (a : Word) → found ≡ None → found ≡ Some a → A
no_word found a is that = absurd (nothing (sym is ∙ that))
  where
    nothing : None ≡ Some a → ⊥
    nothing e = cc

-- ---- statuses

at_unready : {A : Type 0} (refusal : OpenRefusal) (n : ℕ) → unready_at refusal ≡ n → (n ≡ 2 → ⊥) → (n ≡ 3 → ⊥) → (n ≡ 8 → ⊥) → A
at_unready DiskFailed n is two three eight = absurd (two (sym is))
at_unready NotMade n is two three eight = absurd (three (sym is))
at_unready AlreadyMade n is two three eight = absurd (three (sym is))
at_unready (NotAJournal nine) n is two three eight = absurd (three (sym is))
at_unready (BadVersion version) n is two three eight = absurd (three (sym is))
at_unready (BadRecord place) n is two three eight = absurd (three (sym is))
at_unready BadCheckpoint n is two three eight = absurd (three (sym is))
at_unready NotBuilt n is two three eight = absurd (three (sym is))
at_unready Memory n is two three eight = absurd (eight (sym is))

-- what the statuses of a session's ends tell
pub record Statuses : Type 0 where
  pub source_fault : (end : End) (i j o p : ℕ) → TellsOf end i j o p → status_of end ≡ 4 → Rose i j × (p ≡ o)
  pub sink_fault : (end : End) (i j o p : ℕ) → TellsOf end i j o p → status_of end ≡ 5 → Rose o p × (j ≡ i)
  pub no_fault : (end : End) (i j o p : ℕ) → TellsOf end i j o p → status_of end ≡ 8 → (j ≡ i) × (p ≡ o)
  pub source_rose : (end : End) (i j o p : ℕ) → TellsOf end i j o p → i < j → status_of end ≡ 4
  pub sink_rose : (end : End) (i j o p : ℕ) → TellsOf end i j o p → o < p → status_of end ≡ 5
  pub whole : (end : End) → (end ≡ ends.Done) ⊎ (end ≡ ends.Memory) → (status_of end ≡ 0) ⊎ (status_of end ≡ 8)

pub source_fault : Statuses → (done : Outcome) (i j o p : ℕ) → TellsFor done i j o p → status_for done ≡ 4 → Rose i j × (p ≡ o)
source_fault s (Session end) i j o p tells is = s.source_fault end i j o p tells is
source_fault s (Unready refusal) i j o p tells is = at_unready refusal 4 is (λ e. omega (arith, e)) (λ e. omega (arith, e)) (λ e. omega (arith, e))
source_fault s (Command end) i j o p tells is = absurd tells

pub sink_fault : Statuses → (done : Outcome) (i j o p : ℕ) → TellsFor done i j o p → status_for done ≡ 5 → Rose o p × (j ≡ i)
sink_fault s (Session end) i j o p tells is = s.sink_fault end i j o p tells is
sink_fault s (Unready refusal) i j o p tells is = at_unready refusal 5 is (λ e. omega (arith, e)) (λ e. omega (arith, e)) (λ e. omega (arith, e))
sink_fault s (Command end) i j o p tells is = absurd tells

pub no_fault : Statuses → (done : Outcome) (i j o p : ℕ) → TellsFor done i j o p → status_for done ≡ 8 → (j ≡ i) × (p ≡ o)
no_fault s (Session end) i j o p tells is = s.no_fault end i j o p tells is
no_fault s (Unready refusal) i j o p tells is = tells
no_fault s (Command end) i j o p tells is = absurd tells

pub source_rose : Statuses → (done : Outcome) (i j o p : ℕ) → TellsFor done i j o p → i < j → status_for done ≡ 4
source_rose s (Session end) i j o p tells less = s.source_rose end i j o p tells less
source_rose s (Unready refusal) i j o p tells less = absurd (omega (arith, less, tells.0))
source_rose s (Command end) i j o p tells less = absurd tells

pub sink_rose : Statuses → (done : Outcome) (i j o p : ℕ) → TellsFor done i j o p → o < p → status_for done ≡ 5
sink_rose s (Session end) i j o p tells less = s.sink_rose end i j o p tells less
sink_rose s (Unready refusal) i j o p tells less = absurd (omega (arith, less, tells.1))
sink_rose s (Command end) i j o p tells less = absurd tells

-- ---- completeness

whole_unready : (refusal : OpenRefusal) → IsWhole (Unready refusal) → (unready_at refusal ≡ 0) ⊎ (unready_at refusal ≡ 8)
whole_unready DiskFailed may = absurd may
whole_unready NotMade may = absurd may
whole_unready AlreadyMade may = absurd may
whole_unready (NotAJournal nine) may = absurd may
whole_unready (BadVersion version) may = absurd may
whole_unready (BadRecord place) may = absurd may
whole_unready BadCheckpoint may = absurd may
whole_unready NotBuilt may = absurd may
whole_unready Memory may = inr refl

pub whole : Statuses → (done : Outcome) → IsWhole done → (status_for done ≡ 0) ⊎ (status_for done ≡ 8)
whole s (Session end) done = s.whole end done
whole s (Unready refusal) done = whole_unready refusal done
whole s (Command end) done = absurd done
