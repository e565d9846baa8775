use Rattle.std.proofs.Common.{◌≡◌, ◌⊎◌, ◌∙◌, inr, refl, sym, ap, subst, ℕ, Some}
use Rattle.ebs_words.specs.declared.words.Command.{Command as Word}
use Rattle.ebs_words.specs.declared.words.Command.TheVariants as words
use Rattle.ebs_commands.specs.declared.ending.CommandEnd.TheVariants as ends
use Rattle.ebs_disk_store.specs.declared.refusal.OpenRefusal.TheVariants.{Memory}
use Rattle.ebs_cli.specs.OnDisk.{unbegun}
use Rattle.ebs_cli.specs.Done as done
use Rattle.ebs_cli.specs.Outcomes.{status_for}
use Rattle.ebs_cli.specs.Refusals.{CantBeDone, SaysUndone}
use Rattle.ebs_cli.specs.declared.outcome.Outcome.TheVariants.{Unready}
use Rattle.ebs_cli.proofs.Telling as lemma
use Rattle.ebs_cli.proofs.command.run.Goals as goal

pub returns-in-Err-clause-session : goal.returns-in-Err-clause-session
returns-in-Err-clause-session g c = λ _. (Unready Memory, refl, unbegun Memory refl (lemma.unread (g.D.Disk.view c.args.disk.now) (g.met.D.Disk.true_to_itself c.args.disk.now)) (refl, refl, refl))

pub returns-in-Ok-Some-clause-other_words : goal.returns-in-Ok-Some-clause-other_words
returns-in-Ok-Some-clause-other_words g c = λ none. absurd (none c.in-Ok-Some.command ((c.in-Ok-Some.ensures c.in-Ok-Some.command).0 c.in-Ok-Some.field-0-is))

pub returns-in-Ok-Some-clause-untouched : goal.returns-in-Ok-Some-clause-untouched
returns-in-Ok-Some-clause-untouched g c = λ none _. absurd (none c.in-Ok-Some.command ((c.in-Ok-Some.ensures c.in-Ok-Some.command).0 c.in-Ok-Some.field-0-is))

pub returns-in-Ok-Some-clause-session : goal.returns-in-Ok-Some-clause-session
returns-in-Ok-Some-clause-session g c = λ spelled. (
  c.run_command.result,
  c.status.ensures,
  c.run_command.ensures.session (lemma.word_is c.in-Ok-Some.field-0 c.in-Ok-Some.command words.Session c.in-Ok-Some.field-0-is ((c.in-Ok-Some.ensures words.Session).1 spelled)),
)

pub returns-in-Ok-Some-clause-source_fault : goal.returns-in-Ok-Some-clause-source_fault
returns-in-Ok-Some-clause-source_fault g c = λ spelled is. lemma.source_fault (record { source_fault = c.statuses.ensures.source_fault; sink_fault = c.statuses.ensures.sink_fault; no_fault = c.statuses.ensures.no_fault; source_rose = c.statuses.ensures.source_rose; sink_rose = c.statuses.ensures.sink_rose; whole = c.statuses.ensures.whole })
    c.run_command.result _ _ _ _ (c.run_command.ensures.tells (lemma.word_is c.in-Ok-Some.field-0 c.in-Ok-Some.command words.Session c.in-Ok-Some.field-0-is ((c.in-Ok-Some.ensures words.Session).1 spelled))) (sym c.status.ensures ∙ is)

pub returns-in-Ok-Some-clause-sink_fault : goal.returns-in-Ok-Some-clause-sink_fault
returns-in-Ok-Some-clause-sink_fault g c = λ spelled is. lemma.sink_fault (record { source_fault = c.statuses.ensures.source_fault; sink_fault = c.statuses.ensures.sink_fault; no_fault = c.statuses.ensures.no_fault; source_rose = c.statuses.ensures.source_rose; sink_rose = c.statuses.ensures.sink_rose; whole = c.statuses.ensures.whole })
    c.run_command.result _ _ _ _ (c.run_command.ensures.tells (lemma.word_is c.in-Ok-Some.field-0 c.in-Ok-Some.command words.Session c.in-Ok-Some.field-0-is ((c.in-Ok-Some.ensures words.Session).1 spelled))) (sym c.status.ensures ∙ is)

pub returns-in-Ok-Some-clause-source_rose : goal.returns-in-Ok-Some-clause-source_rose
returns-in-Ok-Some-clause-source_rose g c = λ spelled less. c.status.ensures ∙ lemma.source_rose (record { source_fault = c.statuses.ensures.source_fault; sink_fault = c.statuses.ensures.sink_fault; no_fault = c.statuses.ensures.no_fault; source_rose = c.statuses.ensures.source_rose; sink_rose = c.statuses.ensures.sink_rose; whole = c.statuses.ensures.whole })
    c.run_command.result _ _ _ _ (c.run_command.ensures.tells (lemma.word_is c.in-Ok-Some.field-0 c.in-Ok-Some.command words.Session c.in-Ok-Some.field-0-is ((c.in-Ok-Some.ensures words.Session).1 spelled))) less

pub returns-in-Ok-Some-clause-sink_rose : goal.returns-in-Ok-Some-clause-sink_rose
returns-in-Ok-Some-clause-sink_rose g c = λ spelled less. c.status.ensures ∙ lemma.sink_rose (record { source_fault = c.statuses.ensures.source_fault; sink_fault = c.statuses.ensures.sink_fault; no_fault = c.statuses.ensures.no_fault; source_rose = c.statuses.ensures.source_rose; sink_rose = c.statuses.ensures.sink_rose; whole = c.statuses.ensures.whole })
    c.run_command.result _ _ _ _ (c.run_command.ensures.tells (lemma.word_is c.in-Ok-Some.field-0 c.in-Ok-Some.command words.Session c.in-Ok-Some.field-0-is ((c.in-Ok-Some.ensures words.Session).1 spelled))) less

pub returns-in-Ok-Some-clause-no_fault : goal.returns-in-Ok-Some-clause-no_fault
returns-in-Ok-Some-clause-no_fault g c = λ spelled is. lemma.no_fault (record { source_fault = c.statuses.ensures.source_fault; sink_fault = c.statuses.ensures.sink_fault; no_fault = c.statuses.ensures.no_fault; source_rose = c.statuses.ensures.source_rose; sink_rose = c.statuses.ensures.sink_rose; whole = c.statuses.ensures.whole })
    c.run_command.result _ _ _ _ (c.run_command.ensures.tells (lemma.word_is c.in-Ok-Some.field-0 c.in-Ok-Some.command words.Session c.in-Ok-Some.field-0-is ((c.in-Ok-Some.ensures words.Session).1 spelled))) (sym c.status.ensures ∙ is)

pub returns-in-Ok-Some-clause-complete : goal.returns-in-Ok-Some-clause-complete
returns-in-Ok-Some-clause-complete g c = λ spelled text messages told splits few no_input no_output no_disk tells m stands.
    subst (λ (n : ℕ). (n ≡ 0) ⊎ (n ≡ 8)) (sym c.status.ensures)
    (lemma.whole (record { source_fault = c.statuses.ensures.source_fault; sink_fault = c.statuses.ensures.sink_fault; no_fault = c.statuses.ensures.no_fault; source_rose = c.statuses.ensures.source_rose; sink_rose = c.statuses.ensures.sink_rose; whole = c.statuses.ensures.whole })
    c.run_command.result
    (c.run_command.ensures.complete (lemma.word_is c.in-Ok-Some.field-0 c.in-Ok-Some.command words.Session c.in-Ok-Some.field-0-is ((c.in-Ok-Some.ensures words.Session).1 spelled)) text messages told splits few no_input no_output no_disk tells m stands))

pub returns-in-Ok-None-clause-session : goal.returns-in-Ok-None-clause-session
returns-in-Ok-None-clause-session g c = λ spelled. lemma.no_word c.in-Ok-None.field-0 words.Session c.in-Ok-None.field-0-is ((c.in-Ok-None.ensures words.Session).1 spelled)

pub returns-in-Ok-None-clause-sink_rose : goal.returns-in-Ok-None-clause-sink_rose
returns-in-Ok-None-clause-sink_rose g c = λ spelled. lemma.no_word c.in-Ok-None.field-0 words.Session c.in-Ok-None.field-0-is ((c.in-Ok-None.ensures words.Session).1 spelled)

pub returns-in-Ok-None-clause-complete : goal.returns-in-Ok-None-clause-complete
returns-in-Ok-None-clause-complete g c = λ spelled. lemma.no_word c.in-Ok-None.field-0 words.Session c.in-Ok-None.field-0-is ((c.in-Ok-None.ensures words.Session).1 spelled)

pub returns-in-Err-clause-tick : goal.returns-in-Err-clause-tick
returns-in-Err-clause-tick g c = λ _. (Unready Memory, refl, done.unbegun Memory refl (lemma.unread (g.D.Disk.view c.args.disk.now) (g.met.D.Disk.true_to_itself c.args.disk.now)) (refl, refl))

pub returns-in-Err-clause-init : goal.returns-in-Err-clause-init
returns-in-Err-clause-init g c = λ secret _. (ends.Memory, refl, lemma.none_made (g.D.Disk.view c.args.disk.now) secret (g.O.Sink.outlet c.args.output.now) (g.met.D.Disk.true_to_itself c.args.disk.now))

pub returns-in-Err-clause-sample : goal.returns-in-Err-clause-sample
returns-in-Err-clause-sample g c = λ rounds _. (ends.Memory, refl, done.starved refl refl refl)

pub returns-in-Err-clause-check : goal.returns-in-Err-clause-check
returns-in-Err-clause-check g c = λ _. (Unready Memory, refl, done.unbegun Memory refl (lemma.unread (g.D.Disk.view c.args.disk.now) (g.met.D.Disk.true_to_itself c.args.disk.now)) refl)

pub returns-in-Ok-Some-clause-init : goal.returns-in-Ok-Some-clause-init
returns-in-Ok-Some-clause-init g c = λ secret spelled.
    let by = c.run_command.ensures.init secret (lemma.word_is c.in-Ok-Some.field-0 c.in-Ok-Some.command (words.Init secret) c.in-Ok-Some.field-0-is ((c.in-Ok-Some.ensures (words.Init secret)).1 spelled)) in
    (by.0, c.status.ensures ∙ ap status_for by.1, by.2)

pub returns-in-Ok-Some-clause-sample : goal.returns-in-Ok-Some-clause-sample
returns-in-Ok-Some-clause-sample g c = λ rounds spelled.
    let by = c.run_command.ensures.sample rounds (lemma.word_is c.in-Ok-Some.field-0 c.in-Ok-Some.command (words.Sample rounds) c.in-Ok-Some.field-0-is ((c.in-Ok-Some.ensures (words.Sample rounds)).1 spelled)) in
    (by.0, c.status.ensures ∙ ap status_for by.1, by.2)

pub returns-in-Ok-Some-clause-tick : goal.returns-in-Ok-Some-clause-tick
returns-in-Ok-Some-clause-tick g c = λ spelled. (
  c.run_command.result,
  c.status.ensures,
  c.run_command.ensures.tick (lemma.word_is c.in-Ok-Some.field-0 c.in-Ok-Some.command words.Tick c.in-Ok-Some.field-0-is ((c.in-Ok-Some.ensures words.Tick).1 spelled)),
)

pub returns-in-Ok-Some-clause-check : goal.returns-in-Ok-Some-clause-check
returns-in-Ok-Some-clause-check g c = λ spelled. (
  c.run_command.result,
  c.status.ensures,
  c.run_command.ensures.check (lemma.word_is c.in-Ok-Some.field-0 c.in-Ok-Some.command words.Check c.in-Ok-Some.field-0-is ((c.in-Ok-Some.ensures words.Check).1 spelled)),
)

pub returns-in-Ok-Some-clause-input : goal.returns-in-Ok-Some-clause-input
returns-in-Ok-Some-clause-input g c = λ other. c.run_command.ensures.input (λ is. other ((c.in-Ok-Some.ensures words.Session).0 (c.in-Ok-Some.field-0-is ∙ ap Some is)))

pub returns-in-Ok-Some-clause-clock : goal.returns-in-Ok-Some-clause-clock
returns-in-Ok-Some-clause-clock g c = λ other no_tick no_collect. c.run_command.ensures.clock (λ is. other ((c.in-Ok-Some.ensures words.Session).0 (c.in-Ok-Some.field-0-is ∙ ap Some is)))
    (λ is. no_tick ((c.in-Ok-Some.ensures words.Tick).0 (c.in-Ok-Some.field-0-is ∙ ap Some is)))
    (λ is. no_collect ((c.in-Ok-Some.ensures words.Collect).0 (c.in-Ok-Some.field-0-is ∙ ap Some is)))

pub returns-in-Ok-None-clause-init : goal.returns-in-Ok-None-clause-init
returns-in-Ok-None-clause-init g c = λ secret spelled. lemma.no_word c.in-Ok-None.field-0 (words.Init secret) c.in-Ok-None.field-0-is ((c.in-Ok-None.ensures (words.Init secret)).1 spelled)

pub returns-in-Ok-None-clause-sample : goal.returns-in-Ok-None-clause-sample
returns-in-Ok-None-clause-sample g c = λ rounds spelled. lemma.no_word c.in-Ok-None.field-0 (words.Sample rounds) c.in-Ok-None.field-0-is ((c.in-Ok-None.ensures (words.Sample rounds)).1 spelled)

pub returns-in-Ok-None-clause-tick : goal.returns-in-Ok-None-clause-tick
returns-in-Ok-None-clause-tick g c = λ spelled. lemma.no_word c.in-Ok-None.field-0 words.Tick c.in-Ok-None.field-0-is ((c.in-Ok-None.ensures words.Tick).1 spelled)

pub returns-in-Ok-None-clause-check : goal.returns-in-Ok-None-clause-check
returns-in-Ok-None-clause-check g c = λ spelled. lemma.no_word c.in-Ok-None.field-0 words.Check c.in-Ok-None.field-0-is ((c.in-Ok-None.ensures words.Check).1 spelled)

pub returns-in-Ok-Some-clause-refused : goal.returns-in-Ok-Some-clause-refused
returns-in-Ok-Some-clause-refused g c = λ three. (
  c.in-Ok-Some.command,
  (c.in-Ok-Some.ensures c.in-Ok-Some.command).0 c.in-Ok-Some.field-0-is,
  c.run_command.ensures.refused (sym c.status.ensures ∙ three),
)

pub returns-in-Ok-Some-clause-refuses : goal.returns-in-Ok-Some-clause-refuses
returns-in-Ok-Some-clause-refuses g c = λ command spelled told cant.
    let is = lemma.word_is c.in-Ok-Some.field-0 c.in-Ok-Some.command command c.in-Ok-Some.field-0-is ((c.in-Ok-Some.ensures command).1 spelled) in
    subst (λ (n : ℕ). SaysUndone n (g.D.Disk.view c.args.disk.now) (g.D.Disk.view c.run_command.new.disk)) (sym c.status.ensures)
    (c.run_command.ensures.refuses told (subst (λ (w : Word). CantBeDone w (g.D.Disk.view c.args.disk.now)) (sym is) cant))

pub returns-in-Err-clause-refuses : goal.returns-in-Err-clause-refuses
returns-in-Err-clause-refuses g c = λ command spelled told cant. inr (inr refl)

pub returns-in-Ok-None-clause-refuses : goal.returns-in-Ok-None-clause-refuses
returns-in-Ok-None-clause-refuses g c = λ command spelled told cant. lemma.no_word c.in-Ok-None.field-0 command c.in-Ok-None.field-0-is ((c.in-Ok-None.ensures command).1 spelled)

pub returns-in-Err-clause-collect : goal.returns-in-Err-clause-collect
returns-in-Err-clause-collect g c = λ _. (Unready Memory, refl, done.unbegun Memory refl (lemma.unread (g.D.Disk.view c.args.disk.now) (g.met.D.Disk.true_to_itself c.args.disk.now)) (refl, refl))

pub returns-in-Err-clause-used : goal.returns-in-Err-clause-used
returns-in-Err-clause-used g c = λ _. (Unready Memory, refl, done.unbegun Memory refl (lemma.unread (g.D.Disk.view c.args.disk.now) (g.met.D.Disk.true_to_itself c.args.disk.now)) refl)

pub returns-in-Ok-Some-clause-collect : goal.returns-in-Ok-Some-clause-collect
returns-in-Ok-Some-clause-collect g c = λ spelled. (
  c.run_command.result,
  c.status.ensures,
  c.run_command.ensures.collect (lemma.word_is c.in-Ok-Some.field-0 c.in-Ok-Some.command words.Collect c.in-Ok-Some.field-0-is ((c.in-Ok-Some.ensures words.Collect).1 spelled)),
)

pub returns-in-Ok-Some-clause-used : goal.returns-in-Ok-Some-clause-used
returns-in-Ok-Some-clause-used g c = λ spelled. (
  c.run_command.result,
  c.status.ensures,
  c.run_command.ensures.used (lemma.word_is c.in-Ok-Some.field-0 c.in-Ok-Some.command words.Usage c.in-Ok-Some.field-0-is ((c.in-Ok-Some.ensures words.Usage).1 spelled)),
)

pub returns-in-Ok-None-clause-collect : goal.returns-in-Ok-None-clause-collect
returns-in-Ok-None-clause-collect g c = λ spelled. lemma.no_word c.in-Ok-None.field-0 words.Collect c.in-Ok-None.field-0-is ((c.in-Ok-None.ensures words.Collect).1 spelled)

pub returns-in-Ok-None-clause-used : goal.returns-in-Ok-None-clause-used
returns-in-Ok-None-clause-used g c = λ spelled. lemma.no_word c.in-Ok-None.field-0 words.Usage c.in-Ok-None.field-0-is ((c.in-Ok-None.ensures words.Usage).1 spelled)

pub returns-in-Ok-Some-clause-exhausted : goal.returns-in-Ok-Some-clause-exhausted
returns-in-Ok-Some-clause-exhausted g c = λ twelve. (
  c.in-Ok-Some.command,
  (c.in-Ok-Some.ensures c.in-Ok-Some.command).0 c.in-Ok-Some.field-0-is,
  c.run_command.ensures.exhausted (sym c.status.ensures ∙ twelve),
)
