use Rattle.std.proofs.Common.{refl, sym, subst, ℕ, List}
use Rattle.ebs_words.specs.declared.words.Command.{Command as Word}
use Rattle.ebs_cli.specs.Done.{MakesOne, SamplesAll}
use Rattle.ebs_cli.specs.Refusals.{CantBeDone, IsRefused, WritesCheckpoint}
use Rattle.ebs_cli.proofs.Refusing as lemma
use Rattle.ebs_cli.proofs.Sampling.{rounds_are, sample_refused, sample_rose, secret_is}
use Rattle.ebs_cli.proofs.Telling.{on_disk}
use Rattle.ebs_cli.proofs.command.run_command.Goals as goal

pub returns-in-Session-clause-session : goal.returns-in-Session-clause-session
returns-in-Session-clause-session g c = λ _. on_disk _ _ (g.D.Disk.view c.args.disk.now) (g.D.Disk.view c.session_on_disk.new.disk) _ _ _ _ _ _ c.session_on_disk.result c.session_on_disk.ensures.played

pub returns-in-Init-clause-init : goal.returns-in-Init-clause-init
returns-in-Init-clause-init g c = λ secret is. (
  c.init_on_disk.result,
  refl,
  subst (λ (s : List ℕ). MakesOne (Unit {0}) (g.D.Disk.view c.args.disk.now) (g.D.Disk.view c.init_on_disk.new.disk) s (g.O.Sink.outlet c.args.output.now) (g.O.Sink.outlet c.init_on_disk.new.output) c.init_on_disk.result)
      (secret_is c.args.command c.in-Init.secret secret c.in-Init.is is) c.init_on_disk.ensures,
)

pub returns-in-Sample-clause-sample : goal.returns-in-Sample-clause-sample
returns-in-Sample-clause-sample g c = λ rounds is. (
  c.sample_on_disk.result,
  refl,
  subst (λ (n : ℕ). SamplesAll g.D.Disk.view (Unit {0}) n c.args.disk.now c.sample_on_disk.new.disk (g.O.Sink.outlet c.args.output.now) (g.O.Sink.outlet c.sample_on_disk.new.output) c.sample_on_disk.result)
      (rounds_are c.args.command c.in-Sample.rounds rounds c.in-Sample.is is) c.sample_on_disk.ensures,
)

pub returns-in-Sample-clause-disk_fault : goal.returns-in-Sample-clause-disk_fault
returns-in-Sample-clause-disk_fault g c =
    sample_rose g.D.Disk.view (Unit {0}) c.in-Sample.rounds c.args.disk.now c.sample_on_disk.new.disk (g.O.Sink.outlet c.args.output.now) (g.O.Sink.outlet c.sample_on_disk.new.output) c.sample_on_disk.result c.sample_on_disk.ensures

pub returns-in-Sample-clause-refused : goal.returns-in-Sample-clause-refused
returns-in-Sample-clause-refused g c = λ three.
    subst (λ (w : Word). IsRefused w (g.D.Disk.view c.args.disk.now) (g.D.Disk.view c.sample_on_disk.new.disk)) (sym c.in-Sample.is)
    (sample_refused g.D.Disk.view (Unit {0}) c.in-Sample.rounds c.args.disk.now c.sample_on_disk.new.disk (g.O.Sink.outlet c.args.output.now) (g.O.Sink.outlet c.sample_on_disk.new.output) c.sample_on_disk.result c.sample_on_disk.ensures three)

pub returns-in-Sample-clause-refuses : goal.returns-in-Sample-clause-refuses
returns-in-Sample-clause-refuses g c = λ told cant.
    lemma.sample_says g.D.Disk.view (Unit {0}) c.sample_on_disk.result c.in-Sample.rounds c.args.disk.now c.sample_on_disk.new.disk (g.O.Sink.outlet c.args.output.now) (g.O.Sink.outlet c.sample_on_disk.new.output) told
    (subst (λ (w : Word). CantBeDone w (g.D.Disk.view c.args.disk.now)) c.in-Sample.is cant) c.sample_on_disk.ensures

pub returns-in-Init-clause-refused : goal.returns-in-Init-clause-refused
returns-in-Init-clause-refused g c = λ three.
    subst (λ (w : Word). IsRefused w (g.D.Disk.view c.args.disk.now) (g.D.Disk.view c.init_on_disk.new.disk)) (sym c.in-Init.is)
    (lemma.init_refused c.init_on_disk.result _ (g.D.Disk.view c.args.disk.now) (g.D.Disk.view c.init_on_disk.new.disk) (g.O.Sink.outlet c.args.output.now) (g.O.Sink.outlet c.init_on_disk.new.output) c.init_on_disk.ensures.inits three)

pub returns-in-Init-clause-refuses : goal.returns-in-Init-clause-refuses
returns-in-Init-clause-refuses g c = λ told cant.
    lemma.init_says c.init_on_disk.result (Unit {0}) (g.D.Disk.view c.args.disk.now) (g.D.Disk.view c.init_on_disk.new.disk) c.in-Init.secret (g.O.Sink.outlet c.args.output.now) (g.O.Sink.outlet c.init_on_disk.new.output) told
    (subst (λ (w : Word). CantBeDone w (g.D.Disk.view c.args.disk.now)) c.in-Init.is cant) c.init_on_disk.ensures.inits

pub returns-in-Session-clause-refused : goal.returns-in-Session-clause-refused
returns-in-Session-clause-refused g c = λ three.
    subst (λ (w : Word). IsRefused w (g.D.Disk.view c.args.disk.now) (g.D.Disk.view c.session_on_disk.new.disk)) (sym c.in-Session.is)
    (lemma.session_refused _ _ (g.D.Disk.view c.args.disk.now) (g.D.Disk.view c.session_on_disk.new.disk) _ _ _ _ _ _ c.session_on_disk.result c.session_on_disk.ensures.played three)

pub returns-in-Session-clause-refuses : goal.returns-in-Session-clause-refuses
returns-in-Session-clause-refuses g c = λ told cant.
    lemma.session_says _ _ (g.D.Disk.view c.args.disk.now) (g.D.Disk.view c.session_on_disk.new.disk) _ _ _ _ _ _ c.session_on_disk.result c.session_on_disk.ensures.played
    (subst (λ (w : Word). CantBeDone w (g.D.Disk.view c.args.disk.now)) c.in-Session.is cant) (λ xs went. (went.1.kept, went.1.had.read told))

pub returns-in-Tick-clause-refused : goal.returns-in-Tick-clause-refused
returns-in-Tick-clause-refused g c = λ three.
    subst (λ (w : Word). IsRefused w (g.D.Disk.view c.args.disk.now) (g.D.Disk.view c.tick_on_disk.new.disk)) (sym c.in-Tick.is)
    (lemma.tick_refused g.D.Disk.view _ _ c.args.disk.now c.tick_on_disk.new.disk _ _ c.tick_on_disk.result _ _ c.tick_on_disk.ensures three)

pub returns-in-Tick-clause-refuses : goal.returns-in-Tick-clause-refuses
returns-in-Tick-clause-refuses g c = λ told cant.
    lemma.done_says g.D.Disk.view _ _ c.args.disk.now c.tick_on_disk.new.disk c.tick_on_disk.result told (subst (λ (w : Word). CantBeDone w (g.D.Disk.view c.args.disk.now)) c.in-Tick.is cant) c.tick_on_disk.ensures

pub returns-in-Check-clause-refused : goal.returns-in-Check-clause-refused
returns-in-Check-clause-refused g c = λ three.
    subst (λ (w : Word). IsRefused w (g.D.Disk.view c.args.disk.now) (g.D.Disk.view c.check_on_disk.new.disk)) (sym c.in-Check.is)
    (lemma.check_refused g.D.Disk.view _ _ c.args.disk.now c.check_on_disk.new.disk _ _ c.check_on_disk.result c.check_on_disk.ensures three)

pub returns-in-Check-clause-refuses : goal.returns-in-Check-clause-refuses
returns-in-Check-clause-refuses g c = λ told cant.
    lemma.done_says g.D.Disk.view _ _ c.args.disk.now c.check_on_disk.new.disk c.check_on_disk.result told (subst (λ (w : Word). CantBeDone w (g.D.Disk.view c.args.disk.now)) c.in-Check.is cant) c.check_on_disk.ensures

pub returns-in-Collect-clause-refused : goal.returns-in-Collect-clause-refused
returns-in-Collect-clause-refused g c = λ three.
    subst (λ (w : Word). IsRefused w (g.D.Disk.view c.args.disk.now) (g.D.Disk.view c.collect_on_disk.new.disk)) (sym c.in-Collect.is)
    (lemma.collect_refused g.D.Disk.view _ _ c.args.disk.now c.collect_on_disk.new.disk _ _ c.collect_on_disk.result _ _ c.collect_on_disk.ensures three)

pub returns-in-Collect-clause-refuses : goal.returns-in-Collect-clause-refuses
returns-in-Collect-clause-refuses g c = λ told cant.
    lemma.done_says g.D.Disk.view _ _ c.args.disk.now c.collect_on_disk.new.disk c.collect_on_disk.result told (subst (λ (w : Word). CantBeDone w (g.D.Disk.view c.args.disk.now)) c.in-Collect.is cant) c.collect_on_disk.ensures

pub returns-in-Usage-clause-refused : goal.returns-in-Usage-clause-refused
returns-in-Usage-clause-refused g c = λ three.
    subst (λ (w : Word). IsRefused w (g.D.Disk.view c.args.disk.now) (g.D.Disk.view c.usage_on_disk.new.disk)) (sym c.in-Usage.is)
    (lemma.usage_refused g.D.Disk.view (Unit {0}) _ c.args.disk.now c.usage_on_disk.new.disk _ _ c.usage_on_disk.result c.usage_on_disk.ensures three)

pub returns-in-Usage-clause-refuses : goal.returns-in-Usage-clause-refuses
returns-in-Usage-clause-refuses g c = λ told cant.
    lemma.done_says g.D.Disk.view _ _ c.args.disk.now c.usage_on_disk.new.disk c.usage_on_disk.result told (subst (λ (w : Word). CantBeDone w (g.D.Disk.view c.args.disk.now)) c.in-Usage.is cant) c.usage_on_disk.ensures

pub returns-in-Collect-clause-disk_fault : goal.returns-in-Collect-clause-disk_fault
returns-in-Collect-clause-disk_fault g c = λ two.
    lemma.collect_rose g.D.Disk.view _ _ c.args.disk.now c.collect_on_disk.new.disk _ _ _ _ c.collect_on_disk.result c.collect_on_disk.ensures two

pub returns-in-Session-clause-exhausted : goal.returns-in-Session-clause-exhausted
returns-in-Session-clause-exhausted g c = λ twelve.
    absurd (lemma.session_never _ _ (g.D.Disk.view c.args.disk.now) (g.D.Disk.view c.session_on_disk.new.disk) _ _ _ _ _ _ c.session_on_disk.result c.session_on_disk.ensures.played twelve)

pub returns-in-Init-clause-exhausted : goal.returns-in-Init-clause-exhausted
returns-in-Init-clause-exhausted g c = λ twelve.
    absurd (lemma.init_never c.init_on_disk.result _ (g.D.Disk.view c.args.disk.now) (g.D.Disk.view c.init_on_disk.new.disk) (g.O.Sink.outlet c.args.output.now) (g.O.Sink.outlet c.init_on_disk.new.output) c.init_on_disk.ensures.inits twelve)

pub returns-in-Tick-clause-exhausted : goal.returns-in-Tick-clause-exhausted
returns-in-Tick-clause-exhausted g c = λ twelve. absurd (lemma.tick_never g.D.Disk.view _ c.args.disk.now c.tick_on_disk.new.disk c.tick_on_disk.result _ _ _ _ _ c.tick_on_disk.ensures twelve)

pub returns-in-Check-clause-exhausted : goal.returns-in-Check-clause-exhausted
returns-in-Check-clause-exhausted g c = λ twelve. absurd (lemma.check_never g.D.Disk.view _ c.args.disk.now c.check_on_disk.new.disk c.check_on_disk.result _ _ _ c.check_on_disk.ensures twelve)

pub returns-in-Usage-clause-exhausted : goal.returns-in-Usage-clause-exhausted
returns-in-Usage-clause-exhausted g c = λ twelve. absurd (lemma.usage_never g.D.Disk.view _ c.args.disk.now c.usage_on_disk.new.disk c.usage_on_disk.result _ _ c.usage_on_disk.ensures twelve)

pub returns-in-Collect-clause-exhausted : goal.returns-in-Collect-clause-exhausted
returns-in-Collect-clause-exhausted g c = λ twelve. subst WritesCheckpoint (sym c.in-Collect.is) tt

pub returns-in-Sample-clause-exhausted : goal.returns-in-Sample-clause-exhausted
returns-in-Sample-clause-exhausted g c = λ twelve. subst WritesCheckpoint (sym c.in-Sample.is) tt
