use Rattle.std.proofs.Common.{◌≡◌, ◌∙◌, ℕ, Err, length, refl, ap, rules}
use Rattle.ebs_world.specs.Image.{Everywhere}
use Rattle.ebs_world.specs.inner.Runs.{ran_not}
use Rattle.ebs_commands.specs.Lines.{sample_lines}
use Rattle.ebs_commands.specs.inner.Samples.{unmade}
use Rattle.ebs_commands.proofs.Sampled.{few, told, uncounted, untold}
use Rattle.ebs_commands.proofs.sampling.sample_and_print.Goals as goal

pub give_and_collect-requires-clause-few : goal.give_and_collect-requires-clause-few
give_and_collect-requires-clause-few g c = few c.args.rounds c.as_slice.result.now c.ranges.rounds.fits (c.as_slice.ensures.value ∙ c.in-Ok.ensures)

pub returns-in_err-store-clause-sampled : goal.returns-in_err-store-clause-sampled
returns-in_err-store-clause-sampled g c =
    let is : c.from_residual.result ≡ Err c.in_err-store.field-0.0 = search rules in
    rw is (unmade c.in_err-store.ensures.unmade c.make.ensures.moments refl)

pub returns-in_err-counts : goal.returns-in_err-counts
returns-in_err-counts g c =
    let is : c.from_residual-in_err-counts.result ≡ Err c.in_err-counts.field-0.0 = search rules in
    rw is record {
      kept = λ told marked. absurd (marked (c.in_ok-store.ensures.unmarked told));
      sampled = uncounted g.D.Disk.view g.S.Promise.sound c.args.rounds c.as_slice.result.now c.args.disk.now c.make.new.disk c.in_ok-store.store c.in_ok-store.store.journal
          (c.as_slice.ensures.value ∙ c.in-Ok.ensures) c.in_ok-store.ensures.store c.in_ok-store.ensures.fits c.in_ok-store.ensures.unmarked c.make.ensures.ran c.make.ensures.moments c.give_and_collect.new.disk (g.O.Sink.outlet c.args.output.now) (g.O.Sink.outlet c.args.output.now)
          c.in_err-counts.field-0.0 (rw c.moment_in.ensures at c.in_err-counts.ensures.gives) refl;
    }

pub returns : goal.returns
returns g c =
    let count : c.len.result ≡ length c.as_slice.result.now = search rules in
    record {
      kept = λ told marked. absurd (marked (c.in_ok-store.ensures.unmarked told));
      sampled = told g.D.Disk.view g.S.Promise.sound c.args.rounds c.as_slice.result.now c.args.disk.now c.make.new.disk c.in_ok-store.store c.in_ok-store.store.journal
          (c.as_slice.ensures.value ∙ c.in-Ok.ensures) c.in_ok-store.ensures.store c.in_ok-store.ensures.fits c.in_ok-store.ensures.unmarked c.make.ensures.ran c.make.ensures.moments c.give_and_collect.new.disk (g.O.Sink.outlet c.args.output.now) (g.O.Sink.outlet c.put_line.new.output)
          c.in_ok-counts.counts (rw c.moment_in.ensures at c.in_ok-counts.ensures.gives) c.put_line.result c.as_bytes.result.now
          (c.as_bytes.ensures.value ∙ (c.in-Ok-sample_lines.ensures ∙ ap (λ (n : ℕ). sample_lines n c.in_ok-counts.counts.accepted c.in_ok-counts.counts.usage) count))
          c.put_line.ensures.wrote c.put_line.ensures.failed c.put_line.ensures.end;
    }

pub returns-in_default-sample_lines : goal.returns-in_default-sample_lines
returns-in_default-sample_lines g c =
    record {
      kept = λ told marked. absurd (marked (c.in_ok-store.ensures.unmarked told));
      sampled = untold g.D.Disk.view g.S.Promise.sound c.args.rounds c.as_slice.result.now c.args.disk.now c.make.new.disk c.in_ok-store.store c.in_ok-store.store.journal
          (c.as_slice.ensures.value ∙ c.in-Ok.ensures) c.in_ok-store.ensures.store c.in_ok-store.ensures.fits c.in_ok-store.ensures.unmarked c.make.ensures.ran c.make.ensures.moments c.give_and_collect.new.disk (g.O.Sink.outlet c.args.output.now) (g.O.Sink.outlet c.args.output.now)
          c.in_ok-counts.counts (rw c.moment_in.ensures at c.in_ok-counts.ensures.gives) refl;
    }

pub returns-in_default-clause-kept : goal.returns-in_default-clause-kept
returns-in_default-clause-kept g c = λ told marked. ran_not Everywhere (g.D.Disk.view c.args.disk.now) (g.met.D.Disk.true_to_itself c.args.disk.now)
