use Rattle.ebs_journal.specs.inner.Line.{line}
use Rattle.ebs_journal.proofs.Rotation.{turning_on, turning_moments, turned_back}
use Rattle.ebs_journal.proofs.journal.Journal.turn_back.Goals as goal

pub returns-in_default-clause-still_turning : goal.returns-in_default-clause-still_turning
returns-in_default-clause-still_turning g c checkpoint rs next t =
    turning_on _ _ (line c.args.self.now) c.args.self.now.in_journal checkpoint rs next t (rw (← c.other.ensures) c.write_durably.ensures.ran)

pub returns-in_default-clause-turning_moments : goal.returns-in_default-clause-turning_moments
returns-in_default-clause-turning_moments g c checkpoint rs next t =
    turning_moments _ _ (line c.args.self.now) c.args.self.now.in_journal checkpoint rs next t (rw (← c.other.ensures) c.write_durably.ensures.ran)

pub returns-clause-turned_back : goal.returns-clause-turned_back
returns-clause-turned_back g c checkpoint rs next t =
    turned_back _ _ (line c.args.self.now) c.args.self.now.in_journal checkpoint rs next t (rw (← c.other.ensures) c.write_durably.ensures.ran)
    (rw (← c.other.ensures) (c.in-Ok.ensures.durable t.tells t.honest)) (rw (← c.other.ensures) (c.in-Ok.ensures.written t.tells))

pub returns-clause-turning_moments : goal.returns-clause-turning_moments
returns-clause-turning_moments g c checkpoint rs next t =
    turning_moments _ _ (line c.args.self.now) c.args.self.now.in_journal checkpoint rs next t (rw (← c.other.ensures) c.write_durably.ensures.ran)
