use Rattle.std.proofs.Common.{◌+◌, ◌^◌, ◌<◌, true, false, length, [], sym, ap, subst}
use Rattle.ebs_world.specs.declared.area.Area.{Area}
use Rattle.ebs_world.specs.inner.Runs.{ran_on}
use Rattle.ebs_journal.specs.inner.Line.{Line, line}
use Rattle.ebs_journal.specs.Opening.{OffJournal}
use Rattle.ebs_journal.specs.inner.Standing.{IsSettled}
use Rattle.ebs_journal.proofs.Areas.{other_journal}
use Rattle.ebs_journal.proofs.Rotation.{off_ran, writing_settled, writing_moments, in_doubt, turning_on, turning_moments, rotated, second_leaves, third_leaves}
use Rattle.ebs_journal.proofs.journal.Journal.rotate.Goals as goal

pub returns-in_default-write_behind-clause-refused_clean : goal.returns-in_default-write_behind-clause-refused_clean
returns-in_default-write_behind-clause-refused_clean g c clean old rs s =
    let shut = ap (λ (l : Line). l.shut) c.in-Ok.ensures.ok in
    writing_settled _ _ (line c.close_other.new.self) c.close_other.new.self.in_journal old rs (c.close_other.ensures.settled old rs s) (29 + length c.args.checkpoint.now) (rw (← c.other-next.ensures) c.write_behind.ensures.ran) shut

pub returns-in_default-write_behind-clause-any_moment : goal.returns-in_default-write_behind-clause-any_moment
returns-in_default-write_behind-clause-any_moment g c old rs s =
    let shut = ap (λ (l : Line). l.shut) c.in-Ok.ensures.ok in
    second_leaves _ _ (line c.args.self.now) (line c.close_other.new.self) c.in-Ok.ensures.ok old rs c.args.checkpoint.now (c.close_other.ensures.any_moment old rs s) _
    (writing_moments _ _ (line c.close_other.new.self) c.close_other.new.self.in_journal old rs (c.close_other.ensures.settled old rs s) (29 + length c.args.checkpoint.now) (rw (← c.other-next.ensures) c.write_behind.ensures.ran) shut)

pub returns-in_default-write_behind-clause-ran : goal.returns-in_default-write_behind-clause-ran
returns-in_default-write_behind-clause-ran g c =
    ran_on OffJournal _ _ _ c.close_other.ensures.ran (off_ran c.other-next.result 1 (29 + length c.args.checkpoint.now) _ _ (rw c.other-next.ensures (other_journal c.close_other.new.self.area)) c.write_behind.ensures.ran)

pub returns-in_default-write_durably-clause-refused_unclean : goal.returns-in_default-write_durably-clause-refused_unclean
returns-in_default-write_durably-clause-refused_unclean g c unclean old rs s =
    let shut = ap (λ (l : Line). l.shut) c.in-Ok.ensures.ok in
    let mid = c.close_other.ensures.settled old rs s in
    let few : c.close_other.new.self.epoch < 2 ^ 62 = rw (ap (λ (l : Line). l.epoch) c.in-Ok.ensures.ok) c.requires.epoch in
    let doubt = in_doubt (g.D.Disk.view c.close_other.new.disk) (g.D.Disk.view c.write_behind.new.disk) (line c.close_other.new.self) c.close_other.new.self.in_journal old rs mid (29 + length c.args.checkpoint.now) (rw (← c.other-next.ensures) c.write_behind.ensures.ran) shut c.args.checkpoint.now c.requires.size few
    (rw (← c.other-next.ensures) (c.in-Ok-write_behind.ensures.written mid.tells)) (rw (← c.other-next.ensures) (c.in-Ok-write_behind.ensures.durable mid.tells mid.honest)) in
    turning_on _ _ (record (line c.close_other.new.self) { clean = false; turning = true }) c.close_other.new.self.in_journal old rs c.args.checkpoint.now doubt (rw (← c.other-next.ensures) c.write_durably.ensures.ran)

pub returns-in_default-write_durably-clause-any_moment : goal.returns-in_default-write_durably-clause-any_moment
returns-in_default-write_durably-clause-any_moment g c old rs s =
    let shut = ap (λ (l : Line). l.shut) c.in-Ok.ensures.ok in
    let mid = c.close_other.ensures.settled old rs s in
    let few : c.close_other.new.self.epoch < 2 ^ 62 = rw (ap (λ (l : Line). l.epoch) c.in-Ok.ensures.ok) c.requires.epoch in
    let doubt = in_doubt (g.D.Disk.view c.close_other.new.disk) (g.D.Disk.view c.write_behind.new.disk) (line c.close_other.new.self) c.close_other.new.self.in_journal old rs mid (29 + length c.args.checkpoint.now) (rw (← c.other-next.ensures) c.write_behind.ensures.ran) shut c.args.checkpoint.now c.requires.size few
    (rw (← c.other-next.ensures) (c.in-Ok-write_behind.ensures.written mid.tells)) (rw (← c.other-next.ensures) (c.in-Ok-write_behind.ensures.durable mid.tells mid.honest)) in
    third_leaves _ _ (line c.args.self.now) (line c.close_other.new.self) c.in-Ok.ensures.ok old rs c.args.checkpoint.now (c.close_other.ensures.any_moment old rs s) _
    (writing_moments _ _ (line c.close_other.new.self) c.close_other.new.self.in_journal old rs mid (29 + length c.args.checkpoint.now) (rw (← c.other-next.ensures) c.write_behind.ensures.ran) shut) _
    (turning_moments _ _ (record (line c.close_other.new.self) { clean = false; turning = true }) c.close_other.new.self.in_journal old rs c.args.checkpoint.now doubt (rw (← c.other-next.ensures) c.write_durably.ensures.ran))

pub returns-in_default-write_durably-clause-ran : goal.returns-in_default-write_durably-clause-ran
returns-in_default-write_durably-clause-ran g c =
    ran_on OffJournal _ _ _ (ran_on OffJournal _ _ _ c.close_other.ensures.ran (off_ran c.other-next.result 1 (29 + length c.args.checkpoint.now) _ _ (rw c.other-next.ensures (other_journal c.close_other.new.self.area)) c.write_behind.ensures.ran))
    (off_ran c.other-next.result 0 1 _ _ (rw c.other-next.ensures (other_journal c.close_other.new.self.area)) c.write_durably.ensures.ran)

pub returns-clause-rotated : goal.returns-clause-rotated
returns-clause-rotated g c old rs s =
    let shut = ap (λ (l : Line). l.shut) c.in-Ok.ensures.ok in
    let mid = c.close_other.ensures.settled old rs s in
    let few : c.close_other.new.self.epoch < 2 ^ 62 = rw (ap (λ (l : Line). l.epoch) c.in-Ok.ensures.ok) c.requires.epoch in
    let doubt = in_doubt (g.D.Disk.view c.close_other.new.disk) (g.D.Disk.view c.write_behind.new.disk) (line c.close_other.new.self) c.close_other.new.self.in_journal old rs mid (29 + length c.args.checkpoint.now) (rw (← c.other-next.ensures) c.write_behind.ensures.ran) shut c.args.checkpoint.now c.requires.size few
    (rw (← c.other-next.ensures) (c.in-Ok-write_behind.ensures.written mid.tells)) (rw (← c.other-next.ensures) (c.in-Ok-write_behind.ensures.durable mid.tells mid.honest)) in
    let there = rotated (g.D.Disk.view c.write_behind.new.disk) (g.D.Disk.view c.write_durably.new.disk) (record (line c.close_other.new.self) { clean = false; turning = true }) c.close_other.new.self.in_journal old rs c.args.checkpoint.now doubt (rw (← c.other-next.ensures) c.write_durably.ensures.ran)
    (rw (← c.other-next.ensures) (c.in-Ok-write_durably.ensures.durable doubt.tells doubt.honest)) (rw (← c.other-next.ensures) (c.in-Ok-write_durably.ensures.written doubt.tells)) in
    subst (λ (a : Area). IsSettled (g.D.Disk.view c.write_durably.new.disk) (record { area = a; epoch = c.close_other.new.self.epoch + 1; end = 30 + length c.args.checkpoint.now; since_checkpoint = 0; clean = true; shut = false; turning = false }) c.args.checkpoint.now [])
    (sym c.other-next.ensures) there

pub returns-clause-any_moment : goal.returns-clause-any_moment
returns-clause-any_moment g c old rs s =
    let shut = ap (λ (l : Line). l.shut) c.in-Ok.ensures.ok in
    let mid = c.close_other.ensures.settled old rs s in
    let few : c.close_other.new.self.epoch < 2 ^ 62 = rw (ap (λ (l : Line). l.epoch) c.in-Ok.ensures.ok) c.requires.epoch in
    let doubt = in_doubt (g.D.Disk.view c.close_other.new.disk) (g.D.Disk.view c.write_behind.new.disk) (line c.close_other.new.self) c.close_other.new.self.in_journal old rs mid (29 + length c.args.checkpoint.now) (rw (← c.other-next.ensures) c.write_behind.ensures.ran) shut c.args.checkpoint.now c.requires.size few
    (rw (← c.other-next.ensures) (c.in-Ok-write_behind.ensures.written mid.tells)) (rw (← c.other-next.ensures) (c.in-Ok-write_behind.ensures.durable mid.tells mid.honest)) in
    third_leaves _ _ (line c.args.self.now) (line c.close_other.new.self) c.in-Ok.ensures.ok old rs c.args.checkpoint.now (c.close_other.ensures.any_moment old rs s) _
    (writing_moments _ _ (line c.close_other.new.self) c.close_other.new.self.in_journal old rs mid (29 + length c.args.checkpoint.now) (rw (← c.other-next.ensures) c.write_behind.ensures.ran) shut) _
    (turning_moments _ _ (record (line c.close_other.new.self) { clean = false; turning = true }) c.close_other.new.self.in_journal old rs c.args.checkpoint.now doubt (rw (← c.other-next.ensures) c.write_durably.ensures.ran))

pub returns-clause-ran : goal.returns-clause-ran
returns-clause-ran g c =
    ran_on OffJournal _ _ _ (ran_on OffJournal _ _ _ c.close_other.ensures.ran (off_ran c.other-next.result 1 (29 + length c.args.checkpoint.now) _ _ (rw c.other-next.ensures (other_journal c.close_other.new.self.area)) c.write_behind.ensures.ran))
    (off_ran c.other-next.result 0 1 _ _ (rw c.other-next.ensures (other_journal c.close_other.new.self.area)) c.write_durably.ensures.ran)
