use Rattle.std.proofs.Common.{◌∙◌, length}
use Rattle.ebs_journal.proofs.Made.{first_spelled, first_ran}
use Rattle.ebs_journal.proofs.making.write_first.Goals as goal

pub returns-in_err-write_durably-2-clause-ran : goal.returns-in_err-write_durably-2-clause-ran
returns-in_err-write_durably-2-clause-ran g c = first_ran _ _ _ (length c.args.bytes.now) 1 c.write_durably.ensures.ran c.write_durably-2.ensures.ran

pub returns-clause-ran : goal.returns-clause-ran
returns-clause-ran g c = first_ran _ _ _ (length c.args.bytes.now) 1 c.write_durably.ensures.ran c.write_durably-2.ensures.ran

pub returns-clause-written : goal.returns-clause-written
returns-clause-written g c tail is told =
    let mid = c.write_durably.ensures.ran.told ∙ told in
    first_spelled (g.D.Disk.view c.args.disk.now) (g.D.Disk.view c.write_durably.new.disk) (g.D.Disk.view c.write_durably-2.new.disk) c.write_durably-2.ensures.ran _ tail is mid
    (c.in_ok-write_durably.ensures.written told) (c.in_ok-write_durably-2.ensures.written mid)
