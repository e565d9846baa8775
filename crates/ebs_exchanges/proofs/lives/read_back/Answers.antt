use Rattle.std.proofs.Common.{[]}
use Rattle.ebs_exchanges.proofs.ReadBack.{reads_back}
use Rattle.ebs_exchanges.proofs.lives.read_back.Goals as goal

pub returns : goal.returns
returns c =
    let told = c.faults_are_told.ensures in
    let bytes = c.bytes_stay_until_put.ensures in
    let numbers = c.numbers_are_given_once.ensures in
    let volumes = c.volume_stays.ensures in
    let uses = c.tokens_are_kept.ensures in
    let starts = c.start_acts_once.ensures in
    let created = c.creation_acts_once.ensures in
    let disks = c.written_is_read.ensures in
    reads_back told.refused told.memory c.time_passes_in_parts.ensures c.changes_are_counted.ensures.changes numbers.each_call volumes.each_call uses.only starts.again created.again bytes.put bytes.each_call bytes.child bytes.get disks.write disks.keeps disks.origin disks.snapshot disks.read disks.keeps_blank disks.nothing disks.zeros c.run_has_bytes.ensures.bytes c.run_makes_of_volumes.ensures.numbers c.run_has_bytes.ensures.volume c.shown_row_is_the_row.ensures.shows
    (λ secret. (numbers.start secret, volumes.run secret []))
