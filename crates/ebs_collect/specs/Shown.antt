-- What is seen of a backlog.
use Rattle.ebs_collect.specs.declared.backlog.Backlog.TheInside.{Inside}
use Rattle.ebs_collect.specs.Backlogs.{Queue}

abbrev pub queue_shown : Inside → Queue
queue_shown a = record { first = a.first; waiting = a.waiting }
