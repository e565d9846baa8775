use Rattle.std.proofs.Common.{rules, ◌≤◌, ◌-◌, ◌%◌}
use Rattle.ebs_lifecycle.proofs.Multiples.{latest_due_is, none_due, latest_is, due_some, due_none}
use Rattle.ebs_lifecycle.proofs.schedule.due.Goals as goal

pub returns-then-second-since-clause-latest : goal.returns-then-second-since-clause-latest
returns-then-second-since-clause-latest c = latest_due_is c.args.policy.now c.args.now.second _ _ (search rules) (search rules) c.requires.hours (search rules)

pub returns-else-second-since-clause-none : goal.returns-else-second-since-clause-none
returns-else-second-since-clause-none c e =
    let at = c.from-at.result in
    let interval = c.interval-interval.result in
    let now = c.args.now.second in
    let old : now - (now - at) % interval ≤ c.args.since.second = search rules in
    none_due c.args.policy.now c.args.since.second now (now - (now - at) % interval) (latest_due_is c.args.policy.now now at interval (search rules) (search rules) c.requires.hours (search rules)) old

pub returns-then-second-since-clause-value : goal.returns-then-second-since-clause-value
returns-then-second-since-clause-value c =
    let at = c.from-at.result in
    let interval = c.interval-interval.result in
    let now = c.args.now.second in
    due_some c.args.policy.now c.args.since.second now (now - (now - at) % interval) (search rules) (latest_is c.args.policy.now now at interval (search rules) (search rules) (search rules)) (search rules)

pub returns-else-second-since-clause-value : goal.returns-else-second-since-clause-value
returns-else-second-since-clause-value c =
    let at = c.from-at.result in
    let interval = c.interval-interval.result in
    let now = c.args.now.second in
    due_none c.args.policy.now c.args.since.second now (now - (now - at) % interval) (latest_is c.args.policy.now now at interval (search rules) (search rules) (search rules)) (search rules)
