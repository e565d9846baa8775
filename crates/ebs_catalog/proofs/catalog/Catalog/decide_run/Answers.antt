use Rattle.std.proofs.Common.{refl}
use Rattle.ebs_catalog.proofs.catalog.Catalog.decide_run.Goals as goal

pub count_due-more-requires : goal.count_due-more-requires
count_due-more-requires c = c.in-Some.ensures.sound c.in-Some.policy.now refl

pub run_decided-requires-clause-sound : goal.run_decided-requires-clause-sound
run_decided-requires-clause-sound c = c.in-Some.ensures.sound c.in-Some.policy.now refl
