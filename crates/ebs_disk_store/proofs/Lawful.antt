-- What every machine has that calls have made: of the empty one and of what a checkpoint says, and behind time and an accepted call.
use Rattle.std.proofs.Common.{◌≡◌, ℕ, ◌≤◌, ◌^◌, true, List, Ok}
use Rattle.ebs_model.specs.declared.keys.Moment.{Moment}
use Rattle.ebs_model.specs.declared.request.Request.{Request}
use Rattle.ebs_model.specs.declared.answer.Answer.{Answer}
use Rattle.ebs_model.specs.Arrays.{Hash}
use Rattle.ebs_model.specs.Machine.{Machine, empty_machine, advance}
use Rattle.ebs_model.specs.Step.{act}
use Rattle.ebs_lawful.specs.Calls.{is_within}
use Rattle.ebs_lawful.proofs.Lawful.{empty-lawful, time-lawful, calls-lawful}
use Rattle.ebs_lawful.proofs.ArrayKept.{empty-arrays, time-arrays, calls-arrays}
use Rattle.ebs_checkpoints.specs.declared.checkpoint.Checkpoint.{Checkpoint}
use Rattle.ebs_checkpoint_rules.specs.Rules.{HasRules}
use Rattle.ebs_recovery.specs.inner.Bases.{machine_of}
use Rattle.ebs_lawful_points.proofs.PointLaws.{points-lawful}
use Rattle.ebs_lawful_points.proofs.ArrayPoints.{points-arrays}
use Rattle.ebs_lawful_points.proofs.StampPoints.{points-stamps}
use Rattle.ebs_lawful_points.proofs.Stamped.{empty-stamps, time-stamps, calls-stamps}
use Rattle.ebs_disk_store.specs.inner.Shown.{HasLaws}

pub empty_laws : (secret : List ℕ) → HasLaws (empty_machine secret)
empty_laws secret = record { lawful = empty-lawful secret; arrays = empty-arrays secret; stamps = empty-stamps secret }

pub point_laws : (point : Checkpoint) → HasRules point → HasLaws (machine_of point)
point_laws point rules = record { lawful = points-lawful point rules; arrays = points-arrays point rules; stamps = points-stamps point rules }

pub laws_aged : (m : Machine) (now : Moment) → m.clock.second ≤ now.second → now.second ≤ 2 ^ 36 → HasLaws m → HasLaws (advance m now)
laws_aged m now later early laws = record { lawful = time-lawful m now later early laws.lawful; arrays = time-arrays m now laws.arrays; stamps = time-stamps m now laws.stamps }

pub laws_acts : (hash : Hash) (m : Machine) (now : Moment) (account : ℕ) (request : Request) (n : Machine) (answer : Answer) → act hash (advance m now) account request ≡ Ok (n, answer)
    → is_within request ≡ true → m.clock.second ≤ now.second → now.second ≤ 2 ^ 36 → HasLaws m → HasLaws n
laws_acts hash m now account request n answer e within later early laws =
    let aged = laws_aged m now later early laws in
    record {
      lawful = calls-lawful hash (advance m now) account request n answer within e aged.lawful;
      arrays = calls-arrays hash (advance m now) account request n answer e aged.arrays;
      stamps = calls-stamps hash (advance m now) account request n answer e aged.stamps;
    }
