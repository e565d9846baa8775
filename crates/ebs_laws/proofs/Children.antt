-- An upload with a parent.
use Rattle.std.proofs.Common.{◌≡◌, ℕ, List, Option, Some, None, sym, ap, ◌∙◌}
use Rattle.std.specs.FinMap as fin
use Rattle.ebs_model.specs.declared.keys.SnapKey.{SnapKey}
use Rattle.ebs_model.specs.declared.keys.Moment.{Moment}
use Rattle.ebs_model.specs.declared.tags.Tag.{Tag}
use Rattle.ebs_model.specs.declared.request.Request.TheVariants.{StartSnapshot}
use Rattle.ebs_model.specs.declared.answer.Answer.TheVariants.{Started}
use Rattle.ebs_model.specs.Time.{Snapshot}
use Rattle.ebs_model.specs.Machine.{Machine, advance, moment_of}
use Rattle.ebs_model.specs.Step.{step}
use Rattle.ebs_laws.specs.Words.{IsUnused}
use Rattle.ebs_laws.specs.Uploads.{NumbersGiven, StartsUpload, BeginsFromParent}
use Rattle.ebs_laws.proofs.Given.{numbers-aged, number-free}
use Rattle.ebs_laws.proofs.Writes.{start-step}

nothing : {s : Snapshot} → None ≡ Some s → ⊥
nothing e = cc

child-begins : (old new : Machine) (account : ℕ) (parent key : SnapKey) → NumbersGiven old → StartsUpload old new account (Some parent) key → BeginsFromParent old new parent key
child-begins old new account parent key given starts =
    let (found, is, begins) = starts.begins in
    let free = number-free old account (Some parent) key new given starts in
    record {
      found = found;
      was_there = is;
      stays = starts.other_snapshots parent (λ same. nothing (sym free ∙ ap (fin.get old.snaps) (sym same) ∙ is)) ∙ is;
      child = starts.snapshot;
      is_there = starts.is_there;
      names_it = starts.parent_is;
      begins = begins;
    }

pub child-step : (m : Machine) (account : ℕ) (reading : Moment) (size : ℕ) (parent : SnapKey) (text : Option (List ℕ)) (tags : List Tag) (token : Option (List ℕ)) (timeout : ℕ) (told : Option (List ℕ)) (owner : ℕ) (from : Option SnapKey) (key : SnapKey) (begin : Moment) (shown : List Tag) (gib : ℕ) → NumbersGiven m → IsUnused m account token → (step m account reading (StartSnapshot size (Some parent) text tags token timeout)).1 ≡ Started told owner from key begin shown gib → BeginsFromParent (advance m (moment_of m reading)) (step m account reading (StartSnapshot size (Some parent) text tags token timeout)).0 parent key
child-step m account reading size parent text tags token timeout told owner from key begin shown gib given unused e =
    child-begins (advance m (moment_of m reading)) (step m account reading (StartSnapshot size (Some parent) text tags token timeout)).0 account parent key
    (numbers-aged m (moment_of m reading) given)
    (start-step m account reading size (Some parent) text tags token timeout told owner from key begin shown gib unused e)
