-- What is had of a disk, by what it keeps.
use Rattle.std.proofs.Common.{◌≡◌, ◌⊎◌, inl, inr, ℕ, List, [], ◌∷◌, ◌++◌, None, Some, true, sym, ap, subst, ◌∙◌, arith}
use Rattle.ebs_world.specs.declared.area.Area.TheVariants.{Blocks}
use Rattle.ebs_world.specs.Image.{Image}
use Rattle.ebs_world.specs.Ends.{Outlet}
use Rattle.ebs_world.specs.View.{View, IsTrueToItself}
use Rattle.ebs_journal.specs.inner.Line.{Line}
use Rattle.ebs_model.specs.Machine.{Machine, empty_machine}
use Rattle.ebs_exchanges.specs.Stops.{Along, OwnCall, Obeys, Point, IsOwn}
use Rattle.ebs_recovery.specs.inner.Fits.{Seen, StandsForOne, for_recorded, new_store, recorded, with_pending}
use Rattle.ebs_records.specs.declared.record.Record.{Record}
use Rattle.ebs_recovery.specs.Made.{record_of}
use Rattle.ebs_recovery.specs.Stands.{Stands}
use Rattle.ebs_disk_store.specs.inner.Opened.{IsRead}
use Rattle.ebs_service.specs.inner.Fronts.{CallsStood, point}
use Rattle.ebs_service.specs.Fronts.{OneMoreOf}
use Rattle.ebs_commands.specs.Ends.{Inits}
use Rattle.ebs_commands.specs.declared.ending.CommandEnd.{CommandEnd}
use Rattle.ebs_commands.specs.declared.ending.CommandEnd.TheVariants as ends
use Rattle.ebs_opening.specs.Opens.{AllStand}
use Rattle.ebs_cli.specs.Opens.{IsKept, IsKeptOrNew}
use Rattle.ebs_opening.specs.inner.Opens.{IsReadOrNew}
use Rattle.ebs_opening.proofs.Having.{new_refilled}
use Rattle.ebs_cli.proofs.Told.{LieInBlocks, kept_of}

-- ---- what a store that is had keeps

is_kept : (c : Image) (s : Seen) → IsRead c s → IsKept c (kept_of s)
is_kept c s read = record {
  checkpoint = read.checkpoint;
  base = read.base;
  starts = read.starts;
  area = s.journal.area;
  epoch = s.journal.epoch;
  payloads = read.payloads;
  journal = read.journal;
  built = read.built;
  state = read.state;
  replays = read.replays;
  machine = read.opened.recorded;
  slots = read.held;
  clock = read.clock;
}

pub kept_or_new : (v : View) (s : Seen) → IsReadOrNew v s → IsKeptOrNew v (kept_of s)
kept_or_new v s (inl read) = inl (read.0, is_kept v.reads s read.1)
kept_or_new v s (inr new) = inr (new.0, ap kept_of new.1)

pub lie_in_blocks : (v u : View) (s : Seen) → u.tells ≡ v.tells → (v.tells ≡ true → IsReadOrNew v s) → LieInBlocks u s
lie_in_blocks v u s told had = λ tells. lies (had (sym told ∙ tells))
  where
    lies : IsReadOrNew v s → s.slots.area ≡ Blocks
    lies (inl read) = read.1.opened.area
    lies (inr new) = ap (λ (x : Seen). x.slots.area) new.1

-- an image that stands for what a store has recorded, which has nothing pending
pub stands_recorded : (v : View) (s : Seen) (m : Machine) → s.pending ≡ None → recorded v s ≡ m → (c : Image) → StandsForOne v s c → Stands c m
stands_recorded v s m clean is c (for_recorded stands) = subst (λ (n : Machine). Stands c n) is stands
stands_recorded v s m clean is c (with_pending e pending whole after) = absurd (nothing (record_of e) (sym clean ∙ pending))
  where
    nothing : (r : Record) → None ≡ Some r → ⊥
    nothing r e = cc

-- ---- a store that was made

nothing_before : (before later : List OwnCall) (x : OwnCall) → [] ≡ before ++ x ∷ later → ⊥
nothing_before [] later x is = cc
nothing_before (y ∷ before) later x is = cc

-- before any call an image stands for what was recorded
stands_before : (p : Point) (front back : List OwnCall) (after : Point) (c : Image) → [] ≡ front ++ back → Along Obeys p front after → Stands c after.recorded ⊎ OneMoreOf IsOwn Obeys p [] front after c → Stands c p.recorded
stands_before p [] back after c is runs (inl stands) = subst (λ (q : Point). Stands c q.recorded) runs stands
stands_before p [] back after c is runs (inr more) = absurd (nothing_before more.is_open.before more.is_open.later more.is_open.x more.is_open.is)
stands_before p (x ∷ front) back after c is runs stands = absurd cc

pub all_made : (u : View) (secret : List ℕ) (journal : Line) → IsTrueToItself u → u.honest ≡ true → CallsStood u u (new_store secret journal) (new_store secret journal) [] → AllStand u (empty_machine secret)
all_made u secret journal law honest stood c now =
    let front = stood.fronts 0 c (omega arith) (law.counts_now honest (stood.when 0) c (omega (arith, stood.begins)) now) in
    subst (λ (n : Machine). Stands c n) (new_refilled u.reads secret) (stands_before (point u (new_store secret journal)) front.front front.back front.after c front.is front.runs front.stands)

pub inits_with : {Made Holds : Type 0} → (Made → Holds) → (end : CommandEnd) (v w : View) (old new : Outlet) → Inits end Made v w old new → Inits end Holds v w old new
inits_with follows ends.Done v w old new (made, wrote) = (follows made, wrote)
inits_with follows ends.OutputFailed v w old new (made, failed) = (follows made, failed)
inits_with follows ends.DiskFailed v w old new i = i
inits_with follows ends.AlreadyMade v w old new i = i
inits_with follows ends.Memory v w old new i = i
inits_with follows ends.Damaged v w old new i = i
inits_with follows ends.Exhausted v w old new i = i
