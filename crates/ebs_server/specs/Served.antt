-- What serving leaves.
use Rattle.std.specs.Prelude.{◌≡◌, ◌++◌, List, None, length, true}
use Rattle.ebs_world.specs.View.{View as DiskView, Leaves, Ran}
use Rattle.ebs_journal.specs.Opening.{OffMaking}
use Rattle.ebs_doors.specs.Doors.{Door}
use Rattle.ebs_model.specs.Machine.{Machine}
use Rattle.ebs_recovery.specs.Stands.{Stands}
use Rattle.ebs_recovery.specs.inner.Fits.{Seen, running}
use Rattle.ebs_turns.specs.declared.line.Turn.{Turn}
use Rattle.ebs_desk.specs.declared.item.Item.{Item}
use Rattle.ebs_desk.specs.Line.{AreAnswered, run_line}
use Rattle.ebs_desk.specs.Fronts.{StandsForFront}
use Rattle.ebs_disk_store.specs.Opened.{IsPromising}
use Rattle.ebs_disk_store.specs.inner.Opened.{MayRefuse}
use Rattle.ebs_disk_store.specs.declared.refusal.OpenRefusal.{OpenRefusal}
use Rattle.ebs_opening.specs.Opens.{AllStand, IsUnready}
use Rattle.ebs_opening.specs.inner.Opens.{Has}
use Rattle.ebs_server.specs.declared.post.Post.{Post}
use Rattle.ebs_server.specs.declared.serving.ServeEnd.{ServeEnd}
use Rattle.ebs_server.specs.declared.serving.ServeEnd.TheVariants.{Refused, Ended, Memory}
use Rattle.ebs_server.specs.Left.{IsLeft}
use Rattle.ebs_server.specs.Posts.{AreEnded}

-- the store was had of the disk, with nothing pending: where that is honest, tells and stood for a machine, it has that machine; and where each image did, so does whatever a crash leaves meanwhile
pub record IsHad (old opened : DiskView) (store : Seen) : Type 0 where
  pub ran : Ran OffMaking old opened
  pub machine : old.tells ≡ true → old.honest ≡ true → (m : Machine) → Stands old.reads m → Has opened store m
  pub clean : store.pending ≡ None
  pub moments : old.tells ≡ true → old.honest ≡ true → (m : Machine) → Stands old.reads m → AllStand old m → Leaves old opened (λ c. Stands c m)

module _ {D : Type 0} (sound : Type 0) (view : D → DiskView) where
  -- so it is of the store that was had of a disk
  pub record IsServed (old new : D) : Type 0 where
    pub store : Seen
    pub disk : D
    pub had : IsHad (view old) (view disk) store
    pub left : IsLeft sound view store disk new

-- and on an honest disk that tells and stood for a machine each entry of the line is answered as that machine does at its place, and the line leaves the last store's machine;
-- and behind each front of the line, whatever a crash leaves from there on stands for a front that has those turns. So it is from the first moment on, where each image stood for the machine then
pub record IsServedWhole {D : Type 0} (view : D → DiskView) (old new : D) : Type 0 where
  pub served : IsServed (IsPromising (view old)) view old new
  pub answered : (view old).tells ≡ true → (view old).honest ≡ true → (m : Machine) → Stands (view old).reads m → AreAnswered m served.left.line × (running (view new) served.left.last ≡ run_line m served.left.line)
  pub leaves : (view old).tells ≡ true → (view old).honest ≡ true → (m : Machine) → Stands (view old).reads m → (front back : List (Turn (Item D))) → (is : served.left.line ≡ front ++ back)
      → Leaves (view (served.left.closed.leaves front back is).disk) (view new) (StandsForFront m served.left.line (length front))
  pub from_first : (view old).tells ≡ true → (view old).honest ≡ true → (m : Machine) → Stands (view old).reads m → AllStand (view old) m → Leaves (view old) (view new) (StandsForFront m served.left.line 0)

-- why there was no store
pub record IsRefused (old new : DiskView) (refusal : OpenRefusal) : Type 0 where
  pub cause : IsUnready old new refusal
  pub stood : old.tells ≡ true → (m : Machine) → Stands old.reads m → MayRefuse refusal

-- how serving these posts over a disk ended: there was no store; or each post was given back with its end, and the disk with what was done at it; or memory was wanting
abbrev pub Serves : {D L K : Type 0} → (D → DiskView) → (L → Door) → D → List (Post L K) → (D → Type 0) → ServeEnd L K D → Type 0
Serves view door old posts Went (Refused refusal new) = IsRefused (view old) (view new) refusal
Serves view door old posts Went (Ended ends new) = AreEnded door posts ends.items × Went new
Serves view door old posts Went (Memory new) = Unit {0}
