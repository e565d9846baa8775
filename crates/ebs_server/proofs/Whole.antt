-- What serving over an honest disk did.
use Rattle.std.proofs.Common.{◌≡◌, inl, List, [], ◌++◌, length, true, refl, sym, ap, ◌∙◌, subst}
use Rattle.ebs_world.specs.View.{View as DiskView, Leaves}
use Rattle.ebs_world.specs.inner.Runs.{leaves_on, leaves_weaker}
use Rattle.ebs_doors.specs.Doors.{Door}
use Rattle.ebs_model.specs.Machine.{Machine}
use Rattle.ebs_recovery.specs.Stands.{Stands}
use Rattle.ebs_recovery.specs.inner.Fits.{running}
use Rattle.ebs_disk_store.specs.Opened.{IsPromising}
use Rattle.ebs_turns.specs.declared.line.Turn.{Turn}
use Rattle.ebs_desk.specs.declared.item.Item.{Item}
use Rattle.ebs_desk.specs.Line.{AreAnswered, run_line}
use Rattle.ebs_desk.specs.Fronts.{StandsForFront}
use Rattle.ebs_desk.proofs.Fronts.{at_place}
use Rattle.ebs_opening.specs.Opens.{AllStand}
use Rattle.ebs_server.specs.declared.post.Post.{Post}
use Rattle.ebs_server.specs.declared.serving.ServeEnd.{ServeEnd}
use Rattle.ebs_server.specs.declared.serving.ServeEnd.TheVariants.{Refused, Ended, Memory}
use Rattle.ebs_server.specs.Served.{IsServed, IsServedWhole, Serves}

module _ {D : Type 0} (view : D → DiskView) (old new : D) where
  module _ (s : IsServed (IsPromising (view old)) view old new) (tells : (view old).tells ≡ true) (honest : (view old).honest ≡ true) (m : Machine) (stands : Stands (view old).reads m) where
    -- behind a front of the line
    leaves_on_line : (front back : List (Turn (Item D))) → (is : s.left.line ≡ front ++ back) → Leaves (view (s.left.closed.leaves front back is).disk) (view new) (StandsForFront m s.left.line (length front))
    leaves_on_line front back is =
        let k = s.left.closed.leaves front back is in
        subst (λ (z : Machine × List (Turn (Item D))). Leaves (view k.disk) (view new) (StandsForFront z.0 z.1 (length front))) (λ i. ((s.had.machine tells honest m stands).answers i, sym is i))
        (k.leaves s.had.clean (λ told kept. (m, stands)) (s.had.ran.told ∙ tells) (s.had.ran.kept_honest ∙ honest))

    -- and from before the store was had
    leaves_from_first : AllStand (view old) m → Leaves (view old) (view new) (StandsForFront m s.left.line 0)
    leaves_from_first all =
        let k = s.left.closed.leaves [] s.left.line refl in
        let has = s.had.machine tells honest m stands in
        leaves_on (view old) (view s.disk) (view new) (StandsForFront m s.left.line 0)
        (leaves_weaker (view old) (view s.disk) (λ c. Stands c m) (StandsForFront m s.left.line 0)
        (λ c here. at_place m s.left.line [] s.left.line (view s.disk) s.store c refl (sym has.answers) (inl (subst (λ n. Stands c n) (sym has.records) here))) (s.had.moments tells honest m stands all))
        (subst (λ d. Leaves (view d) (view new) (StandsForFront m s.left.line 0)) k.went.1 (leaves_on_line [] s.left.line refl))

  -- the store's machine is the one for which the disk stood
  whole_of : IsServed (IsPromising (view old)) view old new → IsServedWhole view old new
  whole_of s = record {
    served = s;
    answered = λ tells honest m stands.
        let sound : IsPromising (view old) = λ _ _. (m, stands) in
        let told = s.had.ran.told ∙ tells in
        let kept = s.had.ran.kept_honest ∙ honest in
        let has = (s.had.machine tells honest m stands).answers in (
          subst (λ n. AreAnswered n s.left.line) has (s.left.closed.legal.answered sound told kept),
          s.left.closed.machine sound told kept ∙ ap (λ n. run_line n s.left.line) has,
        );
    leaves = leaves_on_line s;
    from_first = leaves_from_first s;
  }

module _ {D L K : Type 0} (view : D → DiskView) (door : L → Door) (old : D) (posts : List (Post L K)) where
  pub whole : (end : ServeEnd L K D) → Serves view door old posts (IsServed (IsPromising (view old)) view old) end → Serves view door old posts (IsServedWhole view old) end
  whole (Refused refusal new) refused = refused
  whole (Ended ends new) (ended, served) = (ended, whole_of view old new served)
  whole (Memory new) unit = unit
