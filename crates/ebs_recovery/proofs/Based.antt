-- The checkpoint of a store.
use Rattle.std.proofs.Common.{◌≡◌, refl, sym, ap, subst, ◌∙◌}
use Rattle.std.specs.FinMap as fin
use Rattle.ebs_world.specs.Image.{Image}
use Rattle.ebs_world.specs.View.{View, IsTrueToItself}
use Rattle.ebs_model.specs.Machine.{Machine, advance}
use Rattle.ebs_model.specs.inner.Kept.{digested}
use Rattle.ebs_model.proofs.KeptAges.{advance-kept}
use Rattle.ebs_checkpoints.specs.declared.checkpoint.Checkpoint.{Checkpoint}
use Rattle.ebs_checkpoints.specs.Checkpoints.{spelled}
use Rattle.ebs_recovery.specs.Bases.{slots_of, IsBase}
use Rattle.ebs_recovery.specs.inner.BaseLaws.{IsPointOf}
use Rattle.ebs_recovery.specs.Stands.{EachEntry, HasBlock, in_blocks}
use Rattle.ebs_recovery.specs.inner.Fits.{Seen, Fit, recorded, AgreeOn}
use Rattle.ebs_recovery.proofs.Fitting.{is_machine}
use Rattle.ebs_recovery.proofs.Frames.{fit_tells, fit_honest}
use Rattle.ebs_recovery.proofs.Outcomes.{entries_aged, each_aged}
use Rattle.ebs_recovery.proofs.Replayed.{agree_whole}
use Rattle.ebs_recovery.proofs.Said.{says_whole}

-- ---- the checkpoint of a store

module _ (v : View) (law : IsTrueToItself v) (s : Seen) (fit : Fit v s) (point : Checkpoint) (is : IsPointOf s point) where
  pub kept_now : digested (advance fit.state.machine s.clock) ≡ advance s.recorded s.clock
  kept_now = sym (advance-kept fit.state.machine s.clock) ∙ ap (λ (m : Machine). advance m s.clock) (sym fit.right.kept)

  pub agree_keys : AgreeOn (advance fit.state.machine s.clock) (slots_of point.standard) s.slots.keys
  agree_keys = agree_whole (advance fit.state.machine s.clock) (slots_of point.standard) s.slots.keys (subst (λ (m : Machine). AgreeOn m (slots_of point.standard) s.slots.keys) (sym kept_now) is.keys)

  agree_history : AgreeOn (advance fit.state.machine s.clock) s.slots.keys fit.state.slots
  agree_history = each_aged (λ b. fin.get s.slots.keys b.stamp ≡ fin.get fit.state.slots b.stamp) fit.state.machine s.clock fit.right.keys

  pub stands_now : (c : Image) → v.may_leave c → EachEntry (HasBlock c (slots_of point.standard)) (advance fit.state.machine s.clock)
  stands_now c now key index b e =
      let h = entries_aged (HasBlock c fit.state.slots) fit.state.machine s.clock (fit.right.stand c now) key index b e in
      record { area = h.area; slot = h.slot; found = ap in_blocks (agree_keys key index b e ∙ agree_history key index b e) ∙ h.found; stands = h.stands }

  unfoldable pub says_now : IsBase (spelled point) (record { machine = advance fit.state.machine s.clock; slots = slots_of point.standard })
  says_now = record {
    point = point;
    is_checkpoint = is.is_checkpoint;
    is = refl;
    says = says_whole point (record { machine = advance fit.state.machine s.clock; slots = slots_of point.standard })
        (λ i. record { machine = (kept_now ∙ sym is.machine) i; slots = slots_of point.standard })
        (λ key index b e. (stands_now v.reads (law.reads_as_image (fit_tells v s fit) (fit_honest v s fit)) key index b e).stands.size);
  }

  pub point_says : IsBase (spelled point) (record { machine = advance (recorded v s) s.clock; slots = slots_of point.standard })
  point_says = subst (λ (m : Machine). IsBase (spelled point) (record { machine = advance m s.clock; slots = slots_of point.standard })) (sym (is_machine v s law fit)) says_now

  pub point_stands : (c : Image) → v.may_leave c → EachEntry (HasBlock c (slots_of point.standard)) (advance (recorded v s) s.clock)
  point_stands c now = subst (λ (m : Machine). EachEntry (HasBlock c (slots_of point.standard)) (advance m s.clock)) (sym (is_machine v s law fit)) (stands_now c now)
