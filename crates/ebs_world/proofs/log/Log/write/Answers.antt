use Rattle.std.proofs.Common.{◌∙◌, ◌-◌, ℕ, refl, sym, ap, cond, ltb, get_or, length}
use Rattle.ebs_world.specs.inner.Held.{shown, same}
use Rattle.ebs_world.specs.Image.{IsOutside}
use Rattle.ebs_world.proofs.Calls.{settles, none_more, written, now_written, put_keeps, put_spells, ran_by}
use Rattle.ebs_world.proofs.log.Log.write.Goals as goal

pub returns-in_err-grow-clause-ran : goal.returns-in_err-grow-clause-ran
returns-in_err-grow-clause-ran c =
    let places = IsOutside c.args.area c.args.at (length c.args.piece.now) in
    ran_by places _ (shown c.args.self.now.first) _ _ _ _ (λ a i out. c.grow.ensures.bytes a i) (none_more _ places _ _ refl)

pub returns-in_err-note_write-clause-ran : goal.returns-in_err-note_write-clause-ran
returns-in_err-note_write-clause-ran c =
    let places = IsOutside c.args.area c.args.at (length c.args.piece.now) in
    ran_by places _ (shown c.args.self.now.first) _ _ _ _ (λ a i out. c.grow.ensures.bytes a i) (none_more _ places _ _ c.in_err-note_write.ensures.err)

pub invariant_of-self-2 : goal.invariant_of-self-2
invariant_of-self-2 c =
    let first = shown c.args.self.now.first in
    record {
      agrees = λ spoiled a i. c.put.ensures.bytes a i
          ∙ ap (λ (d : ℕ). cond (same a c.args.area) (cond (ltb i c.args.at) d (get_or c.args.piece.now (i - c.args.at) d)) d) (c.grow.ensures.bytes a i ∙ c.args.self.now.agrees spoiled a i)
          ∙ sym (now_written first _ _ c.args.area c.args.at c.args.piece.now c.in_ok-note_write.ensures.ok a i);
      settled = settles first c.note_write.new.steps.items;
    }

pub returns-clause-written : goal.returns-clause-written
returns-clause-written c = put_spells (shown c.grow.new.self) (shown c.put.new.self) c.args.area c.args.at c.args.piece.now c.put.ensures.bytes

pub returns-clause-ran : goal.returns-clause-ran
returns-clause-ran c =
    ran_by (IsOutside c.args.area c.args.at (length c.args.piece.now)) _ (shown c.args.self.now.first) _ _ _ _
    (λ a i out. put_keeps (shown c.grow.new.self) (shown c.put.new.self) c.args.area c.args.at c.args.piece.now c.put.ensures.bytes a i out ∙ c.grow.ensures.bytes a i)
    (written _ _ _ c.args.area c.args.at c.args.piece.now c.in_ok-note_write.ensures.ok)
