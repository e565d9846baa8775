use Rattle.std.proofs.Common.{◌+◌, ◌∙◌, ℕ, ap, cond, eqb, get_or}
use Rattle.ebs_world.proofs.Put.{put_one}
use Rattle.ebs_world.specs.inner.Held.{byte_at}
use Rattle.ebs_world.proofs.areas.AreaBytes.put.Goals as goal

pub loop-j-preserved : goal.loop-j-preserved
loop-j-preserved c = record {
  bytes = λ i. c.set.ensures.bytes i
      ∙ ap (λ (d : ℕ). cond (eqb i (c.args.at + c.loop-j.j)) (get_or c.args.piece.now c.loop-j.j 0) d) (c.loop-j.invariant.bytes i)
      ∙ put_one c.args.at c.args.piece.now (byte_at c.args.self.now) c.loop-j.j i c.loop-j-test.true;
  end = c.set.ensures.end ∙ c.loop-j.invariant.end;
}
