use Rattle.std.proofs.Common.{◌≡◌, ℕ, ◌-◌, List, ◌++◌, length, take, drop, sym, ap, ◌∙◌}
use Rattle.ebs_world.proofs.Written.{appends_both, appends_kept, goes_on}
use Rattle.ebs_world.proofs.real.write_out.Goals.{in-Ok, in-Err}
use Rattle.ebs_world.proofs.real.write_out.Goals as goal

pub loop-preserved : goal.loop-preserved
loop-preserved g c =
    let (done, split, appended) = c.loop.invariant in
    elim c.match-write.branch [
      | in-Ok w ↦
          let rest : c.match-write.rest.now ≡ take (length c.loop.rest.now - w.in-Ok.count) (drop w.in-Ok.count c.loop.rest.now) = ap (λ b. b.now) w.rest-is in (
            done ++ take w.in-Ok.count c.loop.rest.now,
            goes_on _ done c.loop.rest.now c.match-write.rest.now w.in-Ok.count split rest,
            appends_both _ _ _ _ _ appended w.in-Ok.ensures.bytes,
          )
      | in-Err w ↦ (
        done,
        split ∙ ap (λ (b : denote.Bor.Bor (List ℕ)). done ++ b.now) (sym w.rest-is),
        appends_kept _ _ _ _ appended w.in-Err.ensures.bytes,
      )
    ]
