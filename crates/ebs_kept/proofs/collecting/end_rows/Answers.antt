use Rattle.std.proofs.Common.{◌≤◌, ◌<◌, length, List, refl, sym, subst, ◌∙◌}
use Rattle.ebs_model.specs.declared.keys.SnapKey.{SnapKey}
use Rattle.ebs_catalog.specs.Held.{rows_in, stale}
use Rattle.ebs_kept.proofs.AsKept.{le_self}
use Rattle.ebs_kept.proofs.Ended.{keeps-same, keeps-both, keeps-alike, fewer-ended}
use Rattle.ebs_kept.proofs.collecting.end_rows.Goals as goal

pub loop-key-init : goal.loop-key-init
loop-key-init c = record { rows = refl; latest = c.requires; keeps = keeps-same c.args.now.second (rows_in c.args.catalog.now) c.args.holdings.now }

pub end-requires-clause-later : goal.end-requires-clause-later
end-requires-clause-later c = c.loop-key.invariant.latest

pub end-requires-clause-next : goal.end-requires-clause-next
end-requires-clause-next c = sym c.in-Some.ensures

pub loop-key-preserved : goal.loop-key-preserved
loop-key-preserved c =
    let now = c.args.now.second in
    let entry = rows_in c.args.catalog.now in
    let rows = c.end.ensures.rows ∙ c.loop-key.invariant.rows in
    record {
      rows = rows;
      latest = subst (λ n. n ≤ now) (sym c.end.ensures.latest) (le_self now);
      keeps = keeps-both now entry c.args.holdings.now c.loop-key.holdings c.drop_if_hidden.new.holdings c.loop-key.invariant.keeps
          (keeps-alike now (rows_in c.end.new.self) entry rows c.loop-key.holdings c.drop_if_hidden.new.holdings c.drop_if_hidden.ensures);
    }

pub loop-key-smaller : goal.loop-key-smaller
loop-key-smaller c =
    let now = c.args.now.second in
    subst (λ (keys : List SnapKey). length keys < length (stale c.loop-key.catalog now)) (sym (c.end.ensures.stale now)) (fewer-ended (stale c.loop-key.catalog now) c.in-Some.key (sym c.in-Some.ensures))

pub returns-clause-rows : goal.returns-clause-rows
returns-clause-rows c = c.loop-key.invariant.rows

pub returns-clause-latest : goal.returns-clause-latest
returns-clause-latest c = c.loop-key.invariant.latest

pub returns-clause-keeps : goal.returns-clause-keeps
returns-clause-keeps c = c.loop-key.invariant.keeps
