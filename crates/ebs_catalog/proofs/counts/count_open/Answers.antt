use Rattle.std.proofs.Common.{◌+◌, zero-add, sym, ap, ◌∙◌}
use Rattle.std.specs.List.{count_by}
use Rattle.std.specs.FinMap.{get}
use Rattle.ebs_tables.specs.Full.{held}
use Rattle.ebs_model.specs.declared.keys.SnapKey.{SnapKey}
use Rattle.ebs_model.specs.Keys.{snap_cmp}
use Rattle.ebs_catalog.specs.Counts.{is_open}
use Rattle.ebs_catalog.proofs.CountLaws.{few, one_more, one_on}
use Rattle.ebs_catalog.proofs.counts.count_open.Goals as goal

pub loop-key-init : goal.loop-key-init
loop-key-init c = (zero-add _, few _ _ _ c.into_iter-key-iterator.ensures.into_iter_gives c.requires)

pub loop-key-preserved-then-is_open : goal.loop-key-preserved-then-is_open
loop-key-preserved-then-is_open c =
    let p = λ (e : SnapKey × Unit {0}). is_open c.args.account c.args.at.second e.0 (get (held snap_cmp c.args.snaps.now) e.0) in
    let counts = sym c.is_open.ensures ∙ c.if-is_open.true in (
      one_on _ _ ∙ ap (λ n. c.loop-key.count + n) (sym (one_more p (c.in-Some.key.now, tt) c.next.new.self (ap (is_open c.args.account c.args.at.second c.in-Some.key.now) (sym c.get.ensures) ∙ counts)) ∙ ap (count_by p) (sym c.in-Some.ensures.steps)) ∙ c.loop-key.invariant.0,
      c.loop-key.invariant.1,
    )
