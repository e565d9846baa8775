use Rattle.std.proofs.Common.{Some, is_some, ap, ◌∙◌}
use Rattle.std.specs.FinMap.{get}
use Rattle.ebs_tables.specs.Seen.{seen}
use Rattle.ebs_tables.specs.Full.{full}
use Rattle.ebs_tables.proofs.FullLaws.{full-some, ready-same, surely}
use Rattle.ebs_tables.proofs.slots.Slots.fill.Goals as goal

pub returns-clause-held : goal.returns-clause-held
returns-clause-held g c =
    let o = g.met.K.Ord.total in
    let same = g.met.K.Key.exact in
    let m = seen g.K.Ord.cmp c.args.self.now.slots in
    ap full (surely c.insert.result _ _ c.insert.ensures.absent c.requires c.insert.ensures.ok) ∙ full-some o same m c.args.key c.args.value

pub returns-clause-ready : goal.returns-clause-ready
returns-clause-ready g c = λ q.
    let m = seen g.K.Ord.cmp c.args.self.now.slots in
    ap (λ x. is_some (get x q)) (surely c.insert.result _ _ c.insert.ensures.absent c.requires c.insert.ensures.ok)
    ∙ ready-same g.met.K.Ord.total m c.args.key (Some c.args.value) c.requires g.met.K.Key.exact q
