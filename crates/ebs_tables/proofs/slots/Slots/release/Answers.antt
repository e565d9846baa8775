use Rattle.std.proofs.Common.{sym, ap, ◌∙◌}
use Rattle.ebs_tables.specs.Full.{full, slots_of}
use Rattle.ebs_tables.proofs.FullLaws.{full-remove, remove-none, none_of}
use Rattle.ebs_tables.proofs.slots.Slots.release.Goals as goal

pub returns-then-not-contains-clause-held : goal.returns-then-not-contains-clause-held
returns-then-not-contains-clause-held g c =
    let o = g.met.K.Ord.total in
    let same = g.met.K.Key.exact in
    let m = slots_of g.K.Ord.cmp c.args.self.now in
    ap full c.remove.ensures.rest
    ∙ full-remove o same m c.args.key.now
    ∙ remove-none o same (full m) c.args.key.now (none_of _ (sym c.contains.ensures ∙ c.if-not-contains.true))
