use Rattle.std.proofs.Common.{None, is_some, sym, ap, ◌∙◌}
use Rattle.std.specs.FinMap.{get}
use Rattle.ebs_tables.specs.Seen.{seen}
use Rattle.ebs_tables.specs.Full.{full}
use Rattle.ebs_tables.proofs.FullLaws.{flat, get-full, full-none, remove-none, ready-same, none_of}
use Rattle.ebs_tables.proofs.slots.Slots.take.Goals as goal

pub returns-then-not-contains-clause-value : goal.returns-then-not-contains-clause-value
returns-then-not-contains-clause-value g c =
    let m = seen g.K.Ord.cmp c.args.self.now.slots in
    sym (get-full g.met.K.Ord.total m c.args.key ∙ ap flat (none_of _ (sym c.contains.ensures ∙ c.if-not-contains.true)))

pub returns-then-not-contains-clause-held : goal.returns-then-not-contains-clause-held
returns-then-not-contains-clause-held g c =
    let o = g.met.K.Ord.total in
    let m = seen g.K.Ord.cmp c.args.self.now.slots in
    sym (remove-none o g.met.K.Key.exact (full m) c.args.key (get-full o m c.args.key ∙ ap flat (none_of _ (sym c.contains.ensures ∙ c.if-not-contains.true))))

pub returns-in-Ok-Some-clause-value : goal.returns-in-Ok-Some-clause-value
returns-in-Ok-Some-clause-value g c =
    let m = seen g.K.Ord.cmp c.args.self.now.slots in
    sym (ap flat c.in-Ok-Some.field-0-is) ∙ ap flat c.in-Ok-Some.ensures.old ∙ sym (get-full g.met.K.Ord.total m c.args.key)

pub returns-in-Ok-Some-clause-held : goal.returns-in-Ok-Some-clause-held
returns-in-Ok-Some-clause-held g c = ap full c.in-Ok-Some.ensures.ok ∙ full-none g.met.K.Ord.total g.met.K.Key.exact (seen g.K.Ord.cmp c.args.self.now.slots) c.args.key

pub returns-in-Ok-Some-clause-ready : goal.returns-in-Ok-Some-clause-ready
returns-in-Ok-Some-clause-ready g c = λ q.
    ap (λ x. is_some (get x q)) c.in-Ok-Some.ensures.ok
    ∙ ready-same g.met.K.Ord.total (seen g.K.Ord.cmp c.args.self.now.slots) c.args.key None (sym c.contains.ensures ∙ c.if-not-contains.false) g.met.K.Key.exact q
