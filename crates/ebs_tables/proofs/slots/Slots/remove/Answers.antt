use Rattle.std.proofs.Common.{sym, ap, ◌∙◌}
use Rattle.ebs_tables.specs.Full.{full, slots_of}
use Rattle.ebs_tables.proofs.FullLaws.{flat, get-full, full-remove}
use Rattle.ebs_tables.proofs.slots.Slots.remove.Goals as goal

pub returns-in_err-remove-clause-value : goal.returns-in_err-remove-clause-value
returns-in_err-remove-clause-value g c =
    c.from_residual.ensures ∙ ap flat (sym c.in_err-remove.was ∙ c.remove.ensures.value)
    ∙ sym (get-full g.met.K.Ord.total (slots_of g.K.Ord.cmp c.args.self.now) c.args.key.now)

pub returns-in_err-remove-clause-held : goal.returns-in_err-remove-clause-held
returns-in_err-remove-clause-held g c =
    ap full c.remove.ensures.rest ∙ full-remove g.met.K.Ord.total g.met.K.Key.exact (slots_of g.K.Ord.cmp c.args.self.now) c.args.key.now

pub returns-clause-value : goal.returns-clause-value
returns-clause-value g c =
    ap flat (sym c.in_ok-remove.was ∙ c.remove.ensures.value)
    ∙ sym (get-full g.met.K.Ord.total (slots_of g.K.Ord.cmp c.args.self.now) c.args.key.now)

pub returns-clause-held : goal.returns-clause-held
returns-clause-held g c =
    ap full c.remove.ensures.rest ∙ full-remove g.met.K.Ord.total g.met.K.Key.exact (slots_of g.K.Ord.cmp c.args.self.now) c.args.key.now
