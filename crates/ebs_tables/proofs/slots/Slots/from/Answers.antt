use Rattle.std.proofs.Common.{arith, sym, ap, ◌∙◌}
use Rattle.std.specs.List.{filter}
use Rattle.std.specs.Ordering.{is_le}
use Rattle.ebs_tables.specs.Full.{filled, slots_of}
use Rattle.ebs_tables.proofs.FullLaws.{filled-shorter, filter-filled, entries-full}
use Rattle.ebs_tables.proofs.slots.Slots.from.Goals as goal

pub returns-clause-fits : goal.returns-clause-fits
returns-clause-fits g c = let shorter = filled-shorter c.from.result in let fits = c.from.ensures.fits in omega (arith, shorter, fits)

pub returns-clause-values : goal.returns-clause-values
returns-clause-values g c =
    let m = slots_of g.K.Ord.cmp c.args.self.now in
    ap filled c.from.ensures.values
    ∙ filter-filled (λ e. is_le (g.K.Ord.cmp c.args.key.now e)) _
    ∙ ap (filter (λ e. is_le (g.K.Ord.cmp c.args.key.now e.0))) (sym (entries-full g.met.K.Ord.total m))
