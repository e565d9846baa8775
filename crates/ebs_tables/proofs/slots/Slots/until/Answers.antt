use Rattle.std.proofs.Common.{arith, sym, ap, ◌∙◌}
use Rattle.std.specs.List.{filter}
use Rattle.ebs_tables.specs.Seen.{is_within}
use Rattle.ebs_tables.specs.Full.{filled, slots_of}
use Rattle.ebs_tables.proofs.FullLaws.{filled-shorter, filter-filled, entries-full}
use Rattle.ebs_tables.proofs.slots.Slots.until.Goals as goal

pub returns-clause-fits : goal.returns-clause-fits
returns-clause-fits g c = let shorter = filled-shorter c.until.result in let fits = c.until.ensures.fits in omega (arith, shorter, fits)

pub returns-clause-values : goal.returns-clause-values
returns-clause-values g c =
    let m = slots_of g.K.Ord.cmp c.args.self.now in
    ap filled c.until.ensures.values
    ∙ filter-filled (λ e. is_within g.K.Ord.cmp c.args.start.now c.args.end.now e) _
    ∙ ap (filter (λ e. is_within g.K.Ord.cmp c.args.start.now c.args.end.now e.0)) (sym (entries-full g.met.K.Ord.total m))
