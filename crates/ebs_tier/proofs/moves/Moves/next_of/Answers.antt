use Rattle.std.proofs.Common.{ap, sym, ◌∙◌}
use Rattle.std.specs.Prelude.{slice_get}
use Rattle.std.specs.FinMap.{entries, entries_sorted}
use Rattle.ebs_tables.specs.Seen.{seen}
use Rattle.ebs_tier.specs.Waiting.{Waits, wanted_cmp, waiting_of}
use Rattle.ebs_tier.proofs.Least.{Pairs, least, picked}
use Rattle.ebs_tier.proofs.moves.Moves.next_of.Goals as goal

pub returns-in-Some : goal.returns-in-Some
returns-in-Some c =
    let m : Waits = seen wanted_cmp c.self.inside.waiting in
    c.of_key.ensures ∙ ap (λ (es : Pairs). picked c.args.key es) (sym c.in-Some.ensures.steps ∙ c.from.ensures.values) ∙ least c.args.key (entries m) (entries_sorted m)
    ∙ ap (λ (w : Waits). slice_get (waiting_of w c.args.key) 0) c.self.view_is

pub returns-in-None : goal.returns-in-None
returns-in-None c =
    let m : Waits = seen wanted_cmp c.self.inside.waiting in
    ap (λ (es : Pairs). picked c.args.key es) (sym c.in-None.ensures.steps.0 ∙ c.from.ensures.values) ∙ least c.args.key (entries m) (entries_sorted m)
    ∙ ap (λ (w : Waits). slice_get (waiting_of w c.args.key) 0) c.self.view_is
