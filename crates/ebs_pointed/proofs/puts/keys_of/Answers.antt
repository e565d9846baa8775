use Rattle.std.proofs.Common.{◌++◌, sym, ap, ◌∙◌, append-nil}
use Rattle.std.specs.Map.{keys_of}
use Rattle.std.specs.FinMap as map
use Rattle.ebs_tables.specs.Full.{full}
use Rattle.ebs_pointed.proofs.Keys.{from_none}
use Rattle.ebs_pointed.proofs.puts.keys_of.Goals as goal

pub returns : goal.returns
returns c =
    sym (append-nil c.loop-index.indexes) ∙ ap (λ es. c.loop-index.indexes ++ keys_of es) (sym c.in-None.ensures.steps.0) ∙ c.loop-index.invariant
    ∙ ap keys_of (c.into_iter-index-iterator.ensures.into_iter_gives ∙ c.from-index-items.ensures.values ∙ from_none (map.entries (full c.args.put.now)))
