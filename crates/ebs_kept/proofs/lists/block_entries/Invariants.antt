use Rattle.std.proofs.Common.{◌≡◌, map, take}
use Rattle.ebs_model.specs.Tokens.{block_text}
use Rattle.ebs_kept.proofs.lists.block_entries.Given as goal

abbrev pub invariant-loop-entry : goal.invariant-loop-entry
invariant-loop-entry l = l.entries.items ≡ map (λ e. record { index = e.index; token = block_text l.secret l.key e.index l.expiry.second }) (take l.entry-index l.page)
