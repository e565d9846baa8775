use Rattle.std.proofs.Common.{◌≡◌, map, take}
use Rattle.std.specs.Option.{option_map}
use Rattle.ebs_model.specs.Tokens.{block_text}
use Rattle.ebs_kept.proofs.lists.changed_tokens.Given as goal

abbrev pub invariant-loop-entry : goal.invariant-loop-entry
invariant-loop-entry l = l.entries.items ≡ map (λ e. record {
  index = e.index;
  first = option_map (λ b. block_text l.secret l.first e.index l.expiry.second) e.first;
  second = option_map (λ b. block_text l.secret l.second e.index l.expiry.second) e.second;
}) (take l.entry-index l.page)
