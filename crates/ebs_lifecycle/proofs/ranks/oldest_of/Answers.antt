use Rattle.std.proofs.Common.{rules, ◌≡◌, ◌∙◌, ap, ◌≤◌, ◌-◌, length, get_or}
use Rattle.ebs_lifecycle.proofs.Oldest.{oldest}
use Rattle.ebs_lifecycle.proofs.ranks.oldest_of.Goals as goal

pub returns : goal.returns
returns c m =
    let sorted = c.sort.new.self.items in
    let fits : c.args.count ≤ length sorted = search rules in
    let len : c.len-2.result ≡ length sorted = search rules in
    let at = c.index.ensures ∙ ap (λ n. get_or sorted (n - c.args.count) c.index.result.now) len in
    oldest c.args.made.now c.in_ok-ranks.ranks.items sorted c.args.count c.index.result.now c.in_ok-ranks.ensures c.sort.ensures.permutation c.in_ok-sort.ensures.sorted c.requires.count fits at m
