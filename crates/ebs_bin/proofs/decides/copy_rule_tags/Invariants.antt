use Rattle.std.proofs.Common.{◌≡◌, take}
use Rattle.ebs_bin.proofs.decides.copy_rule_tags.Given as goal

abbrev pub invariant-loop-tag : goal.invariant-loop-tag
invariant-loop-tag l = l.copies.items ≡ take l.tag-index l.tag-items
