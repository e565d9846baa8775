use Rattle.std.proofs.Common.{◌≡◌, drop}
use Rattle.serde_json.specs.View.{items_view}
use Rattle.ebs_members.specs.Kinds.{rule_tag_of, all_of}
use Rattle.ebs_members.proofs.ItemLists.{joined}
use Rattle.ebs_members.proofs.rules.all_rule_tags.Given as goal

abbrev pub invariant-loop-item : goal.invariant-loop-item
invariant-loop-item l = joined l.tags.items (all_of rule_tag_of (items_view (drop l.item-index l.items))) ≡ all_of rule_tag_of (items_view l.items)
