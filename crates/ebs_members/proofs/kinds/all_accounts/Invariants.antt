use Rattle.std.proofs.Common.{◌≡◌, drop}
use Rattle.serde_json.specs.View.{items_view}
use Rattle.ebs_members.specs.Kinds.{account_in, all_of}
use Rattle.ebs_members.proofs.ItemLists.{joined}
use Rattle.ebs_members.proofs.kinds.all_accounts.Given as goal

abbrev pub invariant-loop-item : goal.invariant-loop-item
invariant-loop-item l = joined l.accounts.items (all_of account_in (items_view (drop l.item-index l.items))) ≡ all_of account_in (items_view l.items)
