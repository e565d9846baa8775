-- Lists in strictly ascending key.
use Rattle.std.specs.Prelude.{Bool, true, ◌&&◌, List, [], ◌∷◌}
use Rattle.std.specs.List.{list_all}
use Rattle.std.specs.declared.cmp.Ordering.{Ordering}
use Rattle.std.specs.Ordering.{nat_cmp, ordering_then, is_lt}
use Rattle.std.specs.Cmp.Lexicographic.{slice_cmp}
use Rattle.ebs_model.specs.declared.keys.RuleKey.{RuleKey}
use Rattle.ebs_model.specs.declared.keys.PolicyKey.{PolicyKey}
use Rattle.ebs_model.specs.declared.rules.Rule.{Rule}
use Rattle.ebs_model.specs.declared.policy.Policy.{Policy}
use Rattle.ebs_model.specs.Keys.{snap_cmp, vol_cmp}
use Rattle.ebs_checkpoints.specs.declared.owned.AccountRow.{AccountRow}
use Rattle.ebs_checkpoints.specs.declared.owned.TokenPoint.{TokenPoint}
use Rattle.ebs_checkpoints.specs.declared.owned.VolPoint.{VolPoint}
use Rattle.ebs_checkpoints.specs.declared.snapshots.SnapPoint.{SnapPoint}
use Rattle.ebs_checkpoints.specs.declared.nodes.NodeRow.{NodeRow}
use Rattle.ebs_checkpoints.specs.declared.nodes.EntryRow.{EntryRow}
use Rattle.ebs_checkpoints.specs.declared.nodes.CopyRow.{CopyRow}
use Rattle.ebs_checkpoints.specs.declared.nodes.SlotRow.{SlotRow}
use Rattle.ebs_checkpoints.specs.declared.checkpoint.Checkpoint.{Checkpoint}

-- each is below the next
abbrev pub rises : {X : Type 0} → (X → X → Bool) → List X → Bool
rises below [] = true
rises below (x ∷ []) = true
rises below (x ∷ y ∷ xs) = below x y && rises below (y ∷ xs)

-- each row's key is below the next row's
abbrev pub ascends : {K X : Type 0} → (K → K → Ordering) → (X → K) → List X → Bool
ascends cmp key rows = rises (λ a b. is_lt (cmp (key a) (key b))) rows

abbrev pub rule_cmp : RuleKey → RuleKey → Ordering
rule_cmp a b = ordering_then (nat_cmp a.account b.account) (nat_cmp a.number b.number)

abbrev pub policy_cmp : PolicyKey → PolicyKey → Ordering
policy_cmp a b = ordering_then (nat_cmp a.account b.account) (nat_cmp a.number b.number)

-- an account's client tokens, by their bytes
abbrev pub has_ordered_tokens : AccountRow → Bool
has_ordered_tokens account = ascends (slice_cmp nat_cmp) (λ (t : TokenPoint). t.text) account.tokens

-- the indexes that were put, the accounts that it is shared with, and its copies by their indexes
abbrev pub has_ordered_parts : SnapPoint → Bool
has_ordered_parts row =
    ascends nat_cmp (λ n. n) row.put && (ascends nat_cmp (λ n. n) row.shared && ascends nat_cmp (λ (c : CopyRow). c.index) row.copies)

abbrev pub has_ordered_entries : NodeRow → Bool
has_ordered_entries node = ascends nat_cmp (λ (e : EntryRow). e.index) node.entries

abbrev pub has_ordered_accounts : List AccountRow → Bool
has_ordered_accounts accounts = ascends nat_cmp (λ (a : AccountRow). a.account) accounts

-- accounts, snapshots, volumes, rules and policies
abbrev pub has_ordered_rows : Checkpoint → Bool
has_ordered_rows point =
    has_ordered_accounts point.accounts
    && (ascends snap_cmp (λ (s : SnapPoint). s.key) point.snapshots
    && (ascends vol_cmp (λ (v : VolPoint). v.row.key) point.volumes
    && (ascends rule_cmp (λ (r : Rule). r.key) point.rules && ascends policy_cmp (λ (p : Policy). p.key) point.policies)))

-- nodes, and the slots of both areas
abbrev pub has_ordered_blocks : Checkpoint → Bool
has_ordered_blocks point =
    ascends nat_cmp (λ (n : NodeRow). n.number) point.nodes
    && (ascends nat_cmp (λ (s : SlotRow). s.key) point.standard && ascends nat_cmp (λ (s : SlotRow). s.key) point.archive)

-- the lists within rows and nodes
abbrev pub has_ordered_members : Checkpoint → Bool
has_ordered_members point =
    list_all has_ordered_tokens point.accounts && (list_all has_ordered_parts point.snapshots && list_all has_ordered_entries point.nodes)

-- every list that has an order is strictly ascending
abbrev pub is_ordered : Checkpoint → Bool
is_ordered point = has_ordered_rows point && (has_ordered_blocks point && has_ordered_members point)
