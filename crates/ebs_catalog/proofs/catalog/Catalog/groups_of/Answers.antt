use Rattle.std.proofs.Common.{◌≡◌, ◌+◌, arith, false, [], length, Some, None, unwrap_or, ap, subst, ◌∙◌}
use Rattle.std.specs.List.{filter}
use Rattle.std.specs.FinMap.{entries, get-empty}
use Rattle.ebs_tables.specs.Full.{full}
use Rattle.ebs_model.specs.declared.rows.Own.{Own}
use Rattle.ebs_model.specs.Keys.{vol_cmp}
use Rattle.ebs_model.specs.Calls.Start.{next_key}
use Rattle.ebs_model.specs.Calls.Run.{due_targets}
use Rattle.ebs_catalog.specs.Held.{rows_in}
use Rattle.ebs_catalog.specs.Shows.{is_listed}
use Rattle.ebs_catalog.specs.Runs.{group, added_rows, added_new}
use Rattle.ebs_catalog.proofs.Due.{keys-length}
use Rattle.ebs_catalog.proofs.Grouped.{grouped}
use Rattle.ebs_catalog.proofs.catalog.Catalog.groups_of.Goals as goal

pub overflow_cast-next : goal.overflow_cast-next
overflow_cast-next c =
    let rows = rows_in c.args.self.now in
    let volumes = due_targets rows c.args.key.now c.args.policy.now c.args.at.second in
    let count : c.len.result ≡ length volumes = c.len.ensures ∙ ap length c.requires.made ∙ keys-length (next_key rows c.args.key.now.account) volumes in
    omega (arith, count, c.requires.numbers)

pub overflow_add-next : goal.overflow_add-next
overflow_add-next c =
    let rows = rows_in c.args.self.now in
    let volumes = due_targets rows c.args.key.now c.args.policy.now c.args.at.second in
    let count : c.len.result ≡ length volumes = c.len.ensures ∙ ap length c.requires.made ∙ keys-length (next_key rows c.args.key.now.account) volumes in
    let first : c.own_of-first.result.next_snap ≡ (next_key rows c.args.key.now.account).number = ap (λ (own : Own). own.next_snap) c.own_of-first.ensures in
    omega (arith, count, first, c.requires.numbers)

pub returns : goal.returns
returns c = λ v.
    let at = c.args.at in
    let key = c.args.key.now in
    let policy = c.args.policy.now in
    let rows = rows_in c.args.self.now in
    let m = full c.args.self.now.snaps in
    let volumes = due_targets rows key policy at.second in
    let before = c.rows_from-before.result in
    let after = c.rows_from-after.result in
    let count : c.len.result ≡ length volumes = c.len.ensures ∙ ap length c.requires.made ∙ keys-length (next_key rows key.account) volumes in
    let first : c.own_of-first.result.next_snap ≡ (next_key rows key.account).number = ap (λ (own : Own). own.next_snap) c.own_of-first.ensures in
    let next : c.own_of-first.result.next_snap + c.len.result ≡ (next_key rows key.account).number + length volumes = λ i. first i + count i in
    let made = c.as_slice.ensures ∙ c.requires.made in
    let sources = c.as_slice-2.ensures ∙ c.requires.sources in
    let none = ap (λ g. group g v) c.new-groups.ensures ∙ ap (λ o. unwrap_or o []) (get-empty vol_cmp v) in
    c.in_ok-add_rows-2.ensures v
    ∙ ap (added_rows key (c.own_of-first.result.next_snap + c.len.result) None at.second v after)
    (c.in_ok-add_new.ensures v ∙ ap (added_new at v c.as_slice.result.now c.as_slice-2.result.now) (c.in_ok-add_rows.ensures v ∙ ap (added_rows key 0 (Some c.own_of-first.result.next_snap) at.second v before) none))
    ∙ (λ i. added_rows key (next i) None at.second v after (added_new at v (made i) (sources i) (added_rows key 0 (Some (first i)) at.second v before [])))
    ∙ grouped at key policy v m rows before after (c.rows_from-before.ensures false at.second)
    (subst (λ n. filter (is_listed false key.account at.second n) after ≡ filter (is_listed false key.account at.second n) (entries m)) next (c.rows_from-after.ensures false at.second))
