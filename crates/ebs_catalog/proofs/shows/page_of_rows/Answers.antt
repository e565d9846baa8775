use Rattle.std.proofs.Common.{◌≡◌, ◌∷◌, ◌++◌, map, cond, length, Some, None, sym, ap, ◌∙◌, arith}
use Rattle.std.specs.List.{filter}
use Rattle.ebs_model.specs.declared.answer.Answer.TheVariants.{SnapshotList}
use Rattle.ebs_model.specs.declared.keys.SnapKey.{SnapKey}
use Rattle.ebs_catalog.specs.declared.rows.KeptRow.{KeptRow}
use Rattle.ebs_catalog.specs.Shows.{is_listed, shown_row}
use Rattle.ebs_catalog.proofs.Listed.{ends-full, ends-last}
use Rattle.ebs_catalog.proofs.shows.page_of_rows.Goals as goal

pub returns-then-len-max : goal.returns-then-len-max
returns-then-len-max c =
    let p = is_listed c.args.bin c.args.account c.args.at.second c.args.from in
    let show = shown_row c.args.account c.args.at.second in
    let items = c.loop-key.views.items in
    let e : SnapKey × KeptRow = (c.in-Some.key.now, c.in-Some.kept.now) in
    let passes = sym c.is_listed.ensures ∙ c.if-is_listed.true in
    let rest = filter p c.next.new.self in
    let whole = ap (λ b. items ++ map show (cond b (e ∷ rest) rest)) (sym passes) ∙ ap (λ es. items ++ map show (filter p es)) (sym c.in-Some.ensures.steps) ∙ c.loop-key.invariant.0 ∙ ap (λ es. map show (filter p es)) c.into_iter-key-iterator.ensures.into_iter_gives in
    let long : length items ≡ c.args.max = omega arith in
    let at = ends-full show (λ v. v.key.number) (filter p c.args.rows) c.args.max items (show e) (map show rest) whole long in
    c.page.ensures ∙ (λ i. SnapshotList (Some (c.number.ensures.value i)) (c.from_vec.ensures i)) ∙ (λ i. SnapshotList (at.0 i) (at.1 i))

pub returns : goal.returns
returns c =
    let p = is_listed c.args.bin c.args.account c.args.at.second c.args.from in
    let show = shown_row c.args.account c.args.at.second in
    let items = c.loop-key.views.items in
    let whole = ap (λ es. items ++ map show (filter p es)) (sym c.in-None.ensures.steps.0) ∙ c.loop-key.invariant.0 ∙ ap (λ es. map show (filter p es)) c.into_iter-key-iterator.ensures.into_iter_gives in
    let at = ends-last show (λ v. v.key.number) (filter p c.args.rows) c.args.max items whole c.loop-key.invariant.1 in
    c.page-2.ensures ∙ ap (SnapshotList None) c.from_vec-2.ensures ∙ (λ i. SnapshotList (at.0 i) (at.1 i))
