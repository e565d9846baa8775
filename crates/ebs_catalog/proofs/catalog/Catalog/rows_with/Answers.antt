use Rattle.std.proofs.Common.{◌+◌, ◌<◌, ◌^◌, arith, cond, refl, sym, ap, subst, ◌∙◌}
use Rattle.std.specs.FinMap.{get, contains_key, entries, len-entries}
use Rattle.ebs_tables.specs.Full.{full, held}
use Rattle.ebs_model.specs.Keys.{snap_cmp}
use Rattle.ebs_model.specs.declared.keys.SnapKey.{SnapKey}
use Rattle.ebs_model.specs.Access.{owns}
use Rattle.ebs_catalog.specs.declared.rows.KeptRow.{KeptRow}
use Rattle.ebs_catalog.specs.Held.{Held}
use Rattle.ebs_catalog.specs.Sound.{rows_at}
use Rattle.ebs_catalog.proofs.CountLaws.{few}
use Rattle.ebs_catalog.proofs.catalog.Catalog.rows_with.Goals as goal

pub more-requires : goal.more-requires
more-requires c =
    let m = held snap_cmp c.self.inside.snaps in
    let account = c.args.key.now.account in
    let rows = c.rows_of.ensures ∙ ap (λ (h : Held). rows_at (get (full h.owns) account)) (sym c.self.view_is) ∙ c.self.invariant.0.1.0.each account in
    let most = c.ready_len-most.ensures.values in
    let small = c.ready_len-most.ensures.small in
    let all = len-entries m in
    subst (λ n. n < 2 ^ 63) (sym rows) (few (λ (e : SnapKey × KeptRow). owns account e.0) (entries m) (entries m) refl (omega (arith, most, small, all)))

pub returns : goal.returns
returns c =
    let account = c.args.key.now.account in
    let known = c.contains-known.ensures ∙ ap (λ (h : Held). contains_key (full h.snaps) c.args.key.now) c.self.view_is in
    c.more.ensures ∙ (λ i. cond (known i) (c.rows_of.ensures i) (c.rows_of.ensures i + 1))
