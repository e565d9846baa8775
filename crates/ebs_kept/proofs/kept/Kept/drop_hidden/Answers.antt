use Rattle.std.proofs.Common.{Some, sym, ap, subst, cond, ◌∙◌}
use Rattle.std.specs.FinMap.{get, remove, empty}
use Rattle.ebs_catalog.specs.Held.{rows_in}
use Rattle.ebs_holds.specs.declared.holder.Holder.{Holder}
use Rattle.ebs_holds.specs.Holders.{is_holder, of_snap, of_vol}
use Rattle.ebs_holds.specs.Holds.{held_in, blocks_at}
use Rattle.ebs_kept.specs.inner.Room.{HasNoArray}
use Rattle.ebs_kept.specs.inner.Shown.{Form, IsSound, kept_array, with_disks, shown}
use Rattle.ebs_kept.proofs.Slotted.{dropped-all}
use Rattle.ebs_kept.proofs.Unseen.{dropped-shown, none-there, none-stays}
use Rattle.ebs_kept.proofs.kept.Kept.drop_hidden.Goals as goal

pub invariant_of-self : goal.invariant_of-self
invariant_of-self c =
    let k = c.self.inside in
    let is = ap (λ (f : Form). f.machine) c.self.view_is in
    let hidden = sym c.has_blocks.ensures ∙ c.if-not-has_blocks.true in
    let dropped = λ (q : Holder). c.drop_array.ensures.arrays q ∙ ap (λ (h : Holder). cond (is_holder q h) empty (blocks_at k.holdings q)) c.snapshot.ensures in
    let snaps = dropped-shown k.clock.second (rows_in k.catalog).snaps k.holdings c.drop_array.new.self c.args.key.now hidden dropped in
    let same = (λ i. record (shown k) { snaps = snaps i; disks = with_disks (rows_in k.catalog).vols (λ q. kept_array (dropped (of_vol q) i)) }) ∙ is in
    (subst IsSound (sym same) (subst IsSound is c.self.invariant.0), (c.self.invariant.1.0, λ set. dropped-all k.clock.second (rows_in k.catalog) k.holdings c.drop_array.new.self (of_snap c.args.key.now) dropped (c.self.invariant.1.1 set)))

pub returns-then-not-has_blocks-clause-machine : goal.returns-then-not-has_blocks-clause-machine
returns-then-not-has_blocks-clause-machine c =
    let k = c.self.inside in
    let is = ap (λ (f : Form). f.machine) c.self.view_is in
    let hidden = sym c.has_blocks.ensures ∙ c.if-not-has_blocks.true in
    let dropped = λ (q : Holder). c.drop_array.ensures.arrays q ∙ ap (λ (h : Holder). cond (is_holder q h) empty (blocks_at k.holdings q)) c.snapshot.ensures in
    let snaps = dropped-shown k.clock.second (rows_in k.catalog).snaps k.holdings c.drop_array.new.self c.args.key.now hidden dropped in
    (λ i. record (shown k) { snaps = snaps i; disks = with_disks (rows_in k.catalog).vols (λ q. kept_array (dropped (of_vol q) i)) }) ∙ is

pub returns-then-not-has_blocks-clause-dropped : goal.returns-then-not-has_blocks-clause-dropped
returns-then-not-has_blocks-clause-dropped c h =
    let k = c.self.inside in
    ap (λ a. get a (of_snap c.args.key.now)) (c.drop_array.ensures.held ∙ ap (remove (held_in k.holdings)) c.snapshot.ensures) ∙ none-there (held_in k.holdings) (of_snap c.args.key.now)

pub returns-then-not-has_blocks-clause-others : goal.returns-then-not-has_blocks-clause-others
returns-then-not-has_blocks-clause-others c q before hidden =
    let k = c.self.inside in
    ap (λ a. get a (of_snap q)) c.drop_array.ensures.held
    ∙ none-stays (held_in k.holdings) c.snapshot.result (of_snap q) (subst (λ (f : Form). HasNoArray f (Some q)) (sym c.self.view_is) before hidden)
