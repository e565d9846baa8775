use Rattle.std.proofs.Common.{sym, ap, ◌∙◌}
use Rattle.std.specs.Option.{option_map}
use Rattle.std.specs.FinMap.{get}
use Rattle.ebs_holds.specs.Holders.{of_vol}
use Rattle.ebs_holds.specs.Holds.{blocks_at}
use Rattle.ebs_kept.specs.inner.Shown.{Form, kept_block}
use Rattle.ebs_kept.proofs.Arrays.{get-kept}
use Rattle.ebs_kept.proofs.AsKept.{disk-at, le_self}
use Rattle.ebs_kept.proofs.kept.Kept.disk_block.Goals as goal

pub returns : goal.returns
returns c row found =
    let k = c.self.inside in
    let m = c.args.self.now.machine in
    let key = c.args.key.now in
    ap (option_map kept_block) (c.find.ensures ∙ ap (λ q. get (blocks_at k.holdings q) c.args.index) c.volume.ensures)
    ∙ sym (get-kept (blocks_at k.holdings (of_vol key)) c.args.index)
    ∙ ap (λ a. get a c.args.index) (sym (disk-at k m (ap (λ (f : Form). f.machine) c.self.view_is) m.clock (le_self m.clock.second) key row found))
