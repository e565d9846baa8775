use Rattle.std.proofs.Common.{◌≤◌, arith, Ok, sym, ap, subst, ◌∙◌}
use Rattle.ebs_model.specs.declared.request.Request.TheVariants.{ReadVolumeBlock}
use Rattle.ebs_model.specs.declared.change.Decision.TheVariants.{Read}
use Rattle.ebs_model.specs.Machine.{advance, rows_of}
use Rattle.ebs_model.specs.Decide.{decide}
use Rattle.ebs_model.specs.inner.Follows.{Agrees}
use Rattle.ebs_kept.proofs.Decided.{volume-read}
use Rattle.ebs_kept.proofs.Timely.{sized}
use Rattle.ebs_kept.proofs.Changed.{below-32}
use Rattle.ebs_kept.proofs.Wants.{weaker}
use Rattle.std.specs.declared.option.Option.{Option}
use Rattle.ebs_model.specs.declared.array.Block.{Block}
use Rattle.ebs_kept.proofs.kept.Kept.fetch.Goals as goal

pub disk_block-requires : goal.disk_block-requires
disk_block-requires c =
    let rows = rows_of (advance c.args.self.now.machine c.args.now) in
    let given = subst (λ r. Agrees r (decide rows c.args.now c.args.account (ReadVolumeBlock c.args.key.now c.args.index))) c.in-Ok.is c.decide-decided.ensures.decided in
    let (volume, found, size) = volume-read rows c.args.now c.args.account c.args.key.now c.args.index (Read c.in-Read.row) (sym given ∙ ap Ok c.in-Read.is) in
    let fits = subst (λ n. n ≤ 16384) (sym size) (sized volume.size (c.keeps_volumes.ensures c.args.key.now volume found)) in
    let within = c.if-index-blocks_of.false in
    let blocks = c.blocks_of.ensures in
    below-32 c.in-Read.row.size c.args.index fits (omega (arith, within, blocks))

pub returns-in-Err-clause-memory : goal.returns-in-Err-clause-memory
returns-in-Err-clause-memory c = weaker (Option Block) _ _ c.decide-decided.result c.in-Err.failure c.in-Err.is (λ h. h) c.decide-decided.ensures.memory
