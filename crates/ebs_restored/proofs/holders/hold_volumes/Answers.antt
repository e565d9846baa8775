use Rattle.std.proofs.Common.{[], ◌-◌, length, subst, sym, arith}
use Rattle.std.proofs.lemmas.List.{drop_all}
use Rattle.std.specs.Prelude.{IsSome}
use Rattle.std.specs.FinMap as fin
use Rattle.ebs_checkpoints.specs.declared.owned.VolPoint.{VolPoint}
use Rattle.ebs_tables.specs.Full.{held}
use Rattle.ebs_holds.specs.Holders.{holder_cmp}
use Rattle.ebs_restored.specs.Holders.{HaveNodes, named}
use Rattle.ebs_restored.proofs.Naming.{none_has, row_numbered}
use Rattle.ebs_restored.proofs.holders.hold_volumes.Goals as goal

pub loop-at-init : goal.loop-at-init
loop-at-init c =
    let volumes = c.args.volumes.now in
    let nodes = held holder_cmp c.args.nodes.now in (
      omega arith,
      subst (λ vs. HaveNodes c.args.numbers.now (named [] vs) nodes) (sym (drop_all (length volumes) volumes (omega arith))) (none_has c.args.numbers.now nodes c.requires.none),
    )

pub hold-requires : goal.hold-requires
hold-requires c =
    subst (λ (row : VolPoint). IsSome (fin.get c.args.numbers.now row.node)) (sym c.index-volumes-at.is)
    (row_numbered c.args.numbers.now (λ (row : VolPoint). row.node) c.args.volumes.now (c.loop-at.at - 1) c.index-volumes-at.result
    (let some = c.loop-at-test.true in let within = c.loop-at.invariant.0 in omega (arith, some, within)) c.requires.numbered)
