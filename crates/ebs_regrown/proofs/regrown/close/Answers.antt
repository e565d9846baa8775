use Rattle.std.proofs.Common.{sym, subst}
use Rattle.ebs_regrown.specs.Regrown.{IsClosedBy}
use Rattle.ebs_regrown.proofs.Filling.{sealed, still_written}
use Rattle.ebs_regrown.proofs.regrown.close.Goals as goal

pub returns-then-not-writable : goal.returns-then-not-writable
returns-then-not-writable c =
    subst (λ writable. IsClosedBy c.args.lineage.now c.args.node.number writable c.seal.new.self) (sym c.if-not-writable.true)
    (sealed c.args.lineage.now c.args.node.number c.seal.new.self c.seal.ensures.value c.seal.ensures.arrays)

pub returns-else-not-writable : goal.returns-else-not-writable
returns-else-not-writable c =
    subst (λ writable. IsClosedBy c.args.lineage.now c.args.node.number writable c.args.lineage.now) (sym c.if-not-writable.false)
    (still_written c.args.lineage.now c.args.node.number c.requires c.keeps_lines.ensures)
