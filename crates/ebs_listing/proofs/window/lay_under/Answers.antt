use Rattle.std.proofs.Common.{ℕ, ◌+◌, ◌<◌, arith, sym, subst}
use Rattle.ebs_listing.proofs.Windowed.{IsLaidTo, laid-one, laid-all}
use Rattle.ebs_listing.proofs.window.lay_under.Goals as goal

pub returns-in_default : goal.returns-in_default
returns-in_default c =
    laid-all c.args.lineage.now.table.nodes c.args.lineage.now.made c.keeps_lines.ensures c.args.node.number c.args.start c.args.window.now c.loop-from.window c.loop-from.from c.loop-from.invariant.0
    (λ q far less. c.in_default.ensures q far)

pub returns-then-from-window : goal.returns-then-from-window
returns-then-from-window c =
    let is = c.from.ensures in
    let beyond = c.if-from-window.true in
    laid-all c.args.lineage.now.table.nodes c.args.lineage.now.made c.keeps_lines.ensures c.args.node.number c.args.start c.args.window.now c.loop-from.window c.loop-from.from c.loop-from.invariant.0
    (λ q far less. c.in-Some.ensures.2 q far (omega (arith, less, is, beyond)))

pub loop-from-preserved : goal.loop-from-preserved
loop-from-preserved c =
    let nodes = c.args.lineage.now.table.nodes in
    let n = c.args.node.number in
    let now = c.loop-from.window in
    let new = c.shorten.new.window in
    let here = c.from.ensures in
    let inside = c.if-from-window.false in
    let is = c.from-from-in-loop-from.ensures in
    let less : c.in-Some.index < now.end = omega (arith, here, inside) in
    let top = c.loop-from.invariant.0.bounded.top in (
      subst (λ (p : ℕ). IsLaidTo nodes n c.args.start c.args.window.now new (p + 1)) (sym is)
          (laid-one nodes c.args.lineage.now.made c.keeps_lines.ensures n c.args.start c.args.window.now now new _ c.loop-from.from c.in-Some.index c.in-Some.block c.loop-from.invariant.0 c.in-Some.ensures less c.in_ok-add.ensures c.in_ok-shorten.ensures),
      omega (arith, is, less, top),
    )
