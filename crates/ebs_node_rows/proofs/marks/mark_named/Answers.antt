use Rattle.std.proofs.Common.{◌≡◌, refl, sym, ◌∙◌}
use Rattle.ebs_node_rows.specs.Marks.{IsIn}
use Rattle.ebs_node_rows.proofs.Marking.{marks_one}
use Rattle.ebs_node_rows.proofs.marks.mark_named.Goals as goal

pub returns-in_ok-insert : goal.returns-in_ok-insert
returns-in_ok-insert c =
    marks_one (λ q. (q ≡ c.args.number) × IsIn c.args.named.now q) c.args.wanted.now c.insert.new.self c.args.number c.in_ok-insert.ensures.ok
    (refl, sym c.contains.ensures ∙ c.if-contains.true) (λ q h. h.0)
