use Rattle.ebs_regrown.proofs.Covered.{all_found, none_waits}
use Rattle.ebs_regrown.proofs.regrown.regrow.Goals as goal

pub let_go-requires-clause-linked : goal.let_go-requires-clause-linked
let_go-requires-clause-linked c = none_waits c.others_cover.ensures.none c.in_ok-grown.grown.backlog c.in_ok-grown.grown.lineage c.in_ok-grown.ensures.backlog c.in_ok-grown.ensures.places

pub let_go-requires-clause-covers : goal.let_go-requires-clause-covers
let_go-requires-clause-covers c = all_found c.args.rows.now c.in_ok-grown.grown.numbers c.in_ok-grown.grown.lineage c.in_ok-grown.ensures.grown c.keeps_lines.ensures
