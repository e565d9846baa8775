use Rattle.std.proofs.Common.{rules, arith, ap, ◌<◌, ◌≤◌}
use Rattle.ebs_turns.proofs.Passes.{counts, uncounts, splits}
use Rattle.ebs_turns.proofs.turns.Turns.split.Goals as goal

pub fetch_add-requires : goal.fetch_add-requires
fetch_add-requires g c = let r = c.requires.rests in (c.requires.at.table_is, omega arith, counts g.T.Subject.follows _ _ _ _ r.tally r.held r.refused)

pub fetch_sub-requires : goal.fetch_sub-requires
fetch_sub-requires g c = let full : c.args.self.now.board.shared.key.passes ≤ c.fetch_add.result = omega arith in let is = (c.fetch_add.ensures.2.1 c.args.self.now.board.shared.key c.requires.at.about).1 full in
    (search rules, omega arith, uncounts g.T.Subject.follows _ _ _ _ (omega (arith, ap (λ v. v.tally) is, c.requires.rests.tally)) (ap (λ v. v.refused) is))

pub split_seat-seat-requires : goal.split_seat-seat-requires
split_seat-seat-requires g c = let room : c.fetch_add.result < c.args.self.now.board.shared.key.passes = omega arith in let is = ((c.fetch_add.ensures.2.1 c.args.self.now.board.shared.key c.requires.at.about).0 room).0 in
    (search rules, omega arith, splits g.T.Subject.follows _ _ _ (omega (arith, ap (λ v. v.tally) is, c.requires.rests.tally)) (ap (λ v. v.held) is))
