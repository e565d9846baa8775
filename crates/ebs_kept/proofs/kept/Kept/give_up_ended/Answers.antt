use Rattle.std.proofs.Common.{arith, refl, sym, ap, subst, ◌∙◌}
use Rattle.ebs_catalog.specs.Held.{rows_in}
use Rattle.ebs_kept.specs.inner.Shown.{Form, IsSound}
use Rattle.ebs_kept.proofs.Ended.{keeps-both, keeps-alike, ended-shown}
use Rattle.ebs_kept.proofs.kept.Kept.give_up_ended.Goals as goal

pub end_rows-requires : goal.end_rows-requires
end_rows-requires c = c.self.invariant.1.0

pub invariant_of-self : goal.invariant_of-self
invariant_of-self c =
    let k = c.self.inside in
    let now = k.clock.second in
    let is = ap (λ (f : Form). f.machine) c.self.view_is in
    let new = record k { catalog = c.end_rows.new.catalog; holdings = c.drop_unshown.new.holdings } in
    let second = keeps-alike now (rows_in c.end_rows.new.catalog) (rows_in k.catalog) c.end_rows.ensures.rows c.end_rows.new.holdings c.drop_unshown.new.holdings c.drop_unshown.ensures.keeps in
    let keeps = keeps-both now (rows_in k.catalog) k.holdings c.end_rows.new.holdings c.drop_unshown.new.holdings c.end_rows.ensures.keeps second in
    (subst IsSound (sym (ended-shown k new refl refl c.end_rows.ensures.rows keeps ∙ is)) (subst IsSound is c.self.invariant.0), (c.end_rows.ensures.latest, λ _. c.drop_unshown.ensures.shown))

pub returns-clause-machine : goal.returns-clause-machine
returns-clause-machine c =
    let k = c.self.inside in
    let now = k.clock.second in
    let new = record k { catalog = c.end_rows.new.catalog; holdings = c.drop_unshown.new.holdings } in
    let second = keeps-alike now (rows_in c.end_rows.new.catalog) (rows_in k.catalog) c.end_rows.ensures.rows c.end_rows.new.holdings c.drop_unshown.new.holdings c.drop_unshown.ensures.keeps in
    let keeps = keeps-both now (rows_in k.catalog) k.holdings c.end_rows.new.holdings c.drop_unshown.new.holdings c.end_rows.ensures.keeps second in
    ended-shown k new refl refl c.end_rows.ensures.rows keeps ∙ ap (λ (f : Form). f.machine) c.self.view_is

pub returns-clause-blocks : goal.returns-clause-blocks
returns-clause-blocks c = rw (← c.self.view_is) (λ n. c.drop_unshown.ensures.keeps.blocks n ∙ c.end_rows.ensures.keeps.blocks n)

pub returns-clause-shown : goal.returns-clause-shown
returns-clause-shown c = c.drop_unshown.ensures.shown

pub returns-clause-waiting : goal.returns-clause-waiting
returns-clause-waiting c = rw (← c.self.view_is) (omega (arith, c.end_rows.ensures.keeps.grows, c.drop_unshown.ensures.keeps.grows))

pub returns-then-self-clause-shown : goal.returns-then-self-clause-shown
returns-then-self-clause-shown c = rw (← c.self.view_is) (c.self.invariant.1.1 c.if-self.true)
