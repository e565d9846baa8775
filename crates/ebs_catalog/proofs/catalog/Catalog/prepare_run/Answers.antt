use Rattle.std.proofs.Common.{List, sym, subst}
use Rattle.ebs_model.specs.declared.keys.AnyKey.{AnyKey}
use Rattle.ebs_catalog.specs.Held.{Held}
use Rattle.ebs_catalog.specs.Rooms.{CoversMade}
use Rattle.ebs_catalog.proofs.RunRows.{made-room, always_ok}
use Rattle.ebs_catalog.proofs.catalog.Catalog.prepare_run.Goals as goal

pub returns-clause-made : goal.returns-clause-made
returns-clause-made c =
    let made = c.args.change.now.made in
    let before = c.prepare_made.new.self in
    let room = subst (λ (ids : List AnyKey). CoversMade before ids) c.as_slice.ensures c.in_ok-prepare_made.ensures.room in
    always_ok c.new_rows.result _ (subst (λ (h : Held). CoversMade h made) (sym c.in_ok-prepare_ended.ensures.rest) (made-room before c.prepare_ended.new.self.waits made room))
