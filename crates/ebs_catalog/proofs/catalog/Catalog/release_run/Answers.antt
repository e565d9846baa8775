use Rattle.std.proofs.Common.{List, sym, subst}
use Rattle.ebs_model.specs.declared.keys.AnyKey.{AnyKey}
use Rattle.ebs_catalog.specs.Held.{Held}
use Rattle.ebs_catalog.specs.Rooms.{FreeMade}
use Rattle.ebs_catalog.proofs.RunRows.{made-beside}
use Rattle.ebs_catalog.proofs.catalog.Catalog.release_run.Goals as goal

pub returns-clause-made : goal.returns-clause-made
returns-clause-made c =
    let made = c.args.made.now in
    let free = subst (λ (ids : List AnyKey). FreeMade c.release_made.new.self ids) c.as_slice.ensures c.release_made.ensures.free in
    subst (λ (h : Held). FreeMade h made) (sym c.release_ended.ensures.rest) (made-beside c.release_made.new.self c.release_ended.new.self.waits made free)
