use Rattle.std.proofs.Common.{Result, Ok, Err, IsOk, OnOk, ap, ◌∙◌}
use Rattle.std.proofs.lemmas.Bool.{false≢true}
use Rattle.std.specs.FinMap as map
use Rattle.ebs_lineage.specs.declared.link.Link.{Link}
use Rattle.ebs_lineage.specs.Kin.{KinTable}
use Rattle.ebs_lineage.proofs.HashMaps.{insert-hashed}
use Rattle.ebs_lineage.proofs.kin.Kin.add.Goals as goal

done : {T E : Type 0} {P : Type 0} (r : Result T E) → IsOk r → OnOk r P → P
done (Ok x) is p = p
done (Err e) is p = absurd (false≢true is)

pub returns-clause-links : goal.returns-clause-links
returns-clause-links c =
    let room = rw (← c.self.view_is) at c.requires in
    insert-hashed c.self.inside.links.entries c.insert.new.self.entries c.args.number c.fresh.result (done c.insert.result (c.insert.ensures.succeeds room) c.insert.ensures.updates).0
    ∙ ap (λ (k : KinTable). map.insert k.links c.args.number c.fresh.result) c.self.view_is
    ∙ ap (λ (l : Link). map.insert c.args.self.now.links c.args.number l) c.fresh.ensures
