use Rattle.std.proofs.Common.{subst}
use Rattle.ebs_model.specs.Rows.{book_of}
use Rattle.ebs_catalog.specs.Held.{rows_in}
use Rattle.ebs_catalog.specs.Rooms.{ruled_in, HasRuleRoom}
use Rattle.ebs_catalog.proofs.Ruled.{taken-shelf, taken-days}
use Rattle.ebs_catalog.proofs.catalog.Catalog.commit_rules.Goals as goal

pub commit_shelf-requires-clause-room : goal.commit_shelf-requires-clause-room
commit_shelf-requires-clause-room c =
    let h = c.args.self.now in
    let d = ruled_in h c.args.account c.args.at.second c.args.request.now in
    taken-shelf h c.args.account d c.in-Some.room c.requires.taken (subst (HasRuleRoom h c.args.account d) c.in-Some.is c.requires.room)

pub commit_shelf-requires-clause-days : goal.commit_shelf-requires-clause-days
commit_shelf-requires-clause-days c =
    let h = c.args.self.now in
    let d = ruled_in h c.args.account c.args.at.second c.args.request.now in
    taken-days h c.args.account (book_of (rows_in h) c.args.account) d c.in-Some.room c.requires.taken (subst (HasRuleRoom h c.args.account d) c.in-Some.is c.requires.room) c.requires.days
