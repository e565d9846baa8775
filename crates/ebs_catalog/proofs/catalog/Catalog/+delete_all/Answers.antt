use Rattle.std.proofs.Common.{not, List, sym, ap, subst, ◌∙◌, arith}
use Rattle.std.specs.List.{filter}
use Rattle.ebs_model.specs.declared.keys.AnyKey.{AnyKey}
use Rattle.ebs_model.specs.Rows.{Rows}
use Rattle.ebs_model.specs.inner.Rows.{aged}
use Rattle.ebs_catalog.specs.Held.{rows_in, stale}
use Rattle.ebs_catalog.specs.PolicyCalls.{is_id, is_among}
use Rattle.ebs_catalog.specs.Rooms.{CoversEnded}
use Rattle.ebs_catalog.specs.Runs.{snaps_of, AreThere, AreDistinct}
use Rattle.ebs_catalog.proofs.OneByOne.{rest_of, fewer, first-rest, first-apart, later-room, later-there, filter-twice, among-none}
use Rattle.ebs_catalog.proofs.catalog.Catalog.+delete_all.Goals as goal

pub delete_all-requires : goal.delete_all-requires
delete_all-requires t c =
    let keys = c.args.keys.now in
    let id = c.id-item.result in
    let is = first-rest keys id c.in-len1-up.len_at_least c.id-item.is in
    let rest = snaps_of (rest_of keys) in
    let apart = first-apart id rest (subst (λ l. AreDistinct (snaps_of l)) is c.requires.distinct) in
    let rows = aged c.args.at.second (rows_in c.args.self.now) in
    let less = fewer keys c.in-len1-up.len_at_least in
    let room = subst (CoversEnded c.args.self.now) is c.requires.room in
    let there = later-there rows c.args.at id rest apart.0 (subst (λ l. AreThere rows (snaps_of l)) is c.requires.there) in (
      omega (arith, less, c.decreases),
      (
        c.requires.moment,
        (
          later-room c.args.self.now c.delete_one.new.self id c.delete_one.ensures.others (rest_of keys) apart.0 room.1,
          (subst (λ (r : Rows). AreThere r rest) (sym c.delete_one.ensures.rows) there, apart.1),
        ),
      ),
    )

pub returns-in-empty-clause-stale : goal.returns-in-empty-clause-stale
returns-in-empty-clause-stale t c = sym (among-none c.args.keys.now c.in-empty.len_below (stale c.args.self.now c.args.at.second))

pub returns-in-len1-up-clause-stale : goal.returns-in-len1-up-clause-stale
returns-in-len1-up-clause-stale t c =
    let keys = c.args.keys.now in
    let id = c.id-item.result in
    let before = stale c.args.self.now c.args.at.second in
    let is = first-rest keys id c.in-len1-up.len_at_least c.id-item.is in
    c.delete_all.ensures.stale
    ∙ ap (filter (λ q. not (is_among q (rest_of keys)))) c.delete_one.ensures.stale
    ∙ filter-twice (λ q. is_id q id) (λ q. is_among q (rest_of keys)) before
    ∙ ap (λ (l : List AnyKey). filter (λ q. not (is_among q l)) before) (sym is)
