use Rattle.std.proofs.Common.{Some, None, Option, refl, sym, ap, ◌∙◌}
use Rattle.std.specs.Ordering.{nat_cmp}
use Rattle.std.specs.FinMap.{get}
use Rattle.ebs_tables.specs.Full.{full, held}
use Rattle.ebs_bin.specs.Books.{Shelf}
use Rattle.ebs_catalog.specs.Held.{Held}
use Rattle.ebs_catalog.specs.Rooms.{kept_or}
use Rattle.ebs_catalog.proofs.Shelves.{book-at}
use Rattle.ebs_catalog.proofs.catalog.Catalog.prepare_fresh.Goals as goal

pub returns-clause-room : goal.returns-clause-room
returns-clause-room c =
    let account = c.args.account in
    let new = c.prepare.new.self in
    let none = ap (λ m. get m account) c.in_ok-prepare-2.ensures.held ∙ ap (λ (h : Held). get (full h.books) account) c.self.view_is ∙ c.requires in (
      refl,
      record {
        shelf = new;
        is = ap (λ (o : Option Shelf). kept_or o (Some new)) none;
        owner = c.in_ok-prepare.ensures.account ∙ c.new-rules.ensures.account;
        rules = c.in_ok-prepare.ensures.rules ∙ c.new-rules.ensures.rules ∙ sym (book-at (held nat_cmp c.prepare-2.new.self) account None none);
        room = c.in_ok-prepare.ensures.room;
        key = c.in_ok-prepare-2.ensures.ready;
      },
    )
