-- What a catalog's tables show.
use Rattle.std.specs.Ordering.{nat_cmp}
use Rattle.ebs_tables.specs.Full.{slots_of}
use Rattle.ebs_model.specs.Keys.{snap_cmp, vol_cmp, token_cmp}
use Rattle.ebs_catalog.specs.declared.catalog.Catalog.TheInside.{Inside}
use Rattle.ebs_catalog.specs.Held.{Held}

abbrev pub shown : Inside → Held
shown c = record { snaps = slots_of snap_cmp c.snaps; owns = slots_of nat_cmp c.owns; tokens = slots_of token_cmp c.tokens; vols = slots_of vol_cmp c.vols; books = slots_of nat_cmp c.books; policies = c.policies; waits = slots_of snap_cmp c.waits; latest = c.latest.second }
