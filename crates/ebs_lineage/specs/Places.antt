-- Where nodes stand among those that wait.
use Rattle.std.specs.Ordering.{nat_cmp}
use Rattle.std.specs.FinMap as map
use Rattle.std.specs.Coded.{Coded, coded_ℕ}
use Rattle.ebs_lineage.specs.declared.place.Place.{Place}
use Rattle.ebs_lineage.specs.contracts.place.Place as place

abbrev pub Places : Type 0
Places = map.FinMap nat_cmp Place

abbrev pub places_code : Coded Places
places_code = map.code coded_ℕ place.the_row.coded
