-- How the nodes that hide blocks stand.
use Rattle.std.specs.FinMap as map
use Rattle.ebs_lineage.specs.declared.hiders.Hiders.TheInside.{Inside}
use Rattle.ebs_lineage.specs.Hiders.{HiderTable, hiding_cmp}

abbrev pub hiders_shown : Inside → HiderTable
hiders_shown a = record { hidings = map.from_entries {R = hiding_cmp} a.hidings.entries; is_whole = a.is_whole }
