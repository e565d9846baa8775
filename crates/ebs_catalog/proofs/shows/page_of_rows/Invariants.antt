use Rattle.std.proofs.Common.{◌≡◌, ◌≤◌, ◌++◌, map, length}
use Rattle.std.specs.List.{filter}
use Rattle.ebs_catalog.specs.Shows.{is_listed, shown_row}
use Rattle.ebs_catalog.proofs.shows.page_of_rows.Given as goal

-- the rows that are shown so far, with what is still to come, are all
abbrev pub invariant-loop-key : goal.invariant-loop-key
invariant-loop-key l =
    (l.views.items ++ map (shown_row l.account l.at.second) (filter (is_listed l.bin l.account l.at.second l.from) l.key-iterator) ≡ map (shown_row l.account l.at.second) (filter (is_listed l.bin l.account l.at.second l.from) l.initial.key-iterator))
    × (length l.views.items ≤ l.max)
