-- At which indexes two snapshots differ, and which of the two have a block there.
use Rattle.std.specs.Prelude.{ℕ, Bool, is_some}
use Rattle.ebs_model.specs.Lists.{Pair}
use Rattle.ebs_listing.specs.declared.pages.ChangedEntry.{ChangedEntry}
use Rattle.ebs_listing.specs.Sides.{as_pair}

pub record Change : Type 0 where
  pub index : ℕ
  pub in_first : Bool
  pub in_second : Bool

abbrev pub change : {B : Type 0} → Pair B → Change
change p = record { index = p.index; in_first = is_some p.first; in_second = is_some p.second }

abbrev pub listed_change : ChangedEntry → Change
listed_change e = change (as_pair e)
