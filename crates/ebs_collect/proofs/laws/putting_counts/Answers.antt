use Rattle.ebs_collect.proofs.Putting.{put-counted}
use Rattle.ebs_collect.proofs.laws.putting_counts.Goals as goal

pub returns : goal.returns
returns c s t nodes n index slot block counted there new keys counts = put-counted c.entries_count.ensures.kept c.entries_count.ensures.put s t nodes n index slot block counted there new keys counts
