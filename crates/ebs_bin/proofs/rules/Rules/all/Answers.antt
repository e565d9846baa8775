use Rattle.std.proofs.Common.{ap, ◌∙◌}
use Rattle.std.specs.FinMap.{entries}
use Rattle.ebs_tables.specs.Full.{full}
use Rattle.ebs_bin.specs.Books.{Shelf, book}
use Rattle.ebs_bin.proofs.Longest.{from_0}
use Rattle.ebs_bin.proofs.rules.Rules.all.Goals as goal

pub returns : goal.returns
returns c = c.from.ensures.values ∙ from_0 (entries (full c.self.inside.slots)) ∙ ap (λ (s : Shelf). entries (book s).rules) c.self.view_is
