use Rattle.std.proofs.Common.{ℕ, List, map, ap, ◌∙◌}
use Rattle.std.specs.FinMap.{entries}
use Rattle.ebs_tables.specs.Full.{full}
use Rattle.ebs_model.specs.declared.rules.Rule.{Rule}
use Rattle.ebs_model.specs.Rules.{longest, retention}
use Rattle.ebs_bin.specs.Books.{Shelf, book}
use Rattle.ebs_bin.proofs.Longest.{from_0}
use Rattle.ebs_bin.proofs.rules.Rules.retention_for.Goals as goal

pub returns : goal.returns
returns c =
    let tags = c.args.tags.now in
    c.longest.ensures ∙ ap (λ (es : List (ℕ × Rule)). longest tags (map (λ e. e.1) es)) (c.from.ensures.values ∙ from_0 (entries (full c.self.inside.slots)))
    ∙ ap (λ (s : Shelf). retention (book s) tags) c.self.view_is
