use Rattle.std.proofs.Common.{sym, ap, ◌∙◌}
use Rattle.std.specs.Option.{option_copied}
use Rattle.ebs_kept.specs.inner.Shown.{put_by}
use Rattle.ebs_kept.proofs.AsKept.{no-indexes}
use Rattle.ebs_kept.proofs.kept.indexes_or.Goals as goal

pub returns-in-None : goal.returns-in-None
returns-in-None c = no-indexes c.args.none.now c.requires ∙ ap (λ o. put_by (option_copied o)) (sym c.in-None.is)
