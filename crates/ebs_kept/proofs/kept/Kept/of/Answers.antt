use Rattle.std.proofs.lemmas.Bool.{false≢true}
use Rattle.ebs_kept.proofs.kept.Kept.of.Goals as goal

pub invariant_of-result : goal.invariant_of-result
invariant_of-result c = (c.requires.sound, (c.requires.reached, λ e. absurd (false≢true e)))
