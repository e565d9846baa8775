use Rattle.ebs_slots.proofs.Maps.{some_none}
use Rattle.std.proofs.Common.{ap, refl, sym, ◌∙◌, is_some}
use Rattle.std.specs.FinMap as fin
use Rattle.std.specs.Ordering.{nat_cmp}
use Rattle.ebs_desk.proofs.desk.Desk.new.Goals as goal

pub new-requires-clause-first : goal.new-requires-clause-first
new-requires-clause-first g c = record { went = (refl, refl); fits = c.requires.fits; counted = refl; leases = λ slot. ap (λ m. is_some (fin.get m slot)) c.requires.bare ∙ ap is_some (fin.get-empty nat_cmp slot); staged = λ slot block e. absurd (some_none block (sym e)) }
