use Rattle.std.proofs.Common.{sym, ap, ◌∙◌}
use Rattle.std.specs.Option.{option_copied}
use Rattle.ebs_tables.specs.Seen.{seen}
use Rattle.ebs_tables.proofs.FullLaws.{flat, get-full}
use Rattle.ebs_tables.proofs.slots.Slots.get.Goals as goal

pub returns-in-Some : goal.returns-in-Some
returns-in-Some g c = c.as_ref.ensures.value ∙ ap flat c.in-Some.ensures ∙ sym (get-full g.met.K.Ord.total (seen g.K.Ord.cmp c.args.self.now.slots) c.args.key.now)

pub returns-in-None : goal.returns-in-None
returns-in-None g c = ap flat (sym (ap option_copied c.in-None.is) ∙ c.get.ensures) ∙ sym (get-full g.met.K.Ord.total (seen g.K.Ord.cmp c.args.self.now.slots) c.args.key.now)
