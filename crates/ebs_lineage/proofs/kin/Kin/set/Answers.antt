use Rattle.std.proofs.Common.{IsSome, is_some, sym, ap, subst, ◌∙◌}
use Rattle.std.proofs.lemmas.Bool.{false≢true}
use Rattle.std.specs.Option.{option_copied_mut}
use Rattle.std.specs.FinMap.{get, insert, from_entries}
use Rattle.ebs_lineage.proofs.HashMaps.{get-hashed, insert-hashed}
use Rattle.ebs_lineage.proofs.kin.Kin.set.Goals as goal
use Rattle.ebs_lineage.proofs.kin.Kin.set.Goals.{in-Some, in_default}

pub returns-clause-links : goal.returns-clause-links
returns-clause-links c =
    let es = c.self.inside.links.entries in
    let there = subst (λ o. IsSome o) (sym (sym (get-hashed es c.args.number) ∙ ap (λ m. get m.links c.args.number) c.self.view_is)) c.requires in
    elim c.match-get_mut.branch [
      | in-Some w ↦ ap (λ m. from_entries m.links.entries) w.self-inside-is
          ∙ insert-hashed es (c.get_mut.follows.lender c.args.link).entries c.args.number c.args.link ((c.get_mut.follows.holds c.args.link).3 there).0
          ∙ ap (λ m. insert m.links c.args.number c.args.link) c.self.view_is
      | in_default w ↦ absurd (false≢true (ap is_some (ap option_copied_mut (sym w.in_default.is) ∙ c.get_mut.ensures.value) ∙ there))
    ]
