use Rattle.std.proofs.Common.{◌≡◌, ℕ, Option, sym, ap, subst, ◌∙◌}
use Rattle.std.specs.Ordering.{nat_cmp}
use Rattle.std.specs.FinMap.{FinMap, contains_key}
use Rattle.ebs_tables.specs.Full.{full, released}
use Rattle.ebs_model.specs.declared.rules.Rule.{Rule}
use Rattle.ebs_bin.specs.Books.{Shelf, IsNumberFree}
use Rattle.ebs_bin.proofs.Released.{released-free}
use Rattle.ebs_bin.proofs.rules.Rules.release.Goals as goal

pub returns-in-Put-clause-free : goal.returns-in-Put-clause-free
returns-in-Put-clause-free c =
    let n = c.in-Put.rule.key.number in
    let slots = c.self.inside.slots in
    let is = c.release.ensures.slots ∙ ap (released slots) c.number.ensures.value in
    let shelf : Shelf = record { account = c.self.inside.account; slots = c.release.new.self; next = c.self.inside.next } in
    subst (IsNumberFree shelf) (sym c.in-Put.is) (subst (λ (m : FinMap nat_cmp (Option Rule)). contains_key m n ≡ contains_key (full m) n) (sym is) (released-free slots n))
