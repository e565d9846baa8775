use Rattle.std.proofs.Common.{ℕ, inl, inr, List, Some, sym, ap, subst, ◌∙◌, arith}
use Rattle.std.proofs.lemmas.Bool.{false≢true}
use Rattle.ebs_slots.specs.inner.Freed.{Has, IsUnused}
use Rattle.ebs_slots.proofs.Freeing.{has-end}
use Rattle.ebs_slots.proofs.choosing.pop_unused.Goals as goal
use Rattle.ebs_slots.proofs.choosing.pop_unused.Goals.{else-slot-top-via-then-slot-top+else-is_unused, else-slot-top-via-else-slot-top}

pub returns-then-is_unused-clause-rest : goal.returns-then-is_unused-clause-rest
returns-then-is_unused-clause-rest c = λ n below u has.
    elim (has-end c.pop.new.self.items c.in-Some.slot n (subst (λ (xs : List ℕ). Has xs n) c.in-Some.ensures.items (c.loop-slot.invariant n below u has))) [ inl h ↦ inl h | inr e ↦ inr (ap Some e) ]

pub loop-slot-preserved : goal.loop-slot-preserved
loop-slot-preserved c = λ n below u has.
    elim (has-end c.pop.new.self.items c.in-Some.slot n (subst (λ (xs : List ℕ). Has xs n) c.in-Some.ensures.items (c.loop-slot.invariant n below u has))) [
      | inl h ↦ h
      | inr e ↦ elim c.else-slot-top.branch [
        | else-slot-top-via-then-slot-top+else-is_unused w ↦
            absurd (false≢true (sym w.if-is_unused.false ∙ w.is_unused.ensures.1 (subst (IsUnused c.args.owners.now.entries c.args.leases.now.entries) (sym e) u)))
        | else-slot-top-via-else-slot-top w ↦ absurd (omega (arith, w.if-slot-top.false, below, e))
      ]
    ]
