use Rattle.std.proofs.Common.{ℕ, List, sym, subst}
use Rattle.ebs_slots.specs.inner.Freed.{Has}
use Rattle.ebs_slots.proofs.Freeing.{has-more, has-last}
use Rattle.ebs_slots.proofs.choosing.give_back.Goals as goal

pub returns-in-Ok-clause-stay : goal.returns-in-Ok-clause-stay
returns-in-Ok-clause-stay c = λ n h. subst (λ (xs : List ℕ). Has xs n) (sym c.in-Ok.ensures.items) (has-more c.args.freed.now.items c.args.slot n h)

pub returns-in-Ok-clause-here : goal.returns-in-Ok-clause-here
returns-in-Ok-clause-here c = λ below. subst (λ (xs : List ℕ). Has xs c.args.slot) (sym c.in-Ok.ensures.items) (has-last c.args.freed.now.items c.args.slot)
