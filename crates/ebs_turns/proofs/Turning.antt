-- A turn from its ticket to its end.
use Rattle.std.proofs.Common.{◌≡◌, ℕ, List, [], ◌∷◌, Option, Some, refl, ap, sym, ◌∙◌, subst}
use Rattle.atomic_table.specs.Table.{Me, step, rest}
use mathlib.Core.Option.{none}
use Rattle.ebs_turns.specs.declared.line.Left.{Left}
use Rattle.ebs_turns.specs.declared.line.Turn.{Turn}
use Rattle.ebs_turns.specs.declared.seats.Place.{Place}
use Rattle.ebs_turns.specs.declared.seats.Place.TheVariants.{Home, Out}
use Rattle.ebs_turns.specs.declared.seats.View.{View}
use Rattle.ebs_turns.specs.Tells.{with_ticket, HasTurn, turned}
use Rattle.ebs_turns.specs.Known.{Began, MayEnd}
use Rattle.ebs_turns.proofs.Steps.{IsDue}

module _ {T I : Type 0} (follows : T → List (Turn I) → T → Type 0) where
  abbrev M : Type 0
  M = Me (Place T I) (View T I)

  pub has_turn : (v : View T I) (t : ℕ) (m m' : M) (found : ℕ) → m ≡ (with_ticket t v, []) → turned follows (step 1 1 0 0 none) m found m' → found ≡ t → HasTurn follows (with_ticket t v, []) t m'
  has_turn v t m m' found is told hit = subst (λ (z : M × ℕ). HasTurn follows z.0 z.1 m') (λ i. (is i, hit i)) (told.0 (hit ∙ sym (ap (λ (z : M). z.0.ticket) is)))

  pub begins : (v : View T I) (t : ℕ) (m'' m' : M) → (h : HasTurn follows (with_ticket t v, []) t m') → m'' ≡ (m'.0, (0, Out) ∷ rest m'.1) → Began follows v m'' h.value
  begins v t m'' m' h out = record {
    ticket = t;
    line = h.line;
    view = ap (λ (z : M). z.0) out ∙ h.view;
    out = ap (λ (z : M). z.1) out ∙ ap (λ (cs : List (ℕ × Place T I)). (0, Out) ∷ rest cs) h.hand;
    stands = h.stands;
    sees = record { begins = h.sees.begins; own = h.sees.own; long = h.sees.long; short = h.sees.short; leased = h.sees.leased; dealt = h.sees.dealt };
  }

  -- the value in hand is that of the place that was taken
  pub value_is : (v : View T I) (m : M) (place : Place T I) (value value' : T) (left left' : Option (Left I)) → Began follows v m value → place ≡ Home value left → place ≡ Home value' left' → Began follows v m value'
  value_is v m place value value' left left' b e d = let is : value ≡ value' = cc (e, d) in subst (Began follows v m) is b

  pub is_due : (m m' : M) (value : T) (left : Left I) → MayEnd follows m value left.item left.deed → m' ≡ (m.0, (0, Home value (Some left)) ∷ []) → IsDue follows m' value left
  is_due m m' value left may is = subst (λ (z : M). IsDue follows z value left) (sym is) (record { stage = may.stage; hand = refl; stands = may.stands; deed = may.done })
