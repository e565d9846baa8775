-- A line of turns: whose they are, and which leases are out by them.
use Rattle.std.specs.Prelude.{ℕ, ◌+◌, List, [], ◌∷◌, Bool, false, ◌==◌, ◌||◌, ◌&&◌, not, filter, ◌≡◌}
use Rattle.ebs_turns.specs.declared.line.Deed.{Deed}
use Rattle.ebs_turns.specs.declared.line.Deed.TheVariants.{Nothing, Takes, Spends}
use Rattle.ebs_turns.specs.declared.line.Turn.{Turn}

-- whether the lease is out after the deed
abbrev pub out_after : ℕ → Bool → Deed → Bool
out_after lease out (Takes taken) = out || (lease == taken)
out_after lease out (Spends given) = out && not (lease == given)
out_after lease out Nothing = out

-- the deed takes or spends the lease
abbrev pub is_on : ℕ → Deed → Bool
is_on lease (Takes taken) = lease == taken
is_on lease (Spends given) = lease == given
is_on lease Nothing = false

-- what a seat keeps of its lease, as its view says it
abbrev pub lease_after : ℕ → Deed → ℕ
lease_after kept (Takes taken) = taken + 1
lease_after kept (Spends given) = 0
lease_after kept Nothing = kept

module _ {I : Type 0} where
  -- the turns of the pass with this number
  abbrev pub turns_of : ℕ → List (Turn I) → List (Turn I)
  turns_of by line = filter (λ x. by == x.by) line

  -- the turns that took or spent the lease
  abbrev pub turns_on : ℕ → List (Turn I) → List (Turn I)
  turns_on lease line = filter (λ x. is_on lease x.deed) line

  abbrev pub out_by : ℕ → Bool → List (Turn I) → Bool
  out_by lease out [] = out
  out_by lease out (x ∷ xs) = out_by lease (out_after lease out x.deed) xs

  -- whether the lease is out by the line
  abbrev pub is_out : ℕ → List (Turn I) → Bool
  is_out lease line = out_by lease false line

  -- a seat with this lease, 0 for none, may do the deed: it takes one that isn't out while it has none, or spends the one that it has
  abbrev pub IsDeed : List (Turn I) → ℕ → Deed → Type 0
  IsDeed line kept (Takes taken) = (kept ≡ 0) × (is_out taken line ≡ false)
  IsDeed line kept (Spends given) = kept ≡ given + 1
  IsDeed line kept Nothing = Unit {0}
