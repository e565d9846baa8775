-- Whether a held node at or below another one finds a block, told at the ends of the ways down from it.
use Rattle.std.proofs.Common.{arith, ◌≡◌, ◌⊎◌, inl, inr, ℕ, ◌<◌, ◌≤◌, Some, None, IsSome, subst}
use Rattle.std.specs.FinMap as map
use Rattle.ebs_lineage.specs.Table.{NodeMap}
use Rattle.ebs_lineage.specs.Lines.{AreLines, IsHeld, own}
use Rattle.ebs_lineage.specs.Live.{IsLive, IsFoundFrom, IsOnLine, IsWanted, owner}
use Rattle.ebs_lineage.specs.Hiders.{HiderTable, Hides}
use Rattle.ebs_lineage.specs.Hidden.{AreHiders}
use Rattle.ebs_lineage.specs.Kin.{Links, first_of, next_of, IsKid, IsWantedKid, AreKin}
use Rattle.ebs_lineage.specs.Ways.{IsWay, IsEnd}
use Rattle.ebs_lineage.proofs.Waiting.{owner-on-line}
use Rattle.ebs_lineage.proofs.Ends.{way-one, way-from}
use Rattle.ebs_lineage.proofs.Listing.{is_it, three}
use Rattle.ebs_lineage.proofs.Onward.{on-trans, on-lower, on-both, line-starts, through-kid, kid-one}

-- a block that a node keeps is found from that node on
pub live-found : (nodes : NodeMap) (n index : ℕ) → IsLive nodes n index → IsFoundFrom nodes n index n
live-found nodes n index (h, held, finds) = (h, held, owner-on-line nodes index h n finds, finds)

pub found-live : (nodes : NodeMap) (n index from : ℕ) → IsFoundFrom nodes n index from → IsLive nodes n index
found-live nodes n index from (h, held, line, finds) = (h, held, finds)

module _ (nodes : NodeMap) (made : ℕ) (are : AreLines nodes made) (n index : ℕ) where
  pub found-up : (at e : ℕ) → IsOnLine nodes e at → IsFoundFrom nodes n index e → IsFoundFrom nodes n index at
  found-up at e line (h, held, more, finds) = (h, held, on-trans nodes h e at more line, finds)

  pub found-end : (at e : ℕ) → IsWay nodes at e → IsFoundFrom nodes n index at → IsFoundFrom nodes n index e
  found-end at e way (h, held, line, finds) = (h, held, way.held h held line, finds)

  -- nothing is noted above the node itself
  pub clear-self : (h : HiderTable) → AreHiders nodes h → (c : ℕ) → Hides h n index c → IsOnLine nodes n c → n ≤ c
  clear-self h hiders c hides line = let later : n < c = (hiders.hidden n index c hides).later in omega arith

  module _ (h : HiderTable) (hiders : AreHiders nodes h) (at e : ℕ) (way : IsWay nodes at e) where
    -- a node on the way hides the block from all that is below
    pub hidden-none : (c : ℕ) → Hides h n index c → IsOnLine nodes e c → IsFoundFrom nodes n index at → ⊥
    hidden-none c hides above (q, held, line, finds) = (hiders.hidden n index c hides).hides q held (on-trans nodes q e c (way.held q held line) above) finds

    module _ (clear : (c : ℕ) → Hides h n index c → IsOnLine nodes at c → at ≤ c) (shown : (c : ℕ) → Hides h n index c → at ≤ c → IsOnLine nodes e c → ⊥) where
      pub clear-end : (c : ℕ) → Hides h n index c → IsOnLine nodes e c → ⊥
      clear-end c hides line = shown c hides (by (on-both nodes e at c way.above line)) line
        where
          by : IsOnLine nodes at c ⊎ IsOnLine nodes c at → at ≤ c
          by (inl up) = clear c hides up
          by (inr down) = on-lower nodes made are c at down

      pub end-finds : IsSome (map.get (own nodes n) index) → IsOnLine nodes at n → IsWanted nodes e → owner nodes index e ≡ Some n
      end-finds some below wanted = elim (is_it (owner nodes index e) n) [
        | inl found ↦ found
        | inr off ↦ (let hider = hiders.shown n index e some (on-trans nodes e at n way.above below) wanted off in absurd (clear-end hider.0 hider.1 hider.2))
      ]

  -- from an end that nobody holds it is found by a child
  pub by-kid : (e : ℕ) → (IsHeld nodes e → ⊥) → IsFoundFrom nodes n index e → (d : ℕ) × IsWantedKid nodes e d × IsFoundFrom nodes n index d
  by-kid e free (h, held, line, finds) = elim (through-kid nodes h e line) [
    | inl same ↦ absurd (free (subst (IsHeld nodes) same held))
    | inr (d, kid, more) ↦ (d, (kid, (h, held, more)), (h, held, more, finds))
  ]

  pub kid-clear : (h : HiderTable) (e d : ℕ) → IsKid nodes e d → ((c : ℕ) → Hides h n index c → IsOnLine nodes e c → ⊥) → (c : ℕ) → Hides h n index c → IsOnLine nodes d c → d ≤ c
  kid-clear h e d kid clear c hides line = elim (line-starts nodes d c line) [
    | inl same ↦ (let s : d ≡ c = same in omega arith)
    | inr (p, up, rest) ↦ absurd (clear c hides (subst (λ k. IsOnLine nodes k c) (kid-one nodes p e d up kid) rest))
  ]

  module _ (links : Links) (kin : AreKin nodes links) (e : ℕ) (free : IsHeld nodes e → ⊥) where
    pub childless-none : first_of links e ≡ None → IsFoundFrom nodes n index e → ⊥
    childless-none none found = let kid = by-kid e free found in kin.none e kid.0 none kid.1

    pub last-kid : (k : ℕ) → IsWantedKid nodes e k → next_of links k ≡ None → ((d : ℕ) → IsWantedKid nodes e d → k < d → IsFoundFrom nodes n index d → ⊥) → IsFoundFrom nodes n index e → IsFoundFrom nodes n index k
    last-kid k kid last above found =
        let by = by-kid e free found in
        elim (three by.0 k) [
          | inl low ↦ absurd (kin.oldest e k by.0 kid last by.1 low)
          | inr h ↦ elim h [
            | inl same ↦ subst (λ q. IsFoundFrom nodes n index q) same by.2
            | inr high ↦ absurd (above by.0 by.1 high by.2)
          ]
        ]

    pub next-above : (k m : ℕ) → IsWantedKid nodes e k → next_of links k ≡ Some m → (IsFoundFrom nodes n index k → ⊥) → ((d : ℕ) → IsWantedKid nodes e d → k < d → IsFoundFrom nodes n index d → ⊥)
        → (d : ℕ) → IsWantedKid nodes e d → m < d → IsFoundFrom nodes n index d → ⊥
    next-above k m kid next here above d other low found = elim (three d k) [
      | inl less ↦ kin.between e k m d kid next other low less
      | inr h ↦ elim h [
        | inl same ↦ here (subst (λ q. IsFoundFrom nodes n index q) same found)
        | inr high ↦ above d other high found
      ]
    ]

  -- a noted node whose way has another end isn't on the way
  pub other-end : (from end c r : ℕ) → IsWay nodes from end → IsEnd nodes end → IsWay nodes c r → IsEnd nodes r → IsWanted nodes c → from ≤ c → (r ≡ end → ⊥) → IsOnLine nodes end c → ⊥
  other-end from end c r way ends other more wanted high off above = off (way-one nodes made are c r end other (way-from nodes made are from end c way above high) more ends wanted)
