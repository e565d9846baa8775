-- Ends of ways: a node has one.
use Rattle.std.proofs.Common.{arith, ◌≡◌, ◌⊎◌, inl, inr, ℕ, ◌<◌, ◌≤◌, Some, None, sym, ap, subst, ◌∙◌}
use Rattle.std.specs.FinMap as map
use Rattle.ebs_lineage.specs.declared.node.Node.{Node}
use Rattle.ebs_lineage.specs.Table.{NodeMap}
use Rattle.ebs_lineage.specs.Lines.{AreLines, IsHeld}
use Rattle.ebs_lineage.specs.Live.{IsOnLine, IsWanted}
use Rattle.ebs_lineage.specs.Kin.{Links, first_of, next_of, IsKid, IsWantedKid, AreKin}
use Rattle.ebs_lineage.specs.Ways.{IsWay, IsEnd}
use Rattle.ebs_lineage.proofs.Changes.{same_or}
use Rattle.ebs_lineage.proofs.Onward.{on-trans, on-lower, on-both, line-starts, through-kid, kid-later, kid-on, kid-one}

module _ (nodes : NodeMap) (made : ℕ) (are : AreLines nodes made) where
  -- a child that is above another one of the same node is that one
  not_over : (n q f : ℕ) → IsKid nodes n q → IsKid nodes n f → IsOnLine nodes q f → q ≡ f
  not_over n q f one other line = elim (line-starts nodes q f line) [
    | inl same ↦ same
    | inr (p, up, rest) ↦
        let mine : p ≡ n = kid-one nodes p n q up one in
        let low : f ≤ n = on-lower nodes made are n f (subst (λ k. IsOnLine nodes k f) mine rest) in
        let high : n < f = (kid-later nodes made are n f other).0 in
        absurd (omega arith)
  ]

  siblings : (n q f w : ℕ) → IsKid nodes n q → IsKid nodes n f → IsOnLine nodes w q → IsOnLine nodes w f → q ≡ f
  siblings n q f w one other line more = elim (on-both nodes w q f line more) [
    | inl down ↦ not_over n q f one other down
    | inr up ↦ sym (not_over n f q other one up)
  ]

  below_end : (k e r w : ℕ) → IsWay nodes k e → IsWay nodes k r → IsEnd nodes r → IsOnLine nodes e r → IsHeld nodes w → IsOnLine nodes w e → e ≡ r
  below_end k e r w way other (inl held) line holds under =
      let low : e ≤ r = on-lower nodes made are r e (way.held r held other.above) in
      let high : r ≤ e = on-lower nodes made are e r line in
      omega arith
  below_end k e r w way other (inr split) line holds under = elim (through-kid nodes e r line) [
    | inl same ↦ same
    | inr (q, kid, more) ↦
        let found = split q (kid, (w, holds, on-trans nodes w e q under more)) in
        let f = found.0 in
        let v = found.1.1.0 in
        let to_f : IsOnLine nodes v f = found.1.1.2 in
        let to_k = on-trans nodes v r k (on-trans nodes v f r to_f (kid-on nodes r f found.1.0)) other.above in
        let to_q = on-trans nodes v e q (way.held v found.1.1.1 to_k) more in
        absurd (found.2 (sym (siblings r q f v kid found.1.0 to_q to_f)))
  ]

  -- two ends of ways from a node from which a held one is reached are one
  pub way-one : (k e r : ℕ) → IsWay nodes k e → IsWay nodes k r → IsEnd nodes e → IsEnd nodes r → IsWanted nodes k → e ≡ r
  way-one k e r way other end more (w, held, line) = elim (on-both nodes w e r (way.held w held line) (other.held w held line)) [
    | inl down ↦ below_end k e r w way other more down held (way.held w held line)
    | inr up ↦ sym (below_end k r e w other way end up held (other.held w held line))
  ]

  -- a node on the way has the same end
  pub way-from : (k e c : ℕ) → IsWay nodes k e → IsOnLine nodes e c → k ≤ c → IsWay nodes c e
  way-from k e c way above high = record { above = above; held = λ h held line. way.held h held (on-trans nodes h c k line (under (on-both nodes e c k above way.above))) }
    where
      under : IsOnLine nodes c k ⊎ IsOnLine nodes k c → IsOnLine nodes c k
      under (inl down) = down
      under (inr up) =
          let low : c ≤ k = on-lower nodes made are k c up in
          let more : k ≤ c = high in
          let same : c ≡ k = omega arith in
          subst (λ q. IsOnLine nodes c q) same (0, ap (λ q. Some q) (λ i. c))

  -- ---- where a walk down ends

  pub end-missing : (n : ℕ) → map.get nodes n ≡ None → IsEnd nodes n
  end-missing n none = inr (λ e kid. (let parent = (are.parents e n kid.0.0 kid.0.1 kid.0.2).1 in absurd (none_some parent.0 (sym none ∙ parent.1))))
    where
      none_some : {B : Type 0} (x : Node) → None ≡ Some x → B
      none_some x e = absurd (cc)

  module _ (links : Links) (kin : AreKin nodes links) (n : ℕ) where
    pub end-childless : first_of links n ≡ None → IsEnd nodes n
    end-childless none = inr (λ e kid. absurd (kin.none n e none kid))

    pub end-forked : (f e : ℕ) → first_of links n ≡ Some f → next_of links f ≡ Some e → IsEnd nodes n
    end-forked f e first next = inr by
      where
        one : IsWantedKid nodes n f
        one = kin.first n f first

        other : IsWantedKid nodes n e × (e < f)
        other = kin.next n f e one next

        apart : f ≡ e → ⊥
        apart s = let low : e < f = other.1 in let same : f ≡ e = s in omega arith

        by : (d : ℕ) → IsWantedKid nodes n d → (q : ℕ) × IsWantedKid nodes n q × (q ≡ d → ⊥)
        by d kid = elim (same_or f d) [
          | inl same ↦ (e, other.0, λ s. apart (same ∙ sym s))
          | inr off ↦ (f, one, off)
        ]
