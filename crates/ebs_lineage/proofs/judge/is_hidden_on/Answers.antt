use Rattle.std.proofs.Common.{arith, ◌≡◌, inl, inr, ℕ, ◌+◌, ◌-◌, ◌<◌, ◌≤◌, sym, ap, subst, ◌∙◌}
use Rattle.std.proofs.lemmas.Bool.{cases_lt}
use Rattle.std.specs.FinMap as map
use Rattle.ebs_lineage.specs.Live.{IsOnLine}
use Rattle.ebs_lineage.specs.Hiders.{HiderTable, Hides}
use Rattle.ebs_lineage.specs.Hidden.{AreHiders}
use Rattle.ebs_lineage.proofs.Departing.{leading-wanted, wanted-leading}
use Rattle.ebs_lineage.proofs.Found.{other-end}
use Rattle.ebs_lineage.proofs.Hiding.{hiders-less}
use Rattle.ebs_lineage.proofs.Hidings.{removed-was, removed-less}
use Rattle.ebs_lineage.proofs.Linking.{kin_noted}
use Rattle.ebs_lineage.proofs.Onward.{on-self, on-lower, noted-on}
use Rattle.ebs_lineage.proofs.judge.is_hidden_on.Goals as goal

pub returns-then-end-hider-clause-shown : goal.returns-then-end-hider-clause-shown
returns-then-end-hider-clause-shown c = λ _ b hides high line.
    elim (cases_lt b c.loop-hider.at) [
      | inl low ↦ c.loop-hider.invariant.clear b hides high low line
      | inr up ↦
          let first : c.in-Some.hider ≤ b = c.in-Some.ensures.2 b hides up in
          let past : c.args.end < c.in-Some.hider = c.if-end-hider.true in
          let within : b ≤ c.args.end = on-lower c.args.nodes.now.nodes c.args.made c.requires.lines c.args.end b line in
          omega arith
    ]

pub loop-hider-smaller-then-not-leads_on : goal.loop-hider-smaller-then-not-leads_on
loop-hider-smaller-then-not-leads_on c =
    let less : map.len c.remove.new.self.hidings < map.len c.loop-hider.hiders.hidings =
    subst (λ (h : HiderTable). map.len h.hidings < map.len c.loop-hider.hiders.hidings) (sym c.remove.ensures)
    (removed-less c.loop-hider.hiders c.args.node c.args.index c.in-Some.hider c.in-Some.ensures.0) in
    let all : map.len c.remove.new.self.hidings + (c.args.end + 1 - c.loop-hider.at) < map.len c.loop-hider.hiders.hidings + (c.args.end + 1 - c.loop-hider.at) = omega arith in
    all

pub loop-hider-preserved-then-not-leads_on : goal.loop-hider-preserved-then-not-leads_on
loop-hider-preserved-then-not-leads_on c =
    let nodes = c.args.nodes.now.nodes in
    let h = c.loop-hider.hiders in
    let inv = c.loop-hider.invariant in
    let free = c.leads_on.ensures.held c.if-not-leads_on.true in
    let none = c.leads_on.ensures.none c.if-not-leads_on.true in
    let was = λ (n i b : ℕ) (hides : Hides c.remove.new.self n i b). (removed-was h c.args.node c.args.index c.in-Some.hider n i b (subst (λ (t : HiderTable). Hides t n i b) c.remove.ensures hides)).0 in
    record {
      from = inv.from;
      clear = λ b hides high low line. inv.clear b (was c.args.node c.args.index b hides) high low line;
      known = subst (λ (t : HiderTable). AreHiders nodes t) (sym c.remove.ensures)
          (hiders-less nodes h c.args.node c.args.index c.in-Some.hider
          (λ wanted. wanted-leading nodes c.args.made c.requires.lines c.loop-hider.kin.links inv.kin c.in-Some.hider wanted free none) inv.known);
      whole = ap (λ (t : HiderTable). t.is_whole) c.remove.ensures ∙ inv.whole;
      fewer = λ n i b hides. inv.fewer n i b (was n i b hides);
      kin = inv.kin;
      ways = inv.ways;
      noted = inv.noted;
      spare = inv.spare;
    }

pub returns-then-hider-end-clause-hidden : goal.returns-then-hider-end-clause-hidden
returns-then-hider-end-clause-hidden c = λ _.
    (c.in-Some.hider, c.in-Some.ensures.0, subst (λ k. IsOnLine c.args.nodes.now.nodes c.args.end k) (sym c.if-hider-end.true) (on-self c.args.nodes.now.nodes c.args.end))

pub returns-then-way_end-end-clause-hidden : goal.returns-then-way_end-end-clause-hidden
returns-then-way_end-end-clause-hidden c = λ _.
    (c.in-Some.hider, c.in-Some.ensures.0, subst (λ k. IsOnLine c.args.nodes.now.nodes k c.in-Some.hider) c.if-way_end-end.true c.way_end.ensures.way.above)

pub loop-hider-smaller : goal.loop-hider-smaller
loop-hider-smaller c =
    let up : c.loop-hider.at ≤ c.in-Some.hider = c.in-Some.ensures.1 in
    let all : map.len c.loop-hider.hiders.hidings + (c.args.end + 1 - (c.in-Some.hider + 1)) < map.len c.loop-hider.hiders.hidings + (c.args.end + 1 - c.loop-hider.at) = omega (arith, up, c.if-end-hider.false) in
    all

pub loop-hider-preserved : goal.loop-hider-preserved
loop-hider-preserved c =
    let nodes = c.args.nodes.now.nodes in
    let inv = c.loop-hider.invariant in
    let hider = c.in-Some.hider in
    let up : c.loop-hider.at ≤ hider = c.in-Some.ensures.1 in
    let wanted = leading-wanted nodes c.args.made c.requires.lines c.loop-hider.kin.links inv.kin hider (c.leads_on.ensures.yes c.if-not-leads_on.false) in
    let here : (b : ℕ) → c.args.from ≤ b → IsOnLine nodes c.args.end b → b ≡ hider → ⊥ =
    λ b high line same.
    other-end nodes c.args.made c.requires.lines c.args.node c.args.index c.args.from c.args.end hider c.way_end.result c.requires.way c.requires.end c.way_end.ensures.way c.way_end.ensures.end wanted
    (subst (λ k. c.args.from ≤ k) same high) c.if-way_end-end.false (subst (λ k. IsOnLine nodes c.args.end k) same line) in
    let first : (b : ℕ) → Hides c.loop-hider.hiders c.args.node c.args.index b → c.loop-hider.at ≤ b → hider ≤ b = λ b hides from. c.in-Some.ensures.2 b hides from in
    record {
      from = omega (arith, inv.from, up);
      clear = λ b hides high low line. elim (cases_lt b c.loop-hider.at) [
        | inl before ↦ inv.clear b hides high before line
        | inr behind ↦ (let least : hider ≤ b = first b hides behind in let within : b < hider + 1 = low in here b high line (omega arith))
      ];
      known = inv.known;
      whole = inv.whole;
      fewer = inv.fewer;
      kin = kin_noted nodes c.loop-hider.kin.links c.way_end.new.kin.links c.way_end.ensures.noted inv.kin;
      ways = c.way_end.ensures.ways;
      noted = noted-on c.args.kin.now.links c.loop-hider.kin.links c.way_end.new.kin.links inv.noted c.way_end.ensures.noted;
      spare = omega (arith, inv.spare, c.way_end.ensures.spare);
    }
