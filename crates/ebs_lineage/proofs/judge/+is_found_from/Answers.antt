use Rattle.std.proofs.Common.{arith, ◌<◌, ◌≤◌, refl, sym, ◌∙◌}
use Rattle.std.proofs.lemmas.Bool.{false≢true}
use Rattle.ebs_lineage.proofs.Found.{found-up, found-end, hidden-none, clear-end, end-finds, kid-clear, childless-none, last-kid, next-above}
use Rattle.ebs_lineage.proofs.Linking.{kin_noted}
use Rattle.ebs_lineage.proofs.Onward.{on-trans, on-lower, kid-on, kid-later, noted-on, wanted-held}
use Rattle.ebs_lineage.proofs.judge.+is_found_from.Goals as goal

pub loop-made-init : goal.loop-made-init
loop-made-init t c = record {
  later = omega arith;
  below = c.requires.below;
  clear = c.requires.clear;
  down = λ found. found;
  up = λ found. found;
  known = c.requires.known;
  whole = refl;
  fewer = λ n i b hides. hides;
  kin = c.requires.kin;
  ways = c.requires.ways;
  noted = record { firsts = λ n. refl; nexts = λ n. refl; newers = λ n. refl; places = λ n. refl; there = λ n. refl };
  spare = omega arith;
}

pub is_hidden_on-requires-clause-kin : goal.is_hidden_on-requires-clause-kin
is_hidden_on-requires-clause-kin t c = kin_noted c.args.nodes.now.nodes c.loop-made.kin.links c.way_end-end.new.kin.links c.way_end-end.ensures.noted c.loop-made.invariant.kin

pub returns-then-is_hidden_on-clause-found : goal.returns-then-is_hidden_on-clause-found
returns-then-is_hidden_on-clause-found t c =
    let hider = c.if-is_hidden_on.ensures.hidden refl in (
      λ no. absurd (false≢true no),
      λ found. absurd (hidden-none c.args.nodes.now.nodes c.args.made c.requires.lines c.args.node c.args.index c.is_hidden_on.new.hiders c.if-is_hidden_on.ensures.known c.loop-made.at c.way_end-end.result c.way_end-end.ensures.way
          hider.0 hider.1 hider.2 (c.loop-made.invariant.down found)),
    )

pub returns-then-is_held-clause-found : goal.returns-then-is_held-clause-found
returns-then-is_held-clause-found t c =
    let nodes = c.args.nodes.now.nodes in
    let end = c.way_end-end.result in
    let held = c.is_held.ensures.held c.if-is_held.true in
    let finds = end-finds nodes c.args.made c.requires.lines c.args.node c.args.index c.is_hidden_on.new.hiders c.if-is_hidden_on.ensures.known c.loop-made.at end c.way_end-end.ensures.way
    (λ b hides line. c.loop-made.invariant.clear b (c.if-is_hidden_on.ensures.fewer c.args.node c.args.index b hides) line) (c.if-is_hidden_on.ensures.shown refl) c.requires.kept c.loop-made.invariant.below (wanted-held nodes end held) in (
      λ _. c.loop-made.invariant.up (end, held, c.way_end-end.ensures.way.above, finds),
      λ _. refl,
    )

pub returns-in_default-clause-found : goal.returns-in_default-clause-found
returns-in_default-clause-found t c =
    let nodes = c.args.nodes.now.nodes in
    let kin = kin_noted nodes c.way_end-end.new.kin.links c.is_hidden_on.new.kin.links c.if-is_hidden_on.ensures.noted (kin_noted nodes c.loop-made.kin.links c.way_end-end.new.kin.links c.way_end-end.ensures.noted c.loop-made.invariant.kin) in (
      λ no. absurd (false≢true no),
      λ found. absurd (childless-none nodes c.args.made c.requires.lines c.args.node c.args.index c.is_hidden_on.new.kin.links kin c.way_end-end.result (c.is_held.ensures.free c.if-is_held.false) (sym c.in_default.ensures)
          (found-end nodes c.args.made c.requires.lines c.args.node c.args.index c.loop-made.at c.way_end-end.result c.way_end-end.ensures.way (c.loop-made.invariant.down found))),
    )

pub loop-next-init : goal.loop-next-init
loop-next-init t c =
    let nodes = c.args.nodes.now.nodes in
    let first = sym c.in-Some.ensures in
    let kin = kin_noted nodes c.way_end-end.new.kin.links c.is_hidden_on.new.kin.links c.if-is_hidden_on.ensures.noted (kin_noted nodes c.loop-made.kin.links c.way_end-end.new.kin.links c.way_end-end.ensures.noted c.loop-made.invariant.kin) in
    record {
      kid = kin.first c.way_end-end.result c.in-Some.first first;
      above = λ d kid later found. kin.newest c.way_end-end.result c.in-Some.first d first kid later;
      clear = clear-end nodes c.args.made c.requires.lines c.args.node c.args.index c.is_hidden_on.new.hiders c.if-is_hidden_on.ensures.known c.loop-made.at c.way_end-end.result c.way_end-end.ensures.way
          (λ b hides line. c.loop-made.invariant.clear b (c.if-is_hidden_on.ensures.fewer c.args.node c.args.index b hides) line) (c.if-is_hidden_on.ensures.shown refl);
      known = c.if-is_hidden_on.ensures.known;
      whole = c.if-is_hidden_on.ensures.whole ∙ c.loop-made.invariant.whole;
      fewer = λ n i b hides. c.loop-made.invariant.fewer n i b (c.if-is_hidden_on.ensures.fewer n i b hides);
      kin = kin;
      ways = c.if-is_hidden_on.ensures.ways;
      noted = noted-on c.args.kin.now.links c.way_end-end.new.kin.links c.is_hidden_on.new.kin.links (noted-on c.args.kin.now.links c.loop-made.kin.links c.way_end-end.new.kin.links c.loop-made.invariant.noted c.way_end-end.ensures.noted) c.if-is_hidden_on.ensures.noted;
      spare = omega (arith, c.loop-made.invariant.spare, c.way_end-end.ensures.spare, c.if-is_hidden_on.ensures.spare);
    }

pub is_found_from-requires : goal.is_found_from-requires
is_found_from-requires t c =
    let nodes = c.args.nodes.now.nodes in
    let inv = c.loop-next.invariant in
    let end = c.way_end-end.result in
    let at = c.loop-made.at in
    let kid = c.loop-next.kid in
    let to_end = kid-on nodes end kid inv.kid.0 in
    let line = on-trans nodes kid end at to_end c.way_end-end.ensures.way.above in
    let first : c.args.from ≤ at = c.loop-made.invariant.later in
    let low : at ≤ end = on-lower nodes c.args.made c.requires.lines end at c.way_end-end.ensures.way.above in
    let both = kid-later nodes c.args.made c.requires.lines end kid inv.kid.0 in
    let later : end < kid = both.0 in
    let under : kid < c.args.made = both.1 in (
      omega (arith, first, low, later, under, c.decreases),
      (
        c.requires.lines,
        (
          inv.kin,
          (
            inv.ways,
            (
              inv.known,
              (
                c.requires.kept,
                (
                  on-trans nodes kid at c.args.node line c.loop-made.invariant.below,
                  kid-clear nodes c.args.made c.requires.lines c.args.node c.args.index c.loop-next.hiders end kid inv.kid.0 inv.clear,
                ),
              ),
            ),
          ),
        ),
      ),
    )

pub returns-then-is_found_from-clause-found : goal.returns-then-is_found_from-clause-found
returns-then-is_found_from-clause-found t c =
    let nodes = c.args.nodes.now.nodes in
    let end = c.way_end-end.result in
    let kid = c.loop-next.kid in
    let line = on-trans nodes kid end c.loop-made.at (kid-on nodes end kid c.loop-next.invariant.kid.0) c.way_end-end.ensures.way.above in (
      λ _. c.loop-made.invariant.up (found-up nodes c.args.made c.requires.lines c.args.node c.args.index c.loop-made.at kid line (c.if-is_found_from.ensures.found.0 refl)),
      λ _. refl,
    )

pub loop-next-smaller : goal.loop-next-smaller
loop-next-smaller t c = (c.loop-next.invariant.kin.next c.way_end-end.result c.loop-next.kid c.in-Some-next_kid.next c.loop-next.invariant.kid (sym c.in-Some-next_kid.ensures)).1

pub loop-next-preserved : goal.loop-next-preserved
loop-next-preserved t c =
    let nodes = c.args.nodes.now.nodes in
    let inv = c.loop-next.invariant in
    let next = sym c.in-Some-next_kid.ensures in
    record {
      kid = (inv.kin.next c.way_end-end.result c.loop-next.kid c.in-Some-next_kid.next inv.kid next).0;
      above = next-above nodes c.args.made c.requires.lines c.args.node c.args.index c.loop-next.kin.links inv.kin c.way_end-end.result (c.is_held.ensures.free c.if-is_held.false) c.loop-next.kid c.in-Some-next_kid.next inv.kid next
          (λ found. false≢true (c.if-is_found_from.ensures.found.1 found)) inv.above;
      clear = λ b hides line. inv.clear b (c.if-is_found_from.ensures.fewer c.args.node c.args.index b hides) line;
      known = c.if-is_found_from.ensures.known;
      whole = c.if-is_found_from.ensures.whole ∙ inv.whole;
      fewer = λ n i b hides. inv.fewer n i b (c.if-is_found_from.ensures.fewer n i b hides);
      kin = kin_noted nodes c.loop-next.kin.links c.is_found_from.new.kin.links c.if-is_found_from.ensures.noted inv.kin;
      ways = c.if-is_found_from.ensures.ways;
      noted = noted-on c.args.kin.now.links c.loop-next.kin.links c.is_found_from.new.kin.links inv.noted c.if-is_found_from.ensures.noted;
      spare = omega (arith, inv.spare, c.if-is_found_from.ensures.spare);
    }

pub loop-made-preserved : goal.loop-made-preserved
loop-made-preserved t c =
    let nodes = c.args.nodes.now.nodes in
    let inv = c.loop-next.invariant in
    let end = c.way_end-end.result in
    let at = c.loop-made.at in
    let kid = c.loop-next.kid in
    let to_end = kid-on nodes end kid inv.kid.0 in
    let line = on-trans nodes kid end at to_end c.way_end-end.ensures.way.above in
    let low : at ≤ end = on-lower nodes c.args.made c.requires.lines end at c.way_end-end.ensures.way.above in
    let later : end < kid = (kid-later nodes c.args.made c.requires.lines end kid inv.kid.0).0 in
    record {
      later = omega (arith, low, later, c.loop-made.invariant.later);
      below = on-trans nodes kid at c.args.node line c.loop-made.invariant.below;
      clear = kid-clear nodes c.args.made c.requires.lines c.args.node c.args.index c.loop-next.hiders end kid inv.kid.0 inv.clear;
      down = λ found. last-kid nodes c.args.made c.requires.lines c.args.node c.args.index c.loop-next.kin.links inv.kin end (c.is_held.ensures.free c.if-is_held.false) kid inv.kid (sym c.in_default-next_kid.ensures) inv.above
          (found-end nodes c.args.made c.requires.lines c.args.node c.args.index at end c.way_end-end.ensures.way (c.loop-made.invariant.down found));
      up = λ found. c.loop-made.invariant.up (found-up nodes c.args.made c.requires.lines c.args.node c.args.index at kid line found);
      known = inv.known;
      whole = inv.whole;
      fewer = inv.fewer;
      kin = inv.kin;
      ways = inv.ways;
      noted = inv.noted;
      spare = inv.spare;
    }

pub loop-made-smaller : goal.loop-made-smaller
loop-made-smaller t c =
    let nodes = c.args.nodes.now.nodes in
    let end = c.way_end-end.result in
    let at = c.loop-made.at in
    let kid = c.loop-next.kid in
    let low : at ≤ end = on-lower nodes c.args.made c.requires.lines end at c.way_end-end.ensures.way.above in
    let both = kid-later nodes c.args.made c.requires.lines end kid c.loop-next.invariant.kid.0 in
    let later : end < kid = both.0 in
    let under : kid < c.args.made = both.1 in
    omega arith
