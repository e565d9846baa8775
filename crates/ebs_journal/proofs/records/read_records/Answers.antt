use Rattle.std.proofs.Common.{◌≡◌, ◌∙◌, ◌+◌, ◌++◌, [], ◌∷◌, ℕ, List, length, sym, ap, subst, arith}
use Rattle.ebs_world.specs.Image.{Image, Spells}
use Rattle.ebs_journal.specs.Format.{entries}
use Rattle.ebs_journal.specs.inner.Reading.{IsAhead, IsSized}
use Rattle.ebs_journal.proofs.Pieces.{reads_on, at_first}
use Rattle.ebs_journal.proofs.Walking.{sized_push, spelled_push}
use Rattle.ebs_journal.proofs.records.read_records.Goals as goal

pub returns-in_err-payload-clause-ran : goal.returns-in_err-payload-clause-ran
returns-in_err-payload-clause-ran g c = reads_on _ _ _ c.loop-ahead.invariant.ran c.read_entry.ensures.ran

pub returns-in_err-push-clause-ran : goal.returns-in_err-push-clause-ran
returns-in_err-push-clause-ran g c = reads_on _ _ _ c.loop-ahead.invariant.ran c.read_entry.ensures.ran

pub returns-in_err-push-2-clause-ran : goal.returns-in_err-push-2-clause-ran
returns-in_err-push-2-clause-ran g c = reads_on _ _ _ c.loop-ahead.invariant.ran c.read_entry.ensures.ran

pub loop-ahead-preserved : goal.loop-ahead-preserved
loop-ahead-preserved g c =
    let size = c.in_ok-payload.ensures.size in
    let r = c.in_ok-payload.payload.items in
    let rs = c.loop-ahead.records.items in
    let places = c.loop-ahead.places.items in
    let gate = c.loop-ahead.gate in
    let f = (g.D.Disk.view c.args.disk.now).reads c.args.area in
    let n_is : c.loop-ahead.ahead.length ≡ c.from.result = omega (arith, c.from.ensures) in
    let length_is : length r ≡ c.from.result = size.1 ∙ n_is in
    let records_are : c.push-in-loop-ahead.new.self.items ≡ rs ++ r ∷ [] = c.in_ok-push-2.ensures.items ∙ ap (λ (l : List ℕ). rs ++ l ∷ []) c.from_vec.ensures in
    let places_are : c.push.new.self.items ≡ places ++ gate ∷ [] = c.in_ok-push.ensures.items in
    let pushed = sized_push c.args.first rs places gate r c.from.result c.loop-ahead.invariant.sized size.0 length_is size.2 in
    record {
      ran = reads_on _ _ _ c.loop-ahead.invariant.ran c.read_entry.ensures.ran;
      sized = subst (λ (l : List (List ℕ)). IsSized c.args.first l c.push.new.self.items (gate + (5 + c.from.result))) (sym records_are)
          (subst (λ (l : List ℕ). IsSized c.args.first (rs ++ r ∷ []) l (gate + (5 + c.from.result))) (sym places_are) pushed);
      spelled = λ told. subst (λ (l : List (List ℕ)). Spells f c.args.first (entries l)) (sym records_are)
          (spelled_push f c.args.first rs gate r c.loop-ahead.ahead c.loop-ahead.invariant.sized.ends (c.loop-ahead.invariant.spelled told) (c.loop-ahead.invariant.ahead_is told) c.loop-ahead-test.true size.1
          (at_first _ _ (λ (i : Image). Spells (i c.args.area) (gate + 5) r) c.loop-ahead.invariant.ran c.in_ok-payload.ensures.bytes told));
      ahead_is = λ told.
          let there : gate + 5 + c.loop-ahead.ahead.length ≡ gate + (5 + c.from.result) = omega (arith, n_is) in
          subst (λ (n : ℕ). IsAhead f n c.in_ok-payload.next) there
          (at_first _ _ (λ (i : Image). IsAhead (i c.args.area) (gate + 5 + c.loop-ahead.ahead.length) c.in_ok-payload.next) c.loop-ahead.invariant.ran c.in_ok-payload.ensures.ahead told);
    }
