use Rattle.std.proofs.Common.{◌≡◌, None, true, false, cond, is_some, sym, ap, ◌∙◌, refl}
use Rattle.std.specs.FinMap.{get}
use Rattle.std.specs.Ordering.{eq_by_cmp}
use Rattle.ebs_tables.specs.Seen.{seen}
use Rattle.ebs_tables.specs.Full.{full}
use Rattle.ebs_tables.proofs.MapEdits.{tied}
use Rattle.ebs_tables.proofs.FullLaws.{flat, get-full, full-none, remove-none, ready-insert, none_of}
use Rattle.ebs_tables.proofs.slots.Slots.prepare.Goals as goal

either : (b : _) → cond b true true ≡ true
either true = refl
either false = refl

pub returns-in_ok-insert-clause-held : goal.returns-in_ok-insert-clause-held
returns-in_ok-insert-clause-held g c =
    let o = g.met.K.Ord.total in
    let same = g.met.K.Key.exact in
    let m = seen g.K.Ord.cmp c.args.self.now.slots in
    let none = none_of _ (sym c.contains.ensures ∙ c.if-not-contains.true) in
    ap full c.in_ok-insert.ensures.ok ∙ full-none o same m c.args.key ∙ remove-none o same (full m) c.args.key (get-full o m c.args.key ∙ ap flat none)

pub returns-in_ok-insert-clause-ready : goal.returns-in_ok-insert-clause-ready
returns-in_ok-insert-clause-ready g c =
    let o = g.met.K.Ord.total in
    let m = seen g.K.Ord.cmp c.args.self.now.slots in
    let k = c.args.key in
    ap (λ x. is_some (get x k)) c.in_ok-insert.ensures.ok ∙ ready-insert o m k None k ∙ ap (λ b. cond b true (is_some (get m k))) (tied o k)

pub returns-in_ok-insert-clause-others : goal.returns-in_ok-insert-clause-others
returns-in_ok-insert-clause-others g c = λ q h.
    let o = g.met.K.Ord.total in
    let m = seen g.K.Ord.cmp c.args.self.now.slots in
    let k = c.args.key in
    ap (λ x. is_some (get x q)) c.in_ok-insert.ensures.ok ∙ ready-insert o m k None q ∙ ap (cond (eq_by_cmp g.K.Ord.cmp q k) true) h ∙ either (eq_by_cmp g.K.Ord.cmp q k)
