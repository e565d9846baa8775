use Rattle.std.proofs.Common.{◌≡◌, Bool, true, cond, List, [], ◌∷◌, map, Option, Some, refl, sym, ap, ◌∙◌}
use Rattle.std.specs.Prelude.{slice_get}
use Rattle.std.specs.List.{filter}
use Rattle.std.specs.Ordering.{is_le}
use Rattle.std.specs.FinMap.{get, entries}
use Rattle.ebs_tables.specs.Full.{full, held}
use Rattle.ebs_model.specs.Keys.{snap_cmp}
use Rattle.ebs_model.specs.declared.keys.SnapKey.{SnapKey}
use Rattle.ebs_catalog.specs.Held.{Held, rows_in, is_ended}
use Rattle.ebs_catalog.proofs.CountLaws.{le_first}
use Rattle.ebs_catalog.proofs.Stale.{Waits, Pairs}
use Rattle.ebs_catalog.proofs.catalog.Catalog.next_ended.Goals as goal

abbrev first_of : Pairs → Option SnapKey
first_of es = slice_get (map {B = SnapKey} (λ e. e.0) es) 0

first_at : (P : SnapKey → Bool) (k : SnapKey) (u : Unit {0}) (rest : Pairs) → P k ≡ true → first_of (filter (λ e. P e.0) ((k, u) ∷ rest)) ≡ Some k
first_at P k u rest p = ap (λ b. first_of (cond b ((k, u) ∷ filter (λ e. P e.0) rest) (filter (λ e. P e.0) rest))) p

filter_all : {A : Type 0} (p : A → Bool) → ((x : A) → p x ≡ true) → (xs : List A) → filter p xs ≡ xs
filter_all p h [] = refl
filter_all p h (x ∷ xs) = ap (λ b. cond b (x ∷ filter p xs) (filter p xs)) (h x) ∙ ap (λ t. x ∷ t) (filter_all p h xs)

whole : (m : Waits) (first : SnapKey) (is : first ≡ record { account = 0; number = 0 }) (es : Pairs) → es ≡ filter (λ e. is_le (snap_cmp first e.0)) (entries m) → es ≡ entries m
whole m first is es e = e ∙ filter_all _ (λ x. ap (λ k. is_le (snap_cmp k x.0)) is ∙ le_first x.0) (entries m)

pub returns-then-is_ended : goal.returns-then-is_ended
returns-then-is_ended c =
    let now = c.args.now.second in
    let h = c.args.self.now in
    let P = λ (k : SnapKey). is_ended now (get (rows_in h).snaps k) in
    let m = held snap_cmp c.self.inside.waits in
    let all = whole m c.first_of.result (c.first_of.ensures ∙ ap (λ a. record { account = a; number = 0 }) c.new.ensures) _ (c.into_iter-key-iterator.ensures.into_iter_gives ∙ c.from-key-items.ensures.values) ∙ ap (λ (x : Held). entries (full x.waits)) c.self.view_is in
    sym (first_at P c.in-Some.key.now tt c.next.new.self (sym c.is_ended.ensures ∙ c.if-is_ended.true))
    ∙ ap (λ es. first_of (filter (λ e. P e.0) es)) (sym c.in-Some.ensures.steps)
    ∙ ap first_of c.loop-key.invariant
    ∙ ap (λ es. first_of (filter (λ e. P e.0) es)) all

pub returns : goal.returns
returns c =
    let now = c.args.now.second in
    let h = c.args.self.now in
    let P = λ (k : SnapKey). is_ended now (get (rows_in h).snaps k) in
    let m = held snap_cmp c.self.inside.waits in
    let all = whole m c.first_of.result (c.first_of.ensures ∙ ap (λ a. record { account = a; number = 0 }) c.new.ensures) _ (c.into_iter-key-iterator.ensures.into_iter_gives ∙ c.from-key-items.ensures.values) ∙ ap (λ (x : Held). entries (full x.waits)) c.self.view_is in
    ap (λ es. first_of (filter (λ e. P e.0) es)) (sym c.in-None.ensures.steps.0)
    ∙ ap first_of c.loop-key.invariant
    ∙ ap (λ es. first_of (filter (λ e. P e.0) es)) all
