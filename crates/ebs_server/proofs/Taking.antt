-- A connection's turns, one exchange after the other.
use Rattle.std.proofs.Common.{◌≡◌, ℕ, ◌++◌, Ok, List, [], ◌∷◌, refl, sym, ap, subst, ◌∙◌}
use Rattle.std.proofs.lemmas.List.{append-nil, append_assoc}
use Rattle.ebs_world.specs.View.{View as DiskView}
use Rattle.ebs_model.specs.declared.request.Call.{Call}
use Rattle.ebs_exchanges.specs.Exchanges.{Exchange}
use Rattle.ebs_recovery.specs.inner.Fits.{Seen}
use Rattle.ebs_rest.specs.CallOf.{call_of}
use Rattle.ebs_session.specs.Session.{Chain}
use Rattle.ebs_turns.specs.declared.line.Turn.{Turn}
use Rattle.ebs_turns.specs.declared.seats.View.{View}
use Rattle.ebs_turns.specs.Line.{turns_of}
use Rattle.ebs_desk.specs.declared.item.Item.{Item}
use Rattle.ebs_desk.specs.declared.shelf.Shelf.{Shelf}
use Rattle.ebs_desk.specs.declared.desk.Receipt.{Receipt}
use Rattle.ebs_turns.specs.declared.line.Deed.{Deed}
use Rattle.ebs_turns.specs.declared.line.Deed.TheVariants.{Nothing, Takes, Spends}
use Rattle.ebs_desk.specs.declared.item.Item.TheVariants.{Staged}
use Rattle.ebs_desk.specs.Calls.{Called, Answered, turn_of, turn_with}
use Rattle.ebs_desk.specs.Calls as calls
use Rattle.ebs_server.specs.Answers.{IsAnswered, answers}
use Rattle.ebs_server.specs.Answers as said
use Rattle.ebs_server.specs.Taken.{Tells, Took, TookEach}
use Rattle.ebs_server.specs.Taken as taken

module _ {D : Type 0} (sound : Type 0) (view : D → DiskView) (first : Shelf Seen D) where
  abbrev Known : Type 0
  Known = View (Shelf Seen D) (Item D)

  nothing_more : (number : ℕ) (v w : Known) → w.seen ≡ v.seen → turns_of number w.seen ≡ turns_of number v.seen ++ []
  nothing_more number v w same = ap (turns_of number) same ∙ sym (append-nil (turns_of number v.seen))

  by_turn : (x : Exchange) (number : ℕ) (before after : List (Turn (Item D))) (deed : Deed) (call : Call) (receipt : Receipt) → call_of x.message ≡ Ok call → receipt.answer ≡ x.answer
      → Answered sound view first number before after deed call.account (record { second = x.reading }) call.request receipt → (item : Item D) × Tells x item × (turns_of number after ≡ turns_of number before ++ turn_with number item deed ∷ [])
  by_turn x number before after deed call receipt makes same (calls.entered asked told place is answer at a b c adds found) = (_, taken.entered call asked told makes is (answer ∙ same) refl, adds.own)
  by_turn x number before after deed call receipt makes same (calls.failed old new answer a b adds) = (_, taken.failed old new (sym same ∙ answer) refl, adds.own)
  by_turn x number before after deed call receipt makes same (calls.wanted answer a adds) = (_, taken.wanted (sym same ∙ answer) refl, adds.own)

  by_call : (x : Exchange) (v w : Known) (call : Call) (receipt : Receipt) → call_of x.message ≡ Ok call → receipt.answer ≡ x.answer → Called sound view first v call.account (record { second = x.reading }) call.request receipt w
      → (turns : List (Turn (Item D))) × (turns_of v.number w.seen ≡ turns_of v.number v.seen ++ turns) × Took v.number x turns
  by_call x v w call receipt makes same (calls.in_one few answered) = let o = by_turn x v.number v.seen w.seen Nothing call receipt makes same answered in (turn_of v.number o.0 ∷ [], o.2, taken.one o.0 o.1 refl)
  by_call x v w call receipt makes same (calls.in_two head block slot mid few is adds answered) =
      let o = by_turn x v.number mid w.seen (Spends slot) call receipt makes same answered in
      let a : Turn (Item D) = turn_with v.number (Staged block) (Takes slot) in
      let b : Turn (Item D) = turn_with v.number o.0 (Spends slot) in (
        a ∷ b ∷ [],
        o.2 ∙ ap (λ ts. ts ++ b ∷ []) adds.own ∙ append_assoc (turns_of v.number v.seen) (a ∷ []) (b ∷ []),
        taken.two block slot o.0 (record { call = call; head = head; is = makes; put = is }) o.1 refl,
      )
  by_call x v w call receipt makes same (calls.ended answer a b seen) = ([], nothing_more v.number v w seen, taken.ended (sym same ∙ answer) refl)

  -- one exchange, by which the pass stays the one that it is
  by_one : (x : Exchange) (v w : Known) → IsAnswered sound view first v x.message (record { second = x.reading }) x.answer w
      → (w.number ≡ v.number) × ((turns : List (Turn (Item D))) × (turns_of v.number w.seen ≡ turns_of v.number v.seen ++ turns) × Took v.number x turns)
  by_one x v w (said.refused refusal makes answer stays) = (ap (λ (k : Known). k.number) stays, ([], nothing_more v.number v w (ap (λ (k : Known). k.seen) stays), taken.refused refusal makes answer refl))
  by_one x v w (said.starved answer stays) = (ap (λ (k : Known). k.number) stays, ([], nothing_more v.number v w (ap (λ (k : Known). k.seen) stays), taken.starved answer refl))
  by_one x v w (said.called call receipt makes within answer same h) = (same.number, by_call x v w call receipt makes answer h)

  pub taking : (exchanges : List Exchange) (v w : Known) → Chain (answers sound view first) tt v exchanges tt w
      → (turns : List (Turn (Item D))) × (turns_of v.number w.seen ≡ turns_of v.number v.seen ++ turns) × TookEach v.number exchanges turns
  taking [] v w (unit, stays) = ([], nothing_more v.number v w (ap (λ (k : Known). k.seen) stays), refl)
  taking (x ∷ xs) v w (between, u, one, rest) =
      let took = by_one x v u one in
      let more = taking xs u w rest in
      let number = took.0 in (
        took.1.0 ++ more.0,
        ap (λ n. turns_of n w.seen) (sym number) ∙ more.1 ∙ ap (λ n. turns_of n u.seen ++ more.0) number ∙ ap (λ ts. ts ++ more.0) took.1.1 ∙ append_assoc (turns_of v.number v.seen) took.1.0 more.0,
        (took.1.0, more.0, refl, took.1.2, subst (λ n. TookEach n xs more.0) number more.2),
      )
