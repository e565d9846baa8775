-- A pass that stays the one that it is.
use Rattle.std.proofs.Common.{◌≡◌, ℕ, List, [], ◌∷◌, ap, ◌∙◌}
use Rattle.ebs_world.specs.View.{View as DiskView}
use Rattle.ebs_exchanges.specs.Exchanges.{Exchange}
use Rattle.ebs_recovery.specs.inner.Fits.{Seen}
use Rattle.ebs_session.specs.Session.{Chain}
use Rattle.ebs_turns.specs.declared.seats.View.{View}
use Rattle.ebs_turns.specs.Known.{IsSame}
use Rattle.ebs_desk.specs.declared.item.Item.{Item}
use Rattle.ebs_desk.specs.declared.shelf.Shelf.{Shelf}
use Rattle.ebs_server.specs.Answers.{IsAnswered, answers}
use Rattle.ebs_server.specs.Answers as said

module _ {T I : Type 0} where
  pub same_self : (v w : View T I) → w ≡ v → IsSame v w
  same_self v w is = record { about = ap (λ (u : View T I). u.about) is; number = ap (λ (u : View T I). u.number) is; tally = ap (λ (u : View T I). u.tally) is }

  pub same_on : (v u w : View T I) → IsSame v u → IsSame u w → IsSame v w
  same_on v u w first second = record { about = second.about ∙ first.about; number = second.number ∙ first.number; tally = second.tally ∙ first.tally }

module _ {D : Type 0} (sound : Type 0) (view : D → DiskView) (first : Shelf Seen D) where
  abbrev Known : Type 0
  Known = View (Shelf Seen D) (Item D)

  same_by_one : (x : Exchange) (v w : Known) → IsAnswered sound view first v x.message (record { second = x.reading }) x.answer w → IsSame v w
  same_by_one x v w (said.refused refusal makes answer stays) = same_self v w stays
  same_by_one x v w (said.starved answer stays) = same_self v w stays
  same_by_one x v w (said.called call receipt makes within answer same h) = same

  -- over the exchanges of a connection
  pub same_along : (exchanges : List Exchange) (v w : Known) → Chain (answers sound view first) tt v exchanges tt w → IsSame v w
  same_along [] v w (unit, stays) = same_self v w stays
  same_along (x ∷ xs) v w (between, u, one, rest) = same_on v u w (same_by_one x v u one) (same_along xs u w rest)
