-- What a session says of a clerk and its pass, said of what the pass knows.
use Rattle.std.proofs.Common.{◌≡◌, ℕ, List, [], ◌∷◌, Option, refl, ap, subst, ◌∙◌}
use Rattle.ebs_model.specs.declared.keys.Moment.{Moment}
use Rattle.ebs_model.specs.declared.answer.Answer.{Answer}
use Rattle.ebs_http.specs.declared.message.Message.{Message}
use Rattle.ebs_exchanges.specs.Exchanges.{Exchange}
use Rattle.ebs_session.specs.declared.end.End.{End}
use Rattle.ebs_session.specs.Session.{Chain, Session}

module _ {C P V : Type 0} (seen : P → V) (tells : C → V → Message → Moment → Answer → V → Type 0) where
  -- the clerk stays, and each reply is told of what is seen
  pub talked : (exchanges : List Exchange) (now next : C) (p q : P) → Chain (λ clerk before message reading answer left after. (left ≡ clerk) × tells clerk (seen before) message reading answer (seen after)) now p exchanges next q
      → (next ≡ now) × Chain {R = Unit {0}} (λ u v message reading answer t w. tells now v message reading answer w) tt (seen p) exchanges tt (seen q)
  talked [] now next p q (stays, ended) = (stays, (refl, ap seen ended))
  talked (x ∷ xs) now next p q (between, world, reply, rest) =
      let more = talked xs between next world q rest in (
        more.0 ∙ reply.0,
        (tt, seen world, reply.1, subst (λ clerk. Chain {R = Unit {0}} (λ u v message reading answer t w. tells clerk v message reading answer w) tt (seen world) xs tt (seen q)) reply.0 more.1),
      )

pub told : (limit : ℕ) (end : End) (Went Told : List Exchange → Type 0) (left_old left_new written_old written_new clock_old clock_new : Option (List ℕ)) → ((exchanges : List Exchange) → Went exchanges → Told exchanges)
    → Session limit end Went left_old left_new written_old written_new clock_old clock_new → Session limit end Told left_old left_new written_old written_new clock_old clock_new
told limit end Went Told left_old left_new written_old written_new clock_old clock_new f s = record {
  taken = s.taken;
  takes = s.takes;
  few = s.few;
  exchanges = s.exchanges;
  rest = s.rest;
  covers = s.covers;
  went = f s.exchanges s.went;
  gives = s.gives;
  written = s.written;
  writes = s.writes;
  wrote = s.wrote;
  one_way = s.one_way;
  ends = s.ends;
  wanted = s.wanted;
}
