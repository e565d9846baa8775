-- What calls on a disk keep of it.
use Rattle.std.proofs.Common.{◌≡◌, List, [], ◌∷◌, ◌++◌, refl, ap, ◌∙◌}
use Rattle.ebs_world.specs.View.{View}
use Rattle.ebs_model.specs.declared.keys.Moment.{Moment}
use Rattle.ebs_model.specs.declared.answer.Answer.{Answer}
use Rattle.ebs_http.specs.declared.message.Message.{Message}
use Rattle.ebs_exchanges.specs.Exchanges.{Exchange}
use Rattle.ebs_session.specs.Session.{Chain}
use Rattle.ebs_recovery.specs.inner.Fits.{Seen}
use Rattle.ebs_service.specs.inner.Served.{served_on, Served, refused, starved, applied}

-- what the disk tells, and whether it is honest, are as they were
pub record IsAlike (v w : View) : Type 0 where
  pub tells : w.tells ≡ v.tells
  pub honest : w.honest ≡ v.honest

one_alike : {D : Type 0} (view : D → View) (d e : D) → e ≡ d → IsAlike (view d) (view e)
one_alike {D} view d e same = record { tells = ap (λ (x : D). (view x).tells) same; honest = ap (λ (x : D). (view x).honest) same }

reply_alike : {D : Type 0} (view : D → View) (sound : Type 0) (s t : Seen) (d e : D) (message : Message) (reading : Moment) (answer : Answer)
    → Served (e ≡ d) sound (view d) (view e) s t message reading answer → IsAlike (view d) (view e)
reply_alike view sound s t d e message reading answer (refused refusal makes is still same) = one_alike view d e still
reply_alike view sound s t d e message reading answer (starved is still same) = one_alike view d e still
reply_alike view sound s t d e message reading answer (applied call makes by) = record { tells = by.ran.ran.told; honest = by.ran.ran.kept_honest }

pub chain_alike : {D : Type 0} (view : D → View) (sound : Type 0) (xs : List Exchange) (s t : Seen) (d e : D) → Chain (served_on sound view) s d xs t e → IsAlike (view d) (view e)
chain_alike view sound [] s t d e chain = one_alike view d e chain.1
chain_alike view sound (x ∷ xs) s t d e chain =
    let first = reply_alike view sound s chain.0 d chain.1 x.message (record { second = x.reading }) x.answer chain.2 in
    let rest = chain_alike view sound xs chain.0 t chain.1 e chain.3 in
    record { tells = rest.tells ∙ first.tells; honest = rest.honest ∙ first.honest }

-- replies to two lists of exchanges, one behind the other, are replies to each
pub chain_split : {D : Type 0} (view : D → View) (sound : Type 0) (front back : List Exchange) (s t : Seen) (d e : D) → Chain (served_on sound view) s d (front ++ back) t e
    → (u : Seen) × (mid : D) × Chain (served_on sound view) s d front u mid × Chain (served_on sound view) u mid back t e
chain_split view sound [] back s t d e chain = (s, d, (refl, refl), chain)
chain_split view sound (x ∷ xs) back s t d e chain =
    let rest = chain_split view sound xs back chain.0 t chain.1 e chain.3 in
    (rest.0, rest.1, (chain.0, chain.1, chain.2, rest.2), rest.3)
