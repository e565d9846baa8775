-- The exchanges of a session, and a command's own calls, as paths.
use Rattle.std.proofs.Common.{◌≡◌, ◌⊎◌, inl, inr, List, [], ◌∷◌, None, true, refl}
use Rattle.ebs_world.specs.View.{View}
use Rattle.ebs_exchanges.specs.Exchanges.{Exchange}
use Rattle.ebs_exchanges.specs.Stops.{Does, OwnCall, Obeys, Makes, IsOwn}
use Rattle.ebs_session.specs.Session.{Chain}
use Rattle.ebs_recovery.specs.inner.Fits.{Seen, recorded}
use Rattle.ebs_disk_store.specs.inner.Turned.{OneMoreOrNone}
use Rattle.ebs_service.specs.inner.Served.{served_on, refused, starved, applied, IsApplied, OwnChain}
use Rattle.ebs_service.proofs.Points.{does, obeys}
use Rattle.ebs_service.proofs.Paths.{Did, by_none, by_call, Path}

-- nothing is pending behind a change, and else what is recorded stays
stays : (v w : View) (s t : Seen) → OneMoreOrNone v w s t → (t.pending ≡ None) ⊎ (recorded w t ≡ recorded v s)
stays v w s t (inl more) = inl more.2
stays v w s t (inr none) = inr none.0

module _ (sound : Type 0) (is_sound : sound) {D : Type 0} (view : D → View) where
  did_reply : (x : Exchange) (d f : D) (s u : Seen) → (view d).tells ≡ true → (view d).honest ≡ true → served_on sound view s d x.message (record { second = x.reading }) x.answer u f
      → Did Makes Does view x d f s u
  did_reply x d f s u tells honest (refused refusal makes answer still same) = by_none still same
  did_reply x d f s u tells honest (starved answer still same) = by_none still same
  did_reply x d f s u tells honest (applied call makes a) = by_call (record { call = call; reading = x.reading; answer = x.answer }) (record { call = makes; reading = refl; answer = refl }) a.within a.pending
      (stays (view d) (view f) s u (a.recorded is_sound tells honest)) a.ran (a.moments is_sound tells honest)

  pub path_of : (xs : List Exchange) (s t : Seen) (d e : D) → Chain (served_on sound view) s d xs t e → Path Makes Does view s d xs t e
  path_of [] s t d e ends = ends
  path_of (x ∷ xs) s t d e (u, f, served, chain) =
      (u, f, (λ tells honest. record { part = does sound is_sound D view s u d f x tells honest served; did = did_reply x d f s u tells honest served }), path_of xs u t f e chain)

  did_call : (x : OwnCall) (d f : D) (s u : Seen) → (view d).tells ≡ true → (view d).honest ≡ true → IsApplied (f ≡ d) sound (view d) (view f) s u x.call (record { second = x.reading }) x.answer
      → Did IsOwn Obeys view x d f s u
  did_call x d f s u tells honest a = by_call x refl a.within a.pending (stays (view d) (view f) s u (a.recorded is_sound tells honest)) a.ran (a.moments is_sound tells honest)

  pub own_path : (xs : List OwnCall) (s t : Seen) (d e : D) → OwnChain sound view s d xs t e → Path IsOwn Obeys view s d xs t e
  own_path [] s t d e ends = ends
  own_path (x ∷ xs) s t d e (u, f, by, chain) =
      (u, f, (λ tells honest. record { part = obeys (view d) (view f) s u x (by.step is_sound tells honest) (by.recorded is_sound tells honest); did = did_call x d f s u tells honest by }), own_path xs u t f e chain)
