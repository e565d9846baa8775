-- A command's own calls over the store that was had of a disk.
use Rattle.std.proofs.Common.{◌≡◌, inl, inr, ℕ, ◌≤◌, List, [], ◌∷◌, ◌++◌, None, true, refl, sym, ap, subst, ◌∙◌}
use Rattle.std.specs.List.{AllByRecursion}
use Rattle.ebs_world.specs.Image.{Image}
use Rattle.ebs_world.specs.View.{View, Leaves, Ran, IsTrueToItself}
use Rattle.ebs_journal.specs.Opening.{OffMaking}
use Rattle.ebs_model.specs.Limits.{bad_member}
use Rattle.ebs_model.specs.Machine.{Machine}
use Rattle.ebs_model.specs.declared.keys.Moment.{Moment}
use Rattle.ebs_model.specs.declared.answer.Answer.{Answer}
use Rattle.ebs_model.specs.declared.answer.Answer.TheVariants.{Refused}
use Rattle.ebs_model.specs.declared.answer.Refusal.TheVariants.{Unavailable}
use Rattle.ebs_exchanges.specs.Stops.{Point, OwnCall, Obeys, IsUntold, IsOwn}
use Rattle.ebs_exchanges.specs.Lives.{Event, commanded, at_rest, Lives}
use Rattle.ebs_exchanges.specs.inner.LifeLaws.{LivesOnByCommand, LivesAgain, CommandIsLost}
use Rattle.ebs_recovery.specs.inner.Fits.{Seen, recorded}
use Rattle.ebs_recovery.specs.Stands.{Stands}
use Rattle.ebs_disk_store.specs.inner.Pending.{IsPendingAfter}
use Rattle.ebs_disk_store.specs.inner.Told.{IfSound, at_reading}
use Rattle.ebs_service.specs.inner.Served.{OwnChain}
use Rattle.ebs_service.specs.inner.Fronts.{point, CallsStood}
use Rattle.ebs_service.specs.Fronts.{StandsForCalls}
use Rattle.ebs_commands.specs.Samples.{Answers, GoOn}
use Rattle.ebs_commands.specs.Ticks.{Asked, RunAnswer, goes_on as goes_on_by, run_calls}
use Rattle.ebs_commands.specs.inner.Chains.{Chain}
use Rattle.ebs_opening.specs.Opens.{AllStand}
use Rattle.ebs_opening.specs.inner.Opens.{Has}
use Rattle.ebs_cli.specs.Left.{Commanded, IsLeftOfCalls, loses_call, own_calls}
use Rattle.ebs_cli.proofs.Slotted.{IsUnleased, applied_has, unleased_steady}
use Rattle.ebs_cli.proofs.Going.{goes_on, went_along, acknowledged, at_end, since_first}

-- no member of these calls is out of its limits
abbrev pub AreWithin : List (Asked × Answer) → Type 0
AreWithin xs = AllByRecursion (λ (x : Asked × Answer). bad_member x.0.request ≡ None) xs

-- so it is of the runs of policies
pub runs_within : (reading : Moment) (runs : List RunAnswer) → AreWithin (run_calls reading runs)
runs_within reading [] = tt
runs_within reading (r ∷ runs) = (refl, runs_within reading runs)

-- the calls of a chain, as a life has them
pub own_chain : {D : Type 0} (view : D → View) (sound : Type 0) (xs : List (Asked × Answer)) (d e : D) (s t : Seen) → AreWithin xs → Chain view sound d s xs e t → OwnChain sound view s d (own_calls xs) t e
own_chain view sound [] d e s t within ends = (ends.1, ends.0)
own_chain view sound (x ∷ xs) d e s t (good, within) (mid, between, applies, chain) = (
  between,
  mid,
  record {
    within = good;
    told = applies.told;
    cause = applies.cause;
    pending = applies.pending;
    ran = applies.ran;
    step = applies.step;
    recorded = applies.recorded;
    moments = applies.moments;
  },
  own_chain view sound xs mid e between t within chain,
)

-- what holds of any life
pub record Laws : Type 0 where
  pub on : LivesOnByCommand
  pub again : LivesAgain
  pub untold : CommandIsLost

own_lost : Laws → (past : List Event) (p : Point) (x made : OwnCall) (second : ℕ) (next : Machine) → Lives past p → made ≡ x → IsUntold made.call second p.recorded next → Lives (past ++ loses_call x second ∷ []) (at_rest next)
own_lost laws past p x made second next lives same lost = laws.untold past p x.call second next lives (subst (λ (y : OwnCall). IsUntold y.call second p.recorded next) same lost)

left_of : Laws → (m : Machine) (xs : List OwnCall) (least : ℕ) (c : Image) → StandsForCalls (at_rest m) xs least c → IsLeftOfCalls m xs least c
left_of laws m xs least c f = record {
  front = f;
  goes_on = goes_on IsOwn Obeys commanded loses_call laws.on laws.again (own_lost laws) m xs least c f;
}

-- and what is recorded behind them is the store's
pub record CommandedTo (m : Machine) (v w : View) (t : Seen) (xs : List OwnCall) : Type 0 where
  pub commanded : Commanded m v w xs
  pub is : commanded.after.recorded ≡ recorded w t

pub commanded_to : Laws → (v u w : View) (s t : Seen) (m : Machine) (xs : List OwnCall) → IsTrueToItself w → w.honest ≡ true → v.moment ≤ u.moment → Has u s m
    → (AllStand v m → Leaves v u (λ c. Stands c m)) → CallsStood u w s t xs → CommandedTo m v w t xs
commanded_to laws v u w s t m xs law honest later has opening stood = record {
  commanded = record {
    after = point w t;
    obeys = went_along IsOwn Obeys m xs (IsLeftOfCalls m xs) (left_of laws m xs) v u w s t law honest later has stood;
    lives = λ past lives. laws.on past (at_rest m) (point w t) xs lives (went_along IsOwn Obeys m xs (IsLeftOfCalls m xs) (left_of laws m xs) v u w s t law honest later has stood);
    acknowledges = acknowledged IsOwn Obeys m xs (IsLeftOfCalls m xs) (left_of laws m xs) v u w s t law honest later has stood;
    ends = at_end IsOwn Obeys m xs (IsLeftOfCalls m xs) (left_of laws m xs) v u w s t law honest later has stood;
    from_first = λ all. since_first IsOwn Obeys m xs (IsLeftOfCalls m xs) (left_of laws m xs) v u w s t law honest later has stood (opening all);
  };
  is = refl;
}

pub commanded_from : Laws → (v u w : View) (s t : Seen) (m : Machine) (xs : List OwnCall) → IsTrueToItself w → w.honest ≡ true → v.moment ≤ u.moment → Has u s m
    → (AllStand v m → Leaves v u (λ c. Stands c m)) → CallsStood u w s t xs → Commanded m v w xs
commanded_from laws v u w s t m xs law honest later has opening stood = (commanded_to laws v u w s t m xs law honest later has opening stood).commanded

-- what disk and store are like over some calls
pub chain_alike : {D : Type 0} (view : D → View) (sound : Type 0) (xs : List (Asked × Answer)) (d e : D) (s t : Seen) → Chain view sound d s xs e t → (view e).honest ≡ (view d).honest
chain_alike view sound [] d e s t ends = ap (λ x. (view x).honest) ends.0
chain_alike view sound (x ∷ xs) d e s t (mid, between, applies, chain) = chain_alike view sound xs mid e between t chain ∙ applies.ran.ran.kept_honest

-- over the disk from before its opening on
pub commanded_by : {D : Type 0} (view : D → View) (sound : Type 0) (d opened e : D) (s t : Seen) (xs : List (Asked × Answer)) → Laws → IsTrueToItself (view e) → AreWithin xs → Ran OffMaking (view d) (view opened)
    → ((view d).tells ≡ true → (view d).honest ≡ true → (m : Machine) → Stands (view d).reads m → Has (view opened) s m)
    → ((view d).tells ≡ true → (view d).honest ≡ true → (m : Machine) → Stands (view d).reads m → AllStand (view d) m → Leaves (view d) (view opened) (λ c. Stands c m))
    → Chain view sound opened s xs e t
    → (OwnChain sound view s opened (own_calls xs) t e → IfSound sound (view opened) (CallsStood (view opened) (view e) s t (own_calls xs)))
    → sound → (view d).tells ≡ true → (view d).honest ≡ true → (m : Machine) → Stands (view d).reads m → Commanded m (view d) (view e) (own_calls xs)
commanded_by view sound d opened e s t xs laws law within ran has opening chain stood is_sound told honest m stands =
    commanded_from laws (view d) (view opened) (view e) s t m (own_calls xs) law (chain_alike view sound xs opened e s t chain ∙ ran.kept_honest ∙ honest) (ran.moments honest).later
    (has told honest m stands) (opening told honest m stands) (stood (own_chain view sound xs opened e s t within chain) is_sound (ran.told ∙ told) (ran.kept_honest ∙ honest))

-- ---- what a chain of calls keeps

pub chain_tells : {D : Type 0} (view : D → View) (sound : Type 0) (xs : List (Asked × Answer)) (d e : D) (s t : Seen) → Chain view sound d s xs e t → (view e).tells ≡ (view d).tells
chain_tells view sound [] d e s t ends = ap (λ x. (view x).tells) ends.0
chain_tells view sound (x ∷ xs) d e s t (mid, between, applies, chain) = chain_tells view sound xs mid e between t chain ∙ applies.ran.ran.told

pub chain_unleased : {D : Type 0} (view : D → View) (sound : Type 0) (xs : List (Asked × Answer)) (d e : D) (s t : Seen) → Chain view sound d s xs e t → IsUnleased s.slots → IsUnleased t.slots
chain_unleased view sound [] d e s t ends none = subst (λ (x : Seen). IsUnleased x.slots) (sym ends.1) none
chain_unleased view sound (x ∷ xs) d e s t (mid, between, applies, chain) none =
    chain_unleased view sound xs mid e between t chain (applied_has IsUnleased unleased_steady _ _ (view d) s between x.0.account _ x.0.request x.1 applies.told none)

-- behind calls none of which was E17 nothing is pending
pub chain_clean : {D : Type 0} (view : D → View) (sound : Type 0) (xs : Answers) (d e : D) (s t : Seen) → Chain view sound d s xs e t → GoOn xs → s.pending ≡ None → t.pending ≡ None
chain_clean view sound [] d e s t ends on clean = subst (λ (x : Seen). x.pending ≡ None) (sym ends.1) clean
chain_clean view sound (x ∷ xs) d e s t (mid, between, applies, chain) (goes, on) clean = chain_clean view sound xs mid e between t chain on (settled applies.pending)
  where
    failed : {P : Type 0} → x.1 ≡ Refused Unavailable → P
    failed is = let bad : goes_on_by (Refused Unavailable) ≡ true = rw is at goes in absurd cc

    settled : IsPendingAfter s between x.0.account (at_reading s x.0.reading) x.0.request x.1 → between.pending ≡ None
    settled (inl none) = none
    settled (inr (inl same)) = same ∙ clean
    settled (inr (inr (is, recorded_of))) = failed is
