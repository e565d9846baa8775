-- What stands in a machine, while time passes and where a call is no change.
use Rattle.std.proofs.Common.{◌≡◌, ℕ, ◌+◌, ◌≤◌, max, min, List, Option, None, Some, Result, Ok, Err, refl, ap, ◌∙◌, arith}
use Rattle.sha2.specs.Sha256.{sha256}
use Rattle.ebs_model.specs.declared.keys.SnapKey.{SnapKey}
use Rattle.ebs_model.specs.declared.keys.VolKey.{VolKey}
use Rattle.ebs_model.specs.declared.keys.Moment.{Moment}
use Rattle.ebs_model.specs.declared.request.Request.{Request}
use Rattle.ebs_model.specs.declared.request.Request.TheVariants.{PutSnapshotBlock, WriteVolumeBlock}
use Rattle.ebs_model.specs.declared.change.Decision.{Decision}
use Rattle.ebs_model.specs.declared.change.Decision.TheVariants as decision
use Rattle.ebs_model.specs.declared.answer.Answer.{Answer}
use Rattle.ebs_model.specs.declared.answer.FirstKey.{FirstKey}
use Rattle.ebs_model.specs.declared.answer.FirstKey.TheVariants.{Snap, Vol}
use Rattle.ebs_model.specs.declared.answer.Spent.TheVariants.{Changes}
use Rattle.ebs_model.specs.declared.answer.Refusal.{Refusal}
use Rattle.ebs_model.specs.declared.answer.Refusal.TheVariants.{Exhausted}
use Rattle.ebs_model.specs.Quotas.{last_second}
use Rattle.ebs_model.specs.Limits.{bad_member}
use Rattle.ebs_model.specs.Refuse.{◌>>=◌, ◌>>◌, refuse_if, refuse_bad}
use Rattle.ebs_model.specs.Decide.{decide}
use Rattle.ebs_model.specs.Machine.{Machine, advance, moment_of, is_spent, rows_of}
use Rattle.ebs_model.specs.Step.{refuse_size, refuse_digest, refuse_linear, bytes_of, read, changed, finish, act, call, settled, step}
use Rattle.ebs_laws.specs.Puts.{AsksPut}
use Rattle.ebs_laws.specs.Uploads.{NumbersGiven}
use Rattle.ebs_laws.specs.TimeLaws.{TimePassesInParts}
use Rattle.ebs_laws.specs.BlockLaws.{HasBytes}
use Rattle.ebs_laws.specs.VolumeLaws.{VolumesGiven}
use Rattle.ebs_laws.specs.DiskLaws.{HasVolumeBytes, AsksWrite, IsBlank}
use Rattle.ebs_laws.proofs.Given.{numbers-aged}
use Rattle.ebs_laws.proofs.Holds.{holds-aged}
use Rattle.ebs_exchanges.specs.ReadBack.{put_call}

-- the snapshots and the volumes of a machine were given their numbers
abbrev pub IsGiven : Machine → Type 0
IsGiven m = NumbersGiven m × VolumesGiven m

-- these bytes stand at an index of a snapshot or of a volume, or nothing at one of a volume
abbrev pub Has : Machine → FirstKey → ℕ → Option (List ℕ) → Type 0
Has m (Snap key) index None = ⊥
Has m (Snap key) index (Some bytes) = HasBytes m key index bytes
Has m (Vol key) index None = IsBlank m key index
Has m (Vol key) index (Some bytes) = HasVolumeBytes m key index bytes

abbrev pub AsksAt : FirstKey → ℕ → Request → Type 0
AsksAt (Snap key) index request = AsksPut key index request
AsksAt (Vol key) index request = AsksWrite key index request

pub record IsPut (key : FirstKey) (index : ℕ) (request : Request) : Type 0 where
  pub digest : List ℕ
  pub bytes : List ℕ
  pub is : request ≡ put_call key index digest bytes

pub asked_put : (key : FirstKey) (index : ℕ) (request : Request) → AsksAt key index request → IsPut key index request
asked_put (Snap key) index (PutSnapshotBlock k i digest bytes) asks = record { digest = digest; bytes = bytes; is = ap (λ (k : SnapKey). PutSnapshotBlock k i digest bytes) asks.0 ∙ ap (λ (i : ℕ). PutSnapshotBlock key i digest bytes) asks.1 }
asked_put (Snap key) index request asks = absurd asks
asked_put (Vol key) index (WriteVolumeBlock k i digest bytes) asks = record { digest = digest; bytes = bytes; is = ap (λ (k : VolKey). WriteVolumeBlock k i digest bytes) asks.0 ∙ ap (λ (i : ℕ). WriteVolumeBlock key i digest bytes) asks.1 }
asked_put (Vol key) index request asks = absurd asks

-- ---- time passes

pub given_aged : (m : Machine) (at : Moment) → IsGiven m → IsGiven (advance m at)
given_aged m at given = (numbers-aged m at given.0, given.1)

pub has_aged : (key : FirstKey) (index : ℕ) (found : Option (List ℕ)) (m : Machine) (at : Moment) → m.clock.second ≤ at.second → Has m key index found → Has (advance m at) key index found
has_aged (Snap key) index None m at later has = absurd has
has_aged (Snap key) index (Some bytes) m at later (number, stamp, holds) = (number, stamp, holds-aged key index (record { stamp = stamp; bytes = bytes }) m at later holds)
has_aged (Vol key) index None m at later has = has
has_aged (Vol key) index (Some bytes) m at later has = has

-- a call at the clock is made of the machine as it is
module _ (parts : TimePassesInParts) (m : Machine) (at : Moment) where
  at_moment : advance (advance m at) (moment_of (advance m at) at) ≡ advance m at
  at_moment =
      let e : max at.second (min at.second last_second) ≡ at.second = omega arith in
      ap (λ (s : ℕ). advance (advance m at) (record { second = s })) e ∙ parts m at at (omega arith)

  pub step_is : (account : ℕ) (made : Request) (new : Machine) (answer : Answer) → bad_member made ≡ None → act sha256 (advance m at) account made ≡ Ok (new, answer) → step (advance m at) account at made ≡ (new, answer)
  step_is account made new answer good acts =
      ap (λ (n : Machine). settled n (call n account made)) at_moment
      ∙ ap (λ (o : Option (List ℕ)). settled (advance m at) (refuse_bad o >> act sha256 (advance m at) account made)) good
      ∙ ap (λ (r : Result (Machine × Answer) Refusal). settled (advance m at) r) acts

-- ---- what holds of an outcome, where there is one

abbrev pub IfOk : {A : Type 0} → (A → Type 0) → Result A Refusal → Type 0
IfOk P (Ok x) = P x
IfOk P (Err refusal) = Unit {0}

pub passed : {B : Type 0} (P : B → Type 0) (x : Result (Unit {0}) Refusal) (y : Result B Refusal) → IfOk P y → IfOk P (x >> y)
passed P (Ok u) y h = h
passed P (Err r) y h = tt

pub after : {A B : Type 0} (P : B → Type 0) (x : Result A Refusal) (f : A → Result B Refusal) → ((v : A) → x ≡ Ok v → IfOk P (f v)) → IfOk P (x >>= f)
after P (Ok v) f h = h v refl
after P (Err r) f h = tt

-- ---- a call that is no change leaves the machine at its moment

module _ (m : Machine) where
  abbrev IsSame : Machine × Answer → Type 0
  IsSame d = d.0.changes ≡ m.changes → d.0 ≡ m

  finish_same : (request : Request) (d : Decision) → IfOk IsSame (finish sha256 m request d)
  finish_same request (decision.Kept answer) = λ e. refl
  finish_same request (decision.View answer) = λ e. refl
  finish_same request (decision.Read row) = after IsSame (read sha256 m request row) (λ answer. Ok (m, answer)) (λ v is e. refl)
  finish_same request (decision.Change change answer) =
      let ended : IsSame (changed m (bytes_of request) change, answer) = λ e. let n : m.changes + 1 ≡ m.changes = e in absurd (omega (arith, n)) in
      passed IsSame (refuse_linear sha256 m request) _ (passed IsSame (refuse_if (is_spent m) (Exhausted Changes)) (Ok (changed m (bytes_of request) change, answer)) ended)

  call_same : (account : ℕ) (request : Request) → IfOk IsSame (call m account request)
  call_same account request =
      passed IsSame (refuse_bad (bad_member request)) _ (passed IsSame (refuse_size request) _ (passed IsSame (refuse_digest sha256 request) _
      (after IsSame (decide (rows_of m) m.clock account request) (λ d. finish sha256 m request d) (λ d is. finish_same request d))))

  settled_same : (r : Result (Machine × Answer) Refusal) → IfOk IsSame r → IsSame (settled m r)
  settled_same (Ok d) h e = h e
  settled_same (Err r) h e = refl

pub still : (m : Machine) (account : ℕ) (reading : Moment) (request : Request) → let s = step m account reading request in s.0.changes ≡ m.changes → s.0 ≡ advance m (moment_of m reading)
still m account reading request = let at = advance m (moment_of m reading) in settled_same at (call at account request) (call_same at account request)
