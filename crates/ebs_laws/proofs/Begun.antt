-- What a start makes, and which numbers are given out.
use Rattle.std.proofs.Common.{◌≡◌, ℕ, ◌+◌, ◌≤◌, ◌<◌, false, List, [], ◌∷◌, Option, Some, None, unwrap_or, sym, ap, subst, ◌∙◌, refl, arith}
use Rattle.std.specs.FinMap as fin
use Rattle.std.specs.FinMap.{nat_cmp-IsAntisymmetric}
use Rattle.std.specs.Cmp.{nat_cmp_total}
use Rattle.ebs_model.specs.declared.keys.SnapKey.{SnapKey}
use Rattle.ebs_model.specs.declared.keys.Moment.{Moment}
use Rattle.ebs_model.specs.declared.tags.Tag.{Tag}
use Rattle.ebs_model.specs.declared.rows.Own.{Own}
use Rattle.ebs_model.specs.declared.request.Request.{Request}
use Rattle.ebs_model.specs.declared.request.Request.TheVariants.{StartSnapshot, PutSnapshotBlock, CompleteSnapshot}
use Rattle.ebs_model.specs.declared.answer.Answer.TheVariants.{Started}
use Rattle.ebs_model.specs.Rows.{no_own}
use Rattle.ebs_model.specs.Machine.{Machine, advance, disk_of}
use Rattle.ebs_model.specs.Calls.Start.{started_row}
use Rattle.ebs_model.specs.inner.Orders.{snaps_total, exact_snaps}
use Rattle.ebs_model.specs.Timed.{Timed, turn, after_all}
use Rattle.ebs_laws.specs.Words.{moment_at, number_in, next_number, started_id, is_repeat, IsNewRow}
use Rattle.ebs_laws.specs.StartLaws.{NumbersNeverFall, StartedIdsDiffer, IsStarted, StartedRowIsWanted}
use Rattle.ebs_laws.proofs.Beside.{same-next}
use Rattle.ebs_laws.proofs.Maps.{get-itself}
use Rattle.ebs_laws.proofs.Cases.{Outcome, Accepted, step-cases}
use Rattle.ebs_laws.proofs.Others.{others, managed-grows}
use Rattle.ebs_laws.proofs.Given.{grows}
use Rattle.ebs_laws.proofs.Whole.{own_of, Origin, with_started, with_use, created, new_row}
use Rattle.ebs_laws.proofs.Uses.{repeat-aged, fresh-unused, unused-clash, unused-later}

-- the next number, as the machine says it
pub numbered : (o : Option Own) → number_in o ≡ (unwrap_or o no_own).next_snap
numbered None = refl
numbered (Some own) = refl

module _ (m : Machine) (account : ℕ) where
  abbrev Above : Outcome → Type 0
  Above d = next_number m account ≤ next_number d.0 account

  above-accepted : (caller : ℕ) (request : Request) → Accepted Above m caller request
  above-accepted caller (StartSnapshot size parent description tags token timeout) = (
    λ from tests.
        let given : SnapKey = record { account = caller; number = (own_of m caller).next_snap } in
        let row = started_row m.clock given size parent from.line description tags timeout in
        let more = grows m caller row from.array account in
        let was = numbered (fin.get m.own account) in
        let is = numbered (fin.get (with_started m given row from.array).own account) in
        omega (arith, more, was, is),
    λ row tests. omega arith,
  )
  above-accepted caller (PutSnapshotBlock key index digest bytes) = λ s is passes tests. omega arith
  above-accepted caller (CompleteSnapshot key count checksum) = λ s is passes tests. omega arith
  above-accepted caller request = others Above m caller request (λ answer says. omega arith) (λ key s row answer is same says. omega arith) (λ key s answer is same says. omega arith) (λ k row array token answer is says. let same = same-next m k row array token account in let was = numbered (fin.get m.own account) in let now = numbered (fin.get (created m k row array token).own account) in omega (arith, same, was, now)) (λ k row answer there is says. omega arith)
      (λ v of text tags is made.
      let given : SnapKey = record { account = caller; number = (own_of m caller).next_snap } in
      let row = new_row m caller v of text tags in
      let more = grows m caller row (disk_of m v) account in
      let was = numbered (fin.get m.own account) in
      let is = numbered (fin.get (with_started m given row (disk_of m v)).own account) in
      omega (arith, more, was, is))
      (λ v row i digest bytes is asked. omega arith)
      (λ command change answer is says. omega arith)
      (λ snaps own policies answer is says.
      let more = managed-grows m caller request snaps own policies is account in
      let was = numbered (fin.get m.own account) in
      let now = numbered (fin.get own account) in
      omega (arith, more, was, now))

pub above-turn : (m : Machine) (t : Timed) (account : ℕ) → next_number m account ≤ next_number (turn m t).0 account
above-turn m t account =
    let at = advance m (moment_at m t.reading) in
    step-cases (Above at account) m t.call.account t.reading t.call.request (above-accepted at account t.call.account t.call.request) (λ refusal. omega arith)

pub never-fall : NumbersNeverFall
never-fall m [] account = omega arith
never-fall m (t ∷ ts) account =
    let one = above-turn m t account in
    let more = never-fall (turn m t).0 ts account in
    omega (arith, one, more)

-- an id that is given out is the caller's next, and the next number is above it afterwards
module _ (m : Machine) where
  abbrev Gives : ℕ → Request → SnapKey → Outcome → Type 0
  Gives caller request key d = is_repeat m caller request ≡ false → started_id d.1 ≡ Some key → (key.number ≡ next_number m key.account) × (key.number < next_number d.0 key.account)

  nothing : {key : SnapKey} → None ≡ Some key → ⊥
  nothing e = cc

  gives-accepted : (key : SnapKey) (caller : ℕ) (request : Request) → Accepted (Gives caller request key) m caller request
  gives-accepted key caller (StartSnapshot size parent description tags token timeout) = (
    λ from tests fresh e.
        let given : SnapKey = record { account = caller; number = (own_of m caller).next_snap } in
        let row = started_row m.clock given size parent from.line description tags timeout in
        let same : given ≡ key = cc in
        let was = numbered (fin.get m.own caller) in
        let new : next_number (with_started m given row from.array) caller ≡ given.number + 1 = ap number_in (get-itself nat_cmp_total nat_cmp-IsAntisymmetric m.own caller (record (own_of m caller) { next_snap = given.number + 1 })) in
        subst (λ (k : SnapKey). (k.number ≡ next_number m k.account) × (k.number < next_number (with_started m given row from.array) k.account)) same (sym was, omega (arith, new)),
    λ row tests fresh e. absurd (unused-clash m caller token row (fresh-unused m caller size parent description tags token timeout fresh) tests.used),
  )
  gives-accepted key caller (PutSnapshotBlock k index digest bytes) = λ s is passes tests fresh e. cc
  gives-accepted key caller (CompleteSnapshot k count checksum) = λ s is passes tests fresh e. cc
  gives-accepted key caller request = others (Gives caller request key) m caller request (λ answer says fresh e. absurd (nothing (sym says.gives ∙ e))) (λ k s row answer is same says fresh e. absurd (nothing (sym says.gives ∙ e))) (λ k s answer is same says fresh e. absurd (nothing (sym says.gives ∙ e))) (λ k row array token answer is says fresh e. absurd (nothing (sym says.gives ∙ e))) (λ k row answer there is says fresh e. absurd (nothing (sym says.gives ∙ e)))
      (λ v of text tags is made fresh e.
      let given : SnapKey = record { account = caller; number = (own_of m caller).next_snap } in
      let row = new_row m caller v of text tags in
      let same : given ≡ key = cc in
      let was = numbered (fin.get m.own caller) in
      let new : next_number (with_started m given row (disk_of m v)) caller ≡ given.number + 1 = ap number_in (get-itself nat_cmp_total nat_cmp-IsAntisymmetric m.own caller (record (own_of m caller) { next_snap = given.number + 1 })) in
      subst (λ (k : SnapKey). (k.number ≡ next_number m k.account) × (k.number < next_number (with_started m given row (disk_of m v)) k.account)) same (sym was, omega (arith, new)))
      (λ v row i digest bytes is asked fresh e. absurd (nothing e))
      (λ command change answer is says fresh e. absurd (nothing (sym says.gives ∙ e)))
      (λ snaps own policies answer is says fresh e. absurd (nothing (sym says.gives ∙ e)))

pub gives-turn : (m : Machine) (t : Timed) (key : SnapKey) → is_repeat m t.call.account t.call.request ≡ false → started_id (turn m t).1 ≡ Some key → (key.number ≡ next_number m key.account) × (key.number < next_number (turn m t).0 key.account)
gives-turn m t key fresh =
    let at = advance m (moment_at m t.reading) in
    step-cases (Gives at t.call.account t.call.request key) m t.call.account t.reading t.call.request (gives-accepted at key t.call.account t.call.request) (λ refusal fresh e. cc)
    (repeat-aged m (moment_at m t.reading) t.call.account t.call.request ∙ fresh)

pub ids-differ : StartedIdsDiffer
ids-differ m first second between a b fresh other one two same =
    let (was, above) = gives-turn m first a fresh one in
    let (is, rest) = gives-turn (after_all (turn m first).0 between) second b other two in
    let more = never-fall (turn m first).0 between a.account in
    let number = ap (λ (k : SnapKey). k.number) same in
    let there = ap (λ (k : SnapKey). next_number (after_all (turn m first).0 between) k.account) same in
    omega (arith, above, is, more, number, there)

-- the row of a start
abbrev StartsSo : Machine → ℕ → Moment → ℕ → Option SnapKey → Option (List ℕ) → List Tag → ℕ → Option (List ℕ) → ℕ → Option SnapKey → SnapKey → Moment → List Tag → ℕ → Outcome → Type 0
StartsSo m account reading size parent text tags timeout told owner from key begin shown gib d =
    d.1 ≡ Started told owner from key begin shown gib → IsStarted m account reading size parent text tags timeout told owner from key begin shown gib d.0

new-row : (m : Machine) (account size : ℕ) (parent : Option SnapKey) (text : Option (List ℕ)) (tags : List Tag) (token : Option (List ℕ)) (timeout : ℕ) (reading : Moment) (origin : Origin)
    → let at = advance m (moment_at m reading) in let given : SnapKey = record { account = account; number = (own_of at account).next_snap } in
    IsStarted m account reading size parent text tags timeout text account parent given at.clock tags size (with_use at (with_started at given (started_row at.clock given size parent origin.line text tags timeout) origin.array) given (StartSnapshot size parent text tags token timeout) token)
new-row m account size parent text tags token timeout reading origin =
    let at = advance m (moment_at m reading) in
    let given : SnapKey = record { account = account; number = (own_of at account).next_snap } in
    let row = started_row at.clock given size parent origin.line text tags timeout in
    record {
      snapshot = record { row = row; array = origin.array };
      is_there = get-itself snaps_total exact_snaps at.snaps given (record { row = row; array = origin.array });
      row = record {
        key_is = refl;
        size_is = refl;
        parent_is = refl;
        description_is = refl;
        tags_are = refl;
        timeout_is = refl;
        starts = refl;
        last_is = refl;
        not_completed = refl;
        no_put = refl;
        not_shared = refl;
        not_public = refl;
        no_lock = refl;
        tier_is = refl;
        not_binned = refl;
        no_volume = refl;
        no_policy = refl;
      };
      owned = refl;
      told_is = refl;
      owner_is = refl;
      from_is = refl;
      begin_is = refl;
      shown_are = refl;
      size_is = refl;
    }

pub started-wanted : StartedRowIsWanted
started-wanted m account reading size parent text tags token timeout told owner from key begin shown gib unused =
    let at = advance m (moment_at m reading) in
    let given : SnapKey = record { account = account; number = (own_of at account).next_snap } in
    step-cases (StartsSo m account reading size parent text tags timeout told owner from key begin shown gib) m account reading (StartSnapshot size parent text tags token timeout) (
      λ origin tests e.
          let new = with_use at (with_started at given (started_row at.clock given size parent origin.line text tags timeout) origin.array) given (StartSnapshot size parent text tags token timeout) token in
          told_as new (new-row m account size parent text tags token timeout reading origin) e,
      λ row tests e. absurd (unused-later m (moment_at m reading) account token row unused tests.used),
    )
    (λ refusal e. cc)
  where
    told_as : {given : SnapKey} {at : Moment} (new : Machine) → IsStarted m account reading size parent text tags timeout text account parent given at tags size new
        → Started text account parent given at tags size ≡ Started told owner from key begin shown gib
        → IsStarted m account reading size parent text tags timeout told owner from key begin shown gib new
    told_as {given = given} {at = at} new h e =
        let same : given ≡ key = cc in
        let begun : at ≡ begin = cc in
        record {
          snapshot = h.snapshot;
          is_there = ap (fin.get new.snaps) (sym same) ∙ h.is_there;
          row = subst (λ k. IsNewRow k (moment_at m reading) (record { size = size; parent = parent; description = text; tags = tags; timeout = timeout }) h.snapshot.row) same h.row;
          owned = ap (λ (k : SnapKey). k.account) (sym same) ∙ h.owned;
          told_is = cc;
          owner_is = cc;
          from_is = cc;
          begin_is = sym begun ∙ h.begin_is;
          shown_are = cc;
          size_is = cc;
        }
