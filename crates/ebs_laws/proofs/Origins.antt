-- What an upload begins with.
use Rattle.std.proofs.Common.{◌≡◌, ℕ, ◌≤◌, false, nat_lt, Option, Some, None, Result, Ok, Err, sym, ap, subst, ◌∙◌, refl, arith}
use Rattle.std.proofs.lemmas.Bool.Decides.{nat_tests}
use Rattle.std.specs.FinMap as fin
use Rattle.ebs_model.specs.declared.keys.SnapKey.{SnapKey}
use Rattle.ebs_model.specs.declared.answer.Refusal.{Refusal}
use Rattle.ebs_model.specs.Refuse.{◌>>=◌}
use Rattle.ebs_model.specs.Time.{Snapshot}
use Rattle.ebs_model.specs.Access.{base}
use Rattle.ebs_model.specs.Machine.{Machine}
use Rattle.ebs_laws.specs.Uploads.{MayBegin, BeginsAs}
use Rattle.ebs_laws.proofs.Cases.{found}
use Rattle.ebs_laws.proofs.Whole.{of_snapshot, of_nothing, the_snapshot, Origin, origin}

pub at_most : (size least : ℕ) → nat_lt size least ≡ false → least ≤ size
at_most size least e = grind (arith, nat_tests)

reaches : (size least : ℕ) → least ≤ size → nat_lt size least ≡ false
reaches size least h = grind (arith, nat_tests)

module _ (m : Machine) (account : ℕ) (key : SnapKey) (from : Origin) where
  pub parent-found : (parent : SnapKey) → origin m account key (Some parent) ≡ Ok from
      → (s : Snapshot) × (fin.get m.snaps parent ≡ Some s) × (base account parent m.clock.second s.row ≡ Ok tt) × (of_snapshot s ≡ from)
  parent-found parent e = at (the_snapshot m parent (base account parent m.clock.second)) refl e
    where
      at : (r : Result Snapshot Refusal) → the_snapshot m parent (base account parent m.clock.second) ≡ r → (r >>= λ s. Ok (of_snapshot s)) ≡ Ok from
          → (s : Snapshot) × (fin.get m.snaps parent ≡ Some s) × (base account parent m.clock.second s.row ≡ Ok tt) × (of_snapshot s ≡ from)
      at (Ok s) is e = let there = found m parent (base account parent m.clock.second) s is in (s, there.0, there.1, cc)
      at (Err r) is e = cc

  -- what holds of nothing and of each snapshot holds of what an upload begins with
  pub begins-with : (P : Origin → Type 0) → P (of_nothing key) → ((k : SnapKey) (s : Snapshot) → fin.get m.snaps k ≡ Some s → P (of_snapshot s)) → (parent : Option SnapKey) → origin m account key parent ≡ Ok from → P from
  begins-with P none each None e = let same : of_nothing key ≡ from = cc in subst P same none
  begins-with P none each (Some parent) e = let (s, is, passes, same) = parent-found parent e in subst P same (each parent s is)

  pub begins-as : (parent : Option SnapKey) (s : Snapshot) → origin m account key parent ≡ Ok from → s.array ≡ from.array → s.row.line ≡ from.line → from.size ≤ s.row.size → BeginsAs m key parent s
  begins-as None s e array line size = let same : of_nothing key ≡ from = cc in (array ∙ ap (λ (o : Origin). o.array) (sym same), line ∙ ap (λ (o : Origin). o.line) (sym same))
  begins-as (Some parent) s e array line size =
      let (kept, is, passes, same) = parent-found parent e in
      let smaller = ap (λ (o : Origin). o.size) same in
      (kept, is, record { array = array ∙ ap (λ (o : Origin). o.array) (sym same); line = line ∙ ap (λ (o : Origin). o.line) (sym same); size = omega (arith, smaller, size) })

pub may-begin : (m : Machine) (account : ℕ) (key : SnapKey) (parent : Option SnapKey) (size : ℕ) → MayBegin m account parent size → (from : Origin) × (origin m account key parent ≡ Ok from) × (nat_lt size from.size ≡ false)
may-begin m account key None size h = (of_nothing key, refl, reaches size 0 (omega arith))
may-begin m account key (Some parent) size (s, is, passes, fits) = (of_snapshot s, rw (is, passes) refl, reaches size s.row.size fits)
