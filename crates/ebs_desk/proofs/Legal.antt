-- A line of turns that went one after the other is legal.
use Rattle.std.proofs.Common.{◌≡◌, ℕ, ◌≤◌, List, true, refl, ap, sym, ◌∙◌, subst, arith}
use Rattle.ebs_world.specs.View.{View}
use Rattle.ebs_model.specs.Machine.{Machine, advance, moment_of}
use Rattle.ebs_model.specs.Quotas.{Rose}
use Rattle.ebs_model.specs.Step.{step}
use Rattle.ebs_turns.specs.declared.line.Turn.{Turn}
use Rattle.ebs_desk.specs.declared.item.Item.{Item}
use Rattle.ebs_desk.specs.declared.item.Item.TheVariants.{Entry, Fault, Tick, Saving, Full, Staged, Blank}
use Rattle.ebs_recovery.specs.inner.Fits.{Seen, running}
use Rattle.ebs_disk_store.specs.inner.Told.{IfSound}
use Rattle.ebs_disk_store.specs.inner.Fetched.{answer_of}
use Rattle.ebs_desk.specs.Line.{machine_after, IsAnswered, AreAnswered, count_after, IsRisen, AreRisen, run_line, last_count}
use Rattle.ebs_desk.specs.Turns.{Did, Went}
use Rattle.ebs_desk.proofs.Went.{along, same_step}

module _ {D : Type 0} (sound : Type 0) (view : D → View) where
  -- the store's machine is this, over a disk that keeps its promises and tells
  pub record IsAt (m : Machine) (s : Seen) (d : D) : Type 0 where
    pub machine : m ≡ running (view d) s
    pub tells : (view d).tells ≡ true
    pub honest : (view d).honest ≡ true

  pub one_answer : sound → (m : Machine) (s : Seen) (d : D) (item : Item D) (t : Seen) (e : D) → Did sound view s d item t e → IsAt m s d → IsAnswered m item × IsAt (machine_after m item) t e
  one_answer sure m s d (Entry account reading asked said) t e did r = let is = same_step (λ n. step n account reading asked.value) m (running (view d) s) (running (view e) t) (answer_of said.value) r.machine (did.did.step sure r.tells r.honest) in
      (is.0, record { machine = is.1; tells = did.goes.told ∙ r.tells; honest = did.goes.honest ∙ r.honest })
  one_answer sure m s d (Fault before after) t e did r = (tt, record { machine = r.machine ∙ sym (did.did.3 sure r.tells r.honest); tells = did.goes.told ∙ r.tells; honest = did.goes.honest ∙ r.honest })
  one_answer sure m s d (Tick reading work progress) t e did r =
      (tt, record { machine = ap (λ (n : Machine). advance n (moment_of n reading)) r.machine ∙ sym (did.did.1 sure r.tells r.honest); tells = did.goes.told ∙ r.tells; honest = did.goes.honest ∙ r.honest })
  one_answer sure m s d (Saving left) t e did r = (tt, record { machine = r.machine ∙ sym (did.did.2 sure r.tells r.honest); tells = did.goes.told ∙ r.tells; honest = did.goes.honest ∙ r.honest })
  one_answer sure m s d Full t e did r = (tt, record { machine = r.machine ∙ sym (did.did.1 sure r.tells r.honest); tells = did.goes.told ∙ r.tells; honest = did.goes.honest ∙ r.honest })
  one_answer sure m s d (Staged block) t e did r = (tt, record { machine = r.machine ∙ sym (did.did sure r.tells r.honest); tells = did.goes.told ∙ r.tells; honest = did.goes.honest ∙ r.honest })
  one_answer sure m s d Blank t e did r = (tt, record { machine = r.machine ∙ sym (did.did sure r.tells r.honest); tells = did.goes.told ∙ r.tells; honest = did.goes.honest ∙ r.honest })

  -- on an honest disk with a sound store each answer is the machine's, and the machine in the end is the one that the line leaves
  pub answered : (s : Seen) (d : D) (line : List (Turn (Item D))) (t : Seen) (e : D) → Went sound view s d line t e → IfSound sound (view d) (AreAnswered (running (view d) s) line × (running (view e) t ≡ run_line (running (view d) s) line))
  answered s d line t e went sure tells honest = let r = along sound view machine_after IsAnswered IsAt (one_answer sure) (running (view d) s) s d line t e went (record { machine = refl; tells = tells; honest = honest }) in (r.0, sym r.1.machine)

  one_count : (count : ℕ) (s : Seen) (d : D) (item : Item D) (t : Seen) (e : D) → Did sound view s d item t e → count ≤ (view d).faults → IsRisen view count item × (count_after view count item ≤ (view e).faults)
  one_count count s d (Entry account reading asked said) t e did le = let c = did.goes.count in (tt, omega arith)
  one_count count s d (Fault before after) t e did le = let is = did.did in
      (subst (λ (z : D × D). (count ≤ (view z.0).faults) × Rose (view z.0).faults (view z.1).faults) (λ i. (sym is.0 i, sym is.1 i)) (le, is.2), subst (λ (z : D). (view z).faults ≤ (view e).faults) (sym is.1) (omega arith))
  one_count count s d (Tick reading work progress) t e did le = let c = did.goes.count in (tt, omega arith)
  one_count count s d (Saving left) t e did le = let c = did.goes.count in (tt, omega arith)
  one_count count s d Full t e did le = let c = did.goes.count in (tt, omega arith)
  one_count count s d (Staged block) t e did le = let c = did.goes.count in (tt, omega arith)
  one_count count s d Blank t e did le = let c = did.goes.count in (tt, omega arith)

  -- the count of each fault rose, and the disk's is no less than the last
  pub risen : (s : Seen) (d : D) (line : List (Turn (Item D))) (t : Seen) (e : D) → Went sound view s d line t e → AreRisen view (view d).faults line × (last_count view (view d).faults line ≤ (view e).faults)
  risen s d line t e went = along sound view (count_after view) (IsRisen view) (λ count s d. count ≤ (view d).faults) one_count (view d).faults s d line t e went (omega arith)
